-- What a reading command prints.
use Rattle.std.proofs.Common.{◌≡◌, ℕ, ◌+◌, ◌<◌, ◌≤◌, Bool, true, false, cond, List, [], ◌∷◌, length, map, refl, sym, ap, ◌∙◌, arith, Option, inl, inr, ◌⊎◌, ◌||◌}
use Rattle.std.specs.Prelude.{nat_lt}
use Rattle.std.proofs.lemmas.Bool.Decides.{nat_tests}
use Rattle.std.proofs.lemmas.List.{ext_get_or}
use Rattle.std.proofs.lemmas.List.FromFn.{get_or-map-range_with_len, length-map-range_with_len}
use Rattle.lama_model.specs.Graph.{Graph, IsGraph}
use Rattle.lama_model.specs.Row.{row, row_at, rows_of, AreRowsOf, graph_of_rows}
use Rattle.lama_model.specs.Levels.{is_among, leads, level, levels}
use Rattle.lama_model.specs.Labels.{label, labels, AreFirst}
use Rattle.lama_model.specs.Opening.{empty_opening}
use Rattle.lama_model.specs.Journal.{reply_at}
use Rattle.lama_model.specs.Lines.{reply_line, refusal_line, row_line, as_of_line, edges_lines, levels_text, labels_text}
use Rattle.lama_model.specs.Text.{read_lines, look_of}
use Rattle.lama_model.specs.declared.calls.Write.TheVariants.{Vertices, Add, Remove, Weigh}
use Rattle.lama_model.specs.declared.commands.Command.{Command}
use Rattle.lama_model.specs.declared.commands.Command.TheVariants.{Write as Writes, Checkpoint as Checkpoints, Merge as Merges, Retire as Retires, Read as Reads}
use Rattle.lama_model.specs.declared.commands.Read.{Read}
use Rattle.lama_model.specs.declared.commands.Read.TheVariants.{Row, Edges, Bfs, Labels, AsOf}
use Rattle.lama_model.specs.declared.answers.Reply.{Reply}
use Rattle.lama_model.specs.declared.answers.Reply.TheVariants.{Accepted, Count, Snapshot, Kept, Refused}
use Rattle.lama_model.specs.declared.answers.Refusal.{Refusal}
use Rattle.lama_model.specs.declared.answers.Refusal.TheVariants.{UnknownVertex, NoSnapshot}
use Rattle.lama_model.proofs.RowsOfGraph.{row-of-rows}
use Rattle.lama_model.proofs.LevelLaw.{levels_same}
use Rattle.lama_model.proofs.LabelLaw.{graph-ends, labels_are, labels_same, labels_first}
use Rattle.lama_model.proofs.Leading.{leads-graph}
use Rattle.lama_snapshot.specs.Targets.{targets_of, all_targets}
use Rattle.lama_snapshot.proofs.TargetRows.{row-targets, count-targets}
use Rattle.lama_model.proofs.GraphSteps.{row-everywhere}
use Rattle.llama_main.specs.Store.{Held}
use Rattle.llama_main.specs.Expected.{printed, printed_reading, held_after}

-- a refusal's line is the same for any command
pub reply_line-refused : (c : Command) (r : Refusal) → reply_line c (Refused r) ≡ refusal_line r
unfolding reply_line
reply_line-refused (Writes (Vertices n)) r = refl
reply_line-refused (Writes (Add u v w)) r = refl
reply_line-refused (Writes (Remove u v)) r = refl
reply_line-refused (Writes (Weigh u v w)) r = refl
reply_line-refused Checkpoints r = refl
reply_line-refused Merges r = refl
reply_line-refused (Retires k) r = refl
reply_line-refused (Reads at what) r = refl

default_line : (h : Held) (at : Option ℕ) (what : Read) (r : Reply) → ((k : ℕ) → r ≡ Snapshot k → ⊥) → reply_line (Reads at what) r ≡ printed_reading h (Reads at what) what r
unfolding reply_line
default_line h at what Accepted none = refl
default_line h at what (Count n) none = refl
default_line h at what (Snapshot k) none = absurd (none k refl)
default_line h at what (Kept a b) none = refl
default_line h at what (Refused r) none = refl

-- a reply that hands out no snapshot is all that is printed
pub printed-default : (h : Held) (c : Command) (at : Option ℕ) (what : Read) (r : Reply) → c ≡ Reads at what → r ≡ reply_at empty_opening h.standing (look_of at) → ((k : ℕ) → r ≡ Snapshot k → ⊥) → reply_line c r ≡ printed h c
printed-default h c at what r is reply none =
    ap (λ (x : Command). reply_line x r) is ∙ (default_line (held_after h (Reads at what)) at what r none ∙ (ap (printed_reading (held_after h (Reads at what)) (Reads at what) what) reply ∙ sym (ap (printed h) is)))

-- a row that is there
pub row-read : (gs : ℕ → Graph) (f : ℕ) (rows : List (List (ℕ × ℕ))) (k v : ℕ) → AreRowsOf rows (gs k) → v < (gs k).count → row_line k v (row_at rows v) ≡ read_lines gs f k (Row v)
unfolding read_lines
row-read gs f rows k v of below =
    let test : nat_lt v (gs k).count ≡ true = grind (arith, nat_tests) in
    ap (row_line k v) (of.each v below) ∙ sym (ap (λ (b : Bool). cond b (row_line k v (row (gs k) v)) (refusal_line (UnknownVertex v (gs k).count))) test)

-- a vertex that isn't there
pub row-refused : (gs : ℕ → Graph) (f count k v : ℕ) → count ≡ (gs k).count → count ≤ v → refusal_line (UnknownVertex v count) ≡ read_lines gs f k (Row v)
unfolding read_lines
row-refused gs f count k v same_count past =
    let test : nat_lt v (gs k).count ≡ false = grind (arith, nat_tests) in
    ap (λ (n : ℕ). refusal_line (UnknownVertex v n)) same_count ∙ sym (ap (λ (b : Bool). cond b (row_line k v (row (gs k) v)) (refusal_line (UnknownVertex v (gs k).count))) test)

-- an earlier number that is not told
pub as_of-untold : (gs : ℕ → Graph) (f k j v : ℕ) → (j < f) ⊎ (k < j) → refusal_line (NoSnapshot j f k) ≡ read_lines gs f k (AsOf j v)
unfolding read_lines
as_of-untold gs f k j v out = sym (ap (λ (b : Bool). cond b (refusal_line (NoSnapshot j f k)) (cond (nat_lt v (gs k).count) (as_of_line k j v (map (λ p. p.0) (row (gs j) v))) (refusal_line (UnknownVertex v (gs k).count)))) (by out))
  where
    or-true : (b : Bool) → (b || true) ≡ true
    or-true true = refl
    or-true false = refl

    by : (j < f) ⊎ (k < j) → (nat_lt j f || nat_lt k j) ≡ true
    by (inl low) = (let t : nat_lt j f ≡ true = grind (arith, nat_tests, low) in ap (λ b. b || nat_lt k j) t)
    by (inr high) = (let t : nat_lt k j ≡ true = grind (arith, nat_tests, high) in ap (λ b. nat_lt j f || b) t ∙ or-true (nat_lt j f))

-- and one that is, of a vertex that is there or not
as_of-within : (gs : ℕ → Graph) (f k j v : ℕ) → f ≤ j → j ≤ k → cond (nat_lt v (gs k).count) (as_of_line k j v (map (λ p. p.0) (row (gs j) v))) (refusal_line (UnknownVertex v (gs k).count)) ≡ read_lines gs f k (AsOf j v)
unfolding read_lines
as_of-within gs f k j v low high =
    let t : nat_lt j f ≡ false = grind (arith, nat_tests, low) in
    let u : nat_lt k j ≡ false = grind (arith, nat_tests, high) in
    sym ((λ i. cond (t i || u i) (refusal_line (NoSnapshot j f k)) (cond (nat_lt v (gs k).count) (as_of_line k j v (map (λ p. p.0) (row (gs j) v))) (refusal_line (UnknownVertex v (gs k).count)))))

pub as_of-read : (gs : ℕ → Graph) (f k j v : ℕ) (targets : List ℕ) → f ≤ j → j ≤ k → v < (gs k).count → targets ≡ map (λ p. p.0) (row (gs j) v) → as_of_line k j v targets ≡ read_lines gs f k (AsOf j v)
as_of-read gs f k j v targets low high below are =
    let test : nat_lt v (gs k).count ≡ true = grind (arith, nat_tests, below) in
    ap (as_of_line k j v) are
    ∙ (sym (ap (λ (b : Bool). cond b (as_of_line k j v (map (λ p. p.0) (row (gs j) v))) (refusal_line (UnknownVertex v (gs k).count))) test) ∙ as_of-within gs f k j v low high)

pub as_of-refused : (gs : ℕ → Graph) (f count k j v : ℕ) → f ≤ j → j ≤ k → count ≡ (gs k).count → count ≤ v → refusal_line (UnknownVertex v count) ≡ read_lines gs f k (AsOf j v)
as_of-refused gs f count k j v low high same_count past =
    let test : nat_lt v (gs k).count ≡ false = grind (arith, nat_tests, same_count, past) in
    ap (λ (n : ℕ). refusal_line (UnknownVertex v n)) same_count
    ∙ (sym (ap (λ (b : Bool). cond b (as_of_line k j v (map (λ p. p.0) (row (gs j) v))) (refusal_line (UnknownVertex v (gs k).count))) test) ∙ as_of-within gs f k j v low high)

all-rows : (g : Graph) (rows : List (List (ℕ × ℕ))) → AreRowsOf rows g → rows ≡ rows_of g
unfolding rows_of
all-rows g rows of =
    ext_get_or [] rows (rows_of g) (of.count ∙ sym (length-map-range_with_len (row g) 0 g.count)) (λ v lt.
    let below : v < g.count = (let many = of.count in omega (arith, lt, many)) in
    of.each v below ∙ sym (get_or-map-range_with_len (row g) 0 g.count v v [] below (let e : 0 + v ≡ v = omega arith in e)))

-- all rows
pub edges-read : (gs : ℕ → Graph) (f : ℕ) (rows : List (List (ℕ × ℕ))) (k : ℕ) → AreRowsOf rows (gs k) → edges_lines k rows ≡ read_lines gs f k Edges
unfolding read_lines
edges-read gs f rows k of = ap (edges_lines k) (all-rows (gs k) rows of)

-- the targets alone decide which edges lead
pub firsts : (row : List (ℕ × ℕ)) → map (λ p. p.0) (targets_of row) ≡ map (λ p. p.0) row
firsts [] = refl
firsts (p ∷ row) = ap (λ l. p.0 ∷ l) (firsts row)

leads-targets : (g : Graph) (rows : List (List (ℕ × ℕ))) → AreRowsOf rows g → IsGraph g → (u v : ℕ) → leads (graph_of_rows (all_targets rows)).edges u v ≡ leads g.edges u v
leads-targets g rows of is u v =
    leads-graph (graph_of_rows (all_targets rows)) u v
    ∙ (ap (λ r. is_among v (map (λ p. p.0) r)) (row-of-rows (all_targets rows) u ∙ row-targets rows u)
    ∙ (ap (is_among v) (firsts (row_at rows u) ∙ ap (map (λ p. p.0)) (row-everywhere rows g u of is))
    ∙ sym (leads-graph g u v)))

-- all levels
pub levels-read : (gs : ℕ → Graph) (f : ℕ) (rows : List (List (ℕ × ℕ))) (k s : ℕ) (sum : Bool) → AreRowsOf rows (gs k) → IsGraph (gs k) → s < (gs k).count → levels_text k s (levels (graph_of_rows (all_targets rows)) s) sum ≡ read_lines gs f k (Bfs s sum)
unfolding read_lines
levels-read gs f rows k s sum of is below =
    let test : nat_lt s (gs k).count ≡ true = grind (arith, nat_tests) in
    ap (λ ls. levels_text k s ls sum) (levels_same (graph_of_rows (all_targets rows)) (gs k) (count-targets rows ∙ of.count) (leads-targets (gs k) rows of is) s)
    ∙ sym (ap (λ (b : Bool). cond b (levels_text k s (levels (gs k) s) sum) (refusal_line (UnknownVertex s (gs k).count))) test)

-- a source that isn't there
pub levels-refused : (gs : ℕ → Graph) (f count k s : ℕ) (sum : Bool) → count ≡ (gs k).count → count ≤ s → refusal_line (UnknownVertex s count) ≡ read_lines gs f k (Bfs s sum)
unfolding read_lines
levels-refused gs f count k s sum same_count past =
    let test : nat_lt s (gs k).count ≡ false = grind (arith, nat_tests) in
    ap (λ (n : ℕ). refusal_line (UnknownVertex s n)) same_count ∙ sym (ap (λ (b : Bool). cond b (levels_text k s (levels (gs k) s) sum) (refusal_line (UnknownVertex s (gs k).count))) test)

-- there is one for each vertex
pub levels-count : (g : Graph) (s : ℕ) → length (levels g s) ≡ g.count
unfolding levels
levels-count g s = length-map-range_with_len (level g s) 0 g.count

-- all labels
pub labels-same : (g : Graph) (rows : List (List (ℕ × ℕ))) → AreRowsOf rows g → IsGraph g → labels (graph_of_rows (all_targets rows)) ≡ labels g
labels-same g rows of is = labels_same (graph_of_rows (all_targets rows)) g is (count-targets rows ∙ of.count) (leads-targets g rows of is)

pub labels-read : (gs : ℕ → Graph) (f k : ℕ) (sum : Bool) → labels_text k (labels (gs k)) sum ≡ read_lines gs f k (Labels sum)
unfolding read_lines
labels-read gs f k sum = refl

pub labels-count : (g : Graph) → length (labels g) ≡ g.count
unfolding labels
labels-count g = length-map-range_with_len (label g) 0 g.count

-- each names its component
pub labels-first : (g : Graph) → IsGraph g → AreFirst (labels g)
labels-first g is = labels_first g (graph-ends g is) (labels g) (labels_are g (graph-ends g is))
