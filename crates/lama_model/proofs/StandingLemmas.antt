-- What holds of all that journals leave.
use Rattle.std.proofs.Common.{◌≡◌, ◌∙◌, ℕ, ◌+◌, ◌-◌, ◌<◌, ◌≤◌, List, [], ◌∷◌, ◌++◌, length, get_or, cond, leb, Bool, true, false, not, refl, sym, ap, arith}
use Rattle.std.specs.Prelude.{fold, All, nat_le, nat_lt, ◌||◌}
use Rattle.std.proofs.lemmas.Bool.{false≢true, lt-leb}
use Rattle.std.proofs.lemmas.Bool.Decides.{nat_tests}
use Rattle.std.proofs.lemmas.List.{get_or_append_left, get_or_push, length_push, length-map}
use Rattle.std.proofs.lemmas.List.Sums.{fold-append, length-filter, count_by-le-length}
use Rattle.std.proofs.lemmas.List.Elements.{All-push, All-filter, All-map, All-weaker, All-nil}
use Rattle.lama_base.specs.declared.Edge.{Edge}
use Rattle.lama_model.specs.Graph.{Graph, IsGraph, IsNamedBelow, no_graph, effect, joins, with_weight}
use Rattle.lama_model.specs.Change.{graph_after}
use Rattle.lama_model.specs.Opening.{Opening, IsOpening, last_number, last_graph, opening_graph}
use Rattle.lama_model.specs.Journal.{Standing, begun, newest_of, graph_of, standing, reply_at, reply_to_write, with_ends, with_kept, is_accepted, edges_added, done, after}
use Rattle.lama_model.specs.declared.answers.Reply.{Reply}
use Rattle.lama_model.specs.declared.answers.Reply.TheVariants.{Accepted, Count, Snapshot, Kept, Refused}
use Rattle.lama_model.specs.declared.answers.Refusal.{Refusal}
use Rattle.lama_model.specs.declared.answers.Refusal.TheVariants.{UnknownVertex, FullVertices, FullEdges, FullKept, FullNumbers, NoSnapshot}
use Rattle.lama_model.specs.declared.calls.Write.{Write}
use Rattle.lama_model.specs.declared.calls.Write.TheVariants.{Vertices, Add, Remove, Weigh}
use Rattle.lama_model.specs.declared.calls.Call.{Call}
use Rattle.lama_model.specs.declared.calls.Call.TheVariants.{Write as Writes, Checkpoint, Look, LookAt, Install, Retire}
use Rattle.lama_model.specs.declared.calls.Entry.{Entry}

-- what holds at the start and is kept by each call holds of each journal
pub standing-keeps : (o : Opening) (P : Standing → Type 0) → P (begun o) → ((s : Standing) (call : Call) → P s → P (after o s call)) → (journal : List Entry) → P (standing o journal)
unfolding standing
standing-keeps o P start step journal = run journal (begun o) start
  where
    run : (journal : List Entry) (s : Standing) → P s → P (fold (λ s e. after o s e.call) s journal)
    run [] s h = h
    run (e ∷ journal) s h = run journal (after o s e.call) (step s e.call h)

-- one entry more
pub standing-push : (o : Opening) (journal : List Entry) (e : Entry) → standing o (journal ++ e ∷ []) ≡ after o (standing o journal) e.call
unfolding standing
standing-push o journal e = fold-append (λ (s : Standing) (e : Entry). after o s e.call) (begun o) journal (e ∷ [])

-- what holds of the journals and of what is accepted
pub record IsStanding (o : Opening) (s : Standing) : Type 0 where
  pub written : length s.written ≡ length s.made
  pub stands : s.graph ≡ graph_after s.pending (graph_of o s (newest_of o s))
  pub is_graph : IsGraph s.graph
  pub few_vertices : s.graph.count ≤ 4194304
  pub few_edges : length s.graph.edges ≤ s.added
  pub few_added : s.added ≤ 33554432
  pub named : All (IsNamedBelow s.graph.count) s.pending
  pub oldest : s.oldest ≤ newest_of o s
  pub from_floor : o.oldest ≤ s.oldest
  pub number : newest_of o s ≤ 100000000

-- a reply behind a test is accepted only where the test holds
pub passes : (b : Bool) (q : Refusal) (r : Reply) → is_accepted (cond (not b) (Refused q) r) ≡ true → (b ≡ true) × (is_accepted r ≡ true)
passes true q r h = (refl, h)
passes false q r h = absurd (false≢true h)

pub fails : (b : Bool) (q : Refusal) (r : Reply) → is_accepted (cond b (Refused q) r) ≡ true → (b ≡ false) × (is_accepted r ≡ true)
fails false q r h = (refl, h)
fails true q r h = absurd (false≢true h)

pub ends-below : (s : Standing) (u v : ℕ) (r : Reply) → is_accepted (with_ends s u v r) ≡ true → (u < s.graph.count) × (v < s.graph.count) × (is_accepted r ≡ true)
ends-below s u v r h =
    let first = passes (nat_lt u s.graph.count) (UnknownVertex u s.graph.count) (cond (not (nat_lt v s.graph.count)) (Refused (UnknownVertex v s.graph.count)) r) h in
    let second = passes (nat_lt v s.graph.count) (UnknownVertex v s.graph.count) r first.1 in
    let one = first.0 in let two = second.0 in
    (grind (arith, nat_tests, one), grind (arith, nat_tests, two), second.1)

IsNamedBelow-more : (m n : ℕ) → m ≤ n → (w : Write) → IsNamedBelow m w → IsNamedBelow n w
IsNamedBelow-more m n le (Vertices k) h = tt
IsNamedBelow-more m n le (Add u v w) h = let a = h.0 in let b = h.1 in (omega (arith, a, le), omega (arith, b, le))
IsNamedBelow-more m n le (Remove u v) h = let a = h.0 in let b = h.1 in (omega (arith, a, le), omega (arith, b, le))
IsNamedBelow-more m n le (Weigh u v w) h = let a = h.0 in let b = h.1 in (omega (arith, a, le), omega (arith, b, le))

pub named-more : (m n : ℕ) (ws : List Write) → m ≤ n → All (IsNamedBelow m) ws → All (IsNamedBelow n) ws
named-more m n ws le h = All-weaker (IsNamedBelow m) (IsNamedBelow n) (IsNamedBelow-more m n le) ws h

-- a write by vertices below the count leaves a graph
pub effect-graph : (w : Write) (g : Graph) → IsNamedBelow g.count w → IsGraph g → IsGraph (effect w g)
effect-graph (Vertices n) g named is = All-weaker (λ (e : Edge). (e.source < g.count) × (e.target < g.count)) (λ (e : Edge). (e.source < g.count + n) × (e.target < g.count + n)) (λ e h. let a = h.0 in let b = h.1 in (omega (arith, a), omega (arith, b))) g.edges is
effect-graph (Add u v w) g named is = All-push (λ (e : Edge). (e.source < g.count) × (e.target < g.count)) g.edges (record { source = u; target = v; weight = w }) is (named.0, named.1)
effect-graph (Remove u v) g named is = All-filter (λ (e : Edge). not (joins u v e)) (λ (e : Edge). (e.source < g.count) × (e.target < g.count)) g.edges is
effect-graph (Weigh u v w) g named is = All-map (λ (e : Edge). (e.source < g.count) × (e.target < g.count)) (λ (e : Edge). cond (joins u v e) (with_weight w e) e) g.edges (λ k d lt. by (joins u v (get_or g.edges k d)) (get_or g.edges k d) (is k d lt))
  where
    by : (b : Bool) (e : Edge) → (e.source < g.count) × (e.target < g.count) → ((cond b (with_weight w e) e).source < g.count) × ((cond b (with_weight w e) e).target < g.count)
    by true e h = h
    by false e h = h

-- a write doesn't take vertices away
pub effect-count : (w : Write) (g : Graph) → g.count ≤ (effect w g).count
effect-count (Vertices n) g = omega arith
effect-count (Add u v w) g = omega arith
effect-count (Remove u v) g = omega arith
effect-count (Weigh u v w) g = omega arith

pub graph_after-count : (writes : List Write) (g : Graph) → g.count ≤ (graph_after writes g).count
graph_after-count [] g = omega arith
graph_after-count (w ∷ writes) g = let first = effect-count w g in let rest = graph_after-count writes (effect w g) in omega (arith, first, rest)

-- and adds no more edges than those that count for the limit
effect-edges : (w : Write) (g : Graph) → length (effect w g).edges ≤ length g.edges + edges_added w
effect-edges (Vertices n) g = omega arith
effect-edges (Add u v w) g = let l = length_push g.edges (record { source = u; target = v; weight = w }) in omega (arith, l)
effect-edges (Remove u v) g =
    let l = length-filter (λ (e : Edge). not (joins u v e)) g.edges in
    let m = count_by-le-length (λ (e : Edge). not (joins u v e)) g.edges in omega (arith, l, m)
effect-edges (Weigh u v w) g = let l = length-map g.edges (λ (e : Edge). cond (joins u v e) (with_weight w e) e) in omega (arith, l)

-- what an accepted write meets
pub record Meets (s : Standing) (w : Write) : Type 0 where
  pub named : IsNamedBelow s.graph.count w
  pub vertices : (effect w s.graph).count ≤ 4194304
  pub edges : s.added + edges_added w ≤ 33554432

pub accepted_write : (s : Standing) (w : Write) → s.graph.count ≤ 4194304 → s.added ≤ 33554432 → is_accepted (reply_to_write s w) ≡ true → Meets s w
unfolding reply_to_write
accepted_write s (Vertices n) few many h =
    let t = fails (nat_lt 4194304 (s.graph.count + n)) FullVertices (Count (s.graph.count + n)) h in
    let is = t.0 in
    record { named = tt; vertices = grind (arith, nat_tests, is); edges = omega (arith, many) }
accepted_write s (Add u v w) few many h =
    let t = ends-below s u v (cond (nat_le 33554432 s.added) (Refused FullEdges) Accepted) h in
    let r = fails (nat_le 33554432 s.added) FullEdges Accepted t.2 in
    let is = r.0 in
    record { named = (t.0, t.1); vertices = few; edges = let room : s.added < 33554432 = grind (arith, nat_tests, is) in omega (arith, room) }
accepted_write s (Remove u v) few many h = let t = ends-below s u v Accepted h in record { named = (t.0, t.1); vertices = few; edges = omega (arith, many) }
accepted_write s (Weigh u v w) few many h = let t = ends-below s u v Accepted h in record { named = (t.0, t.1); vertices = few; edges = omega (arith, many) }

-- the graphs that are there are the same after one more
pub graph_of-made : (o : Opening) (s : Standing) (g : Graph) (k : ℕ) → k ≤ newest_of o s → (let s' : Standing = record s { made = s.made ++ g ∷ [] } in graph_of o s' k ≡ graph_of o s k)
graph_of-made o s g k within = by (leb k (last_number o)) refl
  where
    by : (b : Bool) → leb k (last_number o) ≡ b → cond b (opening_graph o k) (get_or (s.made ++ g ∷ []) (k - last_number o - 1) no_graph) ≡ cond b (opening_graph o k) (get_or s.made (k - last_number o - 1) no_graph)
    by true is = refl
    by false is = let above : last_number o < k = grind (arith, nat_tests, is) in get_or_append_left s.made (g ∷ []) no_graph (k - last_number o - 1) (omega (arith, within, above))

-- and the new one has the next number
pub graph_of-new : (o : Opening) (s : Standing) (g : Graph) → (let s' : Standing = record s { made = s.made ++ g ∷ [] } in graph_of o s' (newest_of o s + 1) ≡ g)
graph_of-new o s g =
    let high : leb (newest_of o s + 1) (last_number o) ≡ false = lt-leb (newest_of o s + 1) (last_number o) (omega arith) in
    ap (λ b. cond b (opening_graph o (newest_of o s + 1)) (get_or (s.made ++ g ∷ []) (newest_of o s + 1 - last_number o - 1) no_graph)) high
    ∙ get_or_push s.made g no_graph (newest_of o s + 1 - last_number o - 1) (omega arith)

graph_after-push : (writes : List Write) (w : Write) (g : Graph) → graph_after (writes ++ w ∷ []) g ≡ effect w (graph_after writes g)
graph_after-push writes w g = fold-append (λ (h : Graph) (w : Write). effect w h) g writes (w ∷ [])

standing-start : (o : Opening) → IsOpening o → IsStanding o (begun o)
standing-start o h = record {
  written = refl;
  stands = sym (ap (λ b. cond b (opening_graph o (last_number o + 0)) no_graph) (at_last) ∙ ap (opening_graph o) (omega arith));
  is_graph = h.graphs (last_number o);
  few_vertices = h.vertices;
  few_edges = omega arith;
  few_added = h.edges;
  named = All-nil (IsNamedBelow (last_graph o).count);
  oldest = let a = h.to_newest in omega (arith, a);
  from_floor = omega arith;
  number = let a = h.number in omega (arith, a);
}
  where
    at_last : leb (last_number o + 0) (last_number o) ≡ true
    at_last = grind (arith, nat_tests)

standing-write : (o : Opening) (s : Standing) (w : Write) → IsStanding o s → is_accepted (reply_at o s (Writes w)) ≡ true → IsStanding o (done (Writes w) s)
unfolding reply_at
standing-write o s w h ok =
    let m = accepted_write s w h.few_vertices h.few_added ok in
    record {
      written = h.written;
      stands = ap (effect w) h.stands ∙ sym (graph_after-push s.pending w (graph_of o s (newest_of o s)));
      is_graph = effect-graph w s.graph m.named h.is_graph;
      few_vertices = m.vertices;
      few_edges = let a = effect-edges w s.graph in let b = h.few_edges in omega (arith, a, b);
      few_added = m.edges;
      named = All-push (IsNamedBelow (effect w s.graph).count) s.pending w (named-more s.graph.count (effect w s.graph).count s.pending (effect-count w s.graph) h.named) (IsNamedBelow-more s.graph.count (effect w s.graph).count (effect-count w s.graph) w m.named);
      oldest = h.oldest;
      from_floor = h.from_floor;
      number = h.number;
    }

-- what an accepted checkpoint meets
pub made-meets : (o : Opening) (s : Standing) → is_accepted (reply_at o s Checkpoint) ≡ true → (newest_of o s < 100000000) × (newest_of o s + 1 - s.oldest < 4096)
unfolding reply_at
made-meets o s ok =
    let a = fails (nat_le 100000000 (newest_of o s)) FullNumbers (cond (nat_le 4096 (newest_of o s + 1 - s.oldest)) (Refused FullKept) (Snapshot (newest_of o s + 1))) ok in
    let b = fails (nat_le 4096 (newest_of o s + 1 - s.oldest)) FullKept (Snapshot (newest_of o s + 1)) a.1 in
    let one = a.0 in let two = b.0 in
    (grind (arith, nat_tests, one), grind (arith, nat_tests, two))

standing-made : (o : Opening) (s : Standing) → IsStanding o s → is_accepted (reply_at o s Checkpoint) ≡ true → IsStanding o (done Checkpoint s)
standing-made o s h ok =
    let m = made-meets o s ok in
    let l : length (s.made ++ s.graph ∷ []) ≡ length s.made + 1 = length_push s.made s.graph in
    let one = m.0 in
    record {
      written = length_push s.written s.pending ∙ (ap (λ n. n + 1) h.written ∙ sym l);
      stands = sym (ap (graph_of o (done Checkpoint s)) (omega (arith, l)) ∙ graph_of-new o s s.graph);
      is_graph = h.is_graph;
      few_vertices = h.few_vertices;
      few_edges = h.few_edges;
      few_added = h.few_added;
      named = All-nil (IsNamedBelow s.graph.count);
      oldest = let a = h.oldest in omega (arith, a, l);
      from_floor = h.from_floor;
      number = omega (arith, one, l);
    }

-- the number of an accepted call on kept snapshots is one of theirs
pub kept-within : (o : Opening) (s : Standing) (k : ℕ) (r : Reply) → is_accepted (with_kept o s k r) ≡ true → (s.oldest ≤ k) × (k ≤ newest_of o s)
kept-within o s k r ok =
    let a = (fails (nat_lt k s.oldest || nat_lt (newest_of o s) k) (NoSnapshot k s.oldest (newest_of o s)) r ok).0 in
    both (nat_lt k s.oldest) (nat_lt (newest_of o s) k) refl refl a
  where
    both : (x y : Bool) → nat_lt k s.oldest ≡ x → nat_lt (newest_of o s) k ≡ y → x || y ≡ false → (s.oldest ≤ k) × (k ≤ newest_of o s)
    both true y p q h = absurd (false≢true (sym h))
    both false true p q h = absurd (false≢true (sym h))
    both false false p q h = (grind (arith, nat_tests, p), grind (arith, nat_tests, q))

standing-retire : (o : Opening) (s : Standing) (k : ℕ) → IsStanding o s → is_accepted (reply_at o s (Retire k)) ≡ true → IsStanding o (done (Retire k) s)
unfolding reply_at
standing-retire o s k h ok =
    let m = kept-within o s k (Kept k (newest_of o s)) ok in
    let low = m.0 in let high = m.1 in let old = h.from_floor in
    record {
      written = h.written;
      stands = h.stands;
      is_graph = h.is_graph;
      few_vertices = h.few_vertices;
      few_edges = h.few_edges;
      few_added = h.few_added;
      named = h.named;
      oldest = let a = h.oldest in omega (arith, a, high);
      from_floor = omega (arith, old);
      number = h.number;
    }

choose : (o : Opening) (b : Bool) (t s : Standing) → (b ≡ true → IsStanding o t) → IsStanding o s → IsStanding o (cond b t s)
choose o true t s ok kept = ok refl
choose o false t s ok kept = kept

pub standing-step : (o : Opening) (s : Standing) (call : Call) → IsStanding o s → IsStanding o (after o s call)
unfolding after
standing-step o s (Writes w) h = choose o (is_accepted (reply_at o s (Writes w))) (done (Writes w) s) s (standing-write o s w h) h
standing-step o s Checkpoint h = choose o (is_accepted (reply_at o s Checkpoint)) (done Checkpoint s) s (standing-made o s h) h
standing-step o s Look h = choose o (is_accepted (reply_at o s Look)) s s (λ ok. h) h
standing-step o s (LookAt k) h = choose o (is_accepted (reply_at o s (LookAt k))) s s (λ ok. h) h
standing-step o s (Install k) h = choose o (is_accepted (reply_at o s (Install k))) (done (Install k) s) s (λ ok. record { written = h.written; stands = h.stands; is_graph = h.is_graph; few_vertices = h.few_vertices; few_edges = h.few_edges; few_added = h.few_added; named = h.named; oldest = h.oldest; from_floor = h.from_floor; number = h.number }) h
standing-step o s (Retire k) h = choose o (is_accepted (reply_at o s (Retire k))) (done (Retire k) s) s (standing-retire o s k h) h

pub is_standing : (o : Opening) → IsOpening o → (journal : List Entry) → IsStanding o (standing o journal)
is_standing o h journal = standing-keeps o (IsStanding o) (standing-start o h) (standing-step o) journal
