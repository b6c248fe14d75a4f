-- The changed rows of a graph, by what the writes of each source do.
use Rattle.std.proofs.Common.{◌≡◌, ◌∙◌, ℕ, ◌+◌, List, [], ◌∷◌, ◌++◌, reverse, map, cond, eqb, Bool, true, false, not, refl, sym, ap, subst, arith, ◌&&◌, Option, Some, None}
use Rattle.std.specs.Prelude.{filter, is_none}
use Rattle.std.specs.List.{range_with_len, AllByRecursion}
use Rattle.std.proofs.lemmas.Bool.Decides.{nat_tests}
use Rattle.std.proofs.lemmas.List.{append-nil, reverse-append}
use Rattle.lama_base.specs.declared.Edge.{Edge}
use Rattle.lama_model.specs.declared.calls.Write.{Write}
use Rattle.lama_model.specs.declared.calls.Write.TheVariants.{Vertices, Add as Adds, Remove as Removes, Weigh as Weighs}
use Rattle.lama_model.specs.Graph.{Graph, no_graph, effect, joins}
use Rattle.lama_model.specs.Row.{row, row_at, leaving, graph_of_rows}
use Rattle.lama_model.specs.Change.{RowChange, is_empty_change, with_new_weight, graph_after, row_change, changed_rows}
use Rattle.lama_model.proofs.Thinning.{run_fate, fates_after, option_weight, thin, thinned, pairs_of, pairs_of-plain}
use Rattle.lama_model.proofs.ChangeLaw.{map-reverse, row-parts}
use Rattle.lama_model.proofs.Fates.{gone_edges, set_edges, edges_from, row_change-fates}
use Rattle.lama_model.proofs.RowsOfGraph.{row-of-rows}
use Rattle.lama_delta.specs.declared.edge_writes.EdgeWrite.{EdgeWrite}
use Rattle.lama_delta.specs.declared.edge_writes.Act.TheVariants.{Add, Remove, Weigh}
use Rattle.lama_delta.specs.declared.row_writes.Fate.{Fate}
use Rattle.lama_delta.specs.declared.row_writes.Fate.TheVariants.{Gone, Weight}
use Rattle.lama_delta.specs.EdgeWrites.{edge_writes, is_from}
use Rattle.lama_delta.specs.RowWrites.{fate_before, fate_of, new_pair, left_of, gone_here, set_here, gone_from, set_from, change_of, change_at, changes_below}

-- the weight of an edge after its fate
abbrev combine : Option Fate → Option ℕ → Option ℕ
combine None f = f
combine (Some Gone) f = None
combine (Some (Weight x)) None = None
combine (Some (Weight x)) (Some w) = Some x

combine-none : (fate : Option Fate) → combine fate None ≡ None
combine-none None = refl
combine-none (Some Gone) = refl
combine-none (Some (Weight x)) = refl

combine-weight : (fate : Option Fate) (w : ℕ) (f : Option ℕ) → combine fate (option_weight true w f) ≡ combine (fate_before (Weigh w) fate) f
combine-weight None w None = refl
combine-weight None w (Some x) = refl
combine-weight (Some Gone) w f = refl
combine-weight (Some (Weight y)) w None = refl
combine-weight (Some (Weight y)) w (Some x) = refl

option-same : (w : ℕ) (f : Option ℕ) → option_weight false w f ≡ f
option-same w None = refl
option-same w (Some x) = refl

eqb-sym : (a b : ℕ) → eqb a b ≡ eqb b a
eqb-sym a b = grind (arith, nat_tests)

-- the writes of u
abbrev group : ℕ → List Write → List EdgeWrite
group u writes = filter (is_from u) (edge_writes writes)

joins-is : (u u' v' : ℕ) (e : Edge) → e.source ≡ u → joins u' v' e ≡ eqb u' u && eqb v' e.target
joins-is u u' v' e is = ap (λ b. b && eqb e.target v') (ap (λ k. eqb k u') is ∙ eqb-sym u u') ∙ ap (λ b. eqb u' u && b) (eqb-sym e.target v')

group-fate : (u : ℕ) (ew : EdgeWrite) (es : List EdgeWrite) (t : ℕ) → fate_of (cond (eqb ew.source u) (ew ∷ es) es) t ≡ cond (eqb ew.source u && eqb ew.target t) (fate_before ew.act (fate_of es t)) (fate_of es t)
group-fate u ew es t = by (eqb ew.source u)
  where
    by : (b : Bool) → fate_of (cond b (ew ∷ es) es) t ≡ cond (b && eqb ew.target t) (fate_before ew.act (fate_of es t)) (fate_of es t)
    by true = refl
    by false = refl

-- what the writes make of an edge is what those of its source do
run-combined : (u : ℕ) (writes : List Write) (e : Edge) (f : Option ℕ) → e.source ≡ u → run_fate writes e f ≡ combine (fate_of (group u writes) e.target) f
run-combined u [] e f is = refl
run-combined u (Vertices n ∷ writes) e f is = run-combined u writes e f is
run-combined u (Adds u' v' w ∷ writes) e f is =
    run-combined u writes e f is
    ∙ (ap (λ x. combine x f) (by (eqb u' u && eqb v' e.target) (fate_of (group u writes) e.target)) ∙ sym (ap (λ x. combine x f) (group-fate u (record { source = u'; target = v'; act = Add w }) (group u writes) e.target)))
  where
    by : (b : Bool) (x : Option Fate) → x ≡ cond b x x
    by true x = refl
    by false x = refl
run-combined u (Removes u' v' ∷ writes) e f is =
    ap (λ b. run_fate writes e (cond b None f)) (joins-is u u' v' e is)
    ∙ (run-combined u writes e (cond (eqb u' u && eqb v' e.target) None f) is
    ∙ (by (eqb u' u && eqb v' e.target) (fate_of (group u writes) e.target) ∙ sym (ap (λ x. combine x f) (group-fate u (record { source = u'; target = v'; act = Remove }) (group u writes) e.target))))
  where
    by : (b : Bool) (x : Option Fate) → combine x (cond b None f) ≡ combine (cond b (fate_before Remove x) x) f
    by true x = combine-none x
    by false x = refl
run-combined u (Weighs u' v' w ∷ writes) e f is =
    ap (λ b. run_fate writes e (option_weight b w f)) (joins-is u u' v' e is)
    ∙ (run-combined u writes e (option_weight (eqb u' u && eqb v' e.target) w f) is
    ∙ (by (eqb u' u && eqb v' e.target) (fate_of (group u writes) e.target) ∙ sym (ap (λ x. combine x f) (group-fate u (record { source = u'; target = v'; act = Weigh w }) (group u writes) e.target))))
  where
    by : (b : Bool) (x : Option Fate) → combine x (option_weight b w f) ≡ combine (cond b (fate_before (Weigh w) x) x) f
    by true x = combine-weight x w f
    by false x = ap (combine x) (option-same w f)

-- the pairs of edges
abbrev pair_of : Edge → ℕ × ℕ
pair_of e = (e.target, e.weight)

-- what is gone of the edges of u, and what has another weight
gone-edges : (u i : ℕ) (writes : List Write) (es : List Edge) → AllByRecursion (λ (e : Edge). e.source ≡ u) es → gone_edges i writes es ≡ gone_from i (fate_of (group u writes)) (map pair_of es)
gone-edges u i writes [] own = refl
gone-edges u i writes (e ∷ es) own =
    ap (λ o. cond (is_none o) (i ∷ gone_edges (i + 1) writes es) (gone_edges (i + 1) writes es)) (run-combined u writes e (Some e.weight) own.0)
    ∙ by (fate_of (group u writes) e.target) (gone-edges u (i + 1) writes es own.1)
  where
    by : (x : Option Fate) → gone_edges (i + 1) writes es ≡ gone_from (i + 1) (fate_of (group u writes)) (map pair_of es) →
        cond (is_none (combine x (Some e.weight))) (i ∷ gone_edges (i + 1) writes es) (gone_edges (i + 1) writes es) ≡ gone_here i x ++ gone_from (i + 1) (fate_of (group u writes)) (map pair_of es)
    by None rest = rest
    by (Some Gone) rest = ap (λ xs. i ∷ xs) rest
    by (Some (Weight w)) rest = rest

set-edges : (u i : ℕ) (writes : List Write) (es : List Edge) → AllByRecursion (λ (e : Edge). e.source ≡ u) es → set_edges i writes es ≡ set_from i (fate_of (group u writes)) (map pair_of es)
set-edges u i writes [] own = refl
set-edges u i writes (e ∷ es) own =
    ap (λ o. with_new_weight i e.weight o (set_edges (i + 1) writes es)) (run-combined u writes e (Some e.weight) own.0)
    ∙ by (fate_of (group u writes) e.target) (set-edges u (i + 1) writes es own.1)
  where
    here : eqb e.weight e.weight ≡ true
    here = grind (arith, nat_tests)

    pick : (b : Bool) (w : ℕ) → set_edges (i + 1) writes es ≡ set_from (i + 1) (fate_of (group u writes)) (map pair_of es) →
        cond b (set_edges (i + 1) writes es) ((i, w) ∷ set_edges (i + 1) writes es) ≡ cond b [] ((i, w) ∷ []) ++ set_from (i + 1) (fate_of (group u writes)) (map pair_of es)
    pick true w rest = rest
    pick false w rest = ap (λ xs. (i, w) ∷ xs) rest

    by : (x : Option Fate) → set_edges (i + 1) writes es ≡ set_from (i + 1) (fate_of (group u writes)) (map pair_of es) →
        with_new_weight i e.weight (combine x (Some e.weight)) (set_edges (i + 1) writes es) ≡ set_here i e.weight x ++ set_from (i + 1) (fate_of (group u writes)) (map pair_of es)
    by None rest = ap (λ b. cond b (set_edges (i + 1) writes es) ((i, e.weight) ∷ set_edges (i + 1) writes es)) here ∙ rest
    by (Some Gone) rest = rest
    by (Some (Weight w)) rest = pick (eqb w e.weight) w rest

-- the edges of u are from u
filtered-own : (u : ℕ) (es : List Edge) → AllByRecursion (λ (e : Edge). e.source ≡ u) (filter (λ (e : Edge). eqb e.source u) es)
filtered-own u [] = tt
filtered-own u (e ∷ es) = by (eqb e.source u) refl (filtered-own u es)
  where
    by : (b : Bool) → eqb e.source u ≡ b → AllByRecursion (λ (e : Edge). e.source ≡ u) (filter (λ (e : Edge). eqb e.source u) es) → AllByRecursion (λ (e : Edge). e.source ≡ u) (cond b (e ∷ filter (λ (e : Edge). eqb e.source u) es) (filter (λ (e : Edge). eqb e.source u) es))
    by true is rest = ((let x : e.source ≡ u = grind (arith, nat_tests, is) in x), rest)
    by false is rest = rest

own-append : (u : ℕ) (es fs : List Edge) → AllByRecursion (λ (e : Edge). e.source ≡ u) es → AllByRecursion (λ (e : Edge). e.source ≡ u) fs → AllByRecursion (λ (e : Edge). e.source ≡ u) (es ++ fs)
own-append u [] fs a b = b
own-append u (e ∷ es) fs a b = (a.0, own-append u es fs a.1 b)

own-reverse : (u : ℕ) (es : List Edge) → AllByRecursion (λ (e : Edge). e.source ≡ u) es → AllByRecursion (λ (e : Edge). e.source ≡ u) (reverse es)
own-reverse u [] own = tt
own-reverse u (e ∷ es) own = subst (AllByRecursion (λ (e : Edge). e.source ≡ u)) (sym (reverse-append (e ∷ []) es)) (own-append u (reverse es) (e ∷ []) (own-reverse u es own.1) (own.0, tt))

-- the new edges are what the writes of u leave of theirs
one-left : (u u' v' w : ℕ) (writes : List Write) (fs : List (Option ℕ)) → fs ≡ fates_after writes (record { source = u'; target = v'; weight = w } ∷ []) →
    pairs_of u (thin 0 fs (record { source = u'; target = v'; weight = w } ∷ [])) ≡ cond (eqb u' u) (new_pair (Add w) v' (fate_of (group u writes) v')) []
one-left u u' v' w writes fs is =
    ap (λ xs. pairs_of u (thin 0 xs (record { source = u'; target = v'; weight = w } ∷ []))) is ∙ by (eqb u' u) refl
  where
    e : Edge
    e = record { source = u'; target = v'; weight = w }

    other : (o : Option ℕ) → eqb u' u ≡ false → pairs_of u (thin 0 (o ∷ []) (record { source = u'; target = v'; weight = w } ∷ [])) ≡ []
    other None ne = refl
    other (Some x) ne = ap (λ b. reverse (map (λ (p : ℕ × Edge). (p.1.target, p.1.weight)) (cond b ((0, record { source = u'; target = v'; weight = x }) ∷ []) []))) ne

    here : (x : Option Fate) → eqb u' u ≡ true → pairs_of u (thin 0 (combine x (Some w) ∷ []) (record { source = u'; target = v'; weight = w } ∷ [])) ≡ new_pair (Add w) v' x
    here None is = ap (λ b. reverse (map (λ (p : ℕ × Edge). (p.1.target, p.1.weight)) (cond b ((0, record { source = u'; target = v'; weight = w }) ∷ []) []))) is
    here (Some Gone) is = refl
    here (Some (Weight x)) is = ap (λ b. reverse (map (λ (p : ℕ × Edge). (p.1.target, p.1.weight)) (cond b ((0, record { source = u'; target = v'; weight = x }) ∷ []) []))) is

    by : (b : Bool) → eqb u' u ≡ b → pairs_of u (thin 0 (run_fate writes (record { source = u'; target = v'; weight = w }) (Some w) ∷ []) (record { source = u'; target = v'; weight = w } ∷ [])) ≡ cond b (new_pair (Add w) v' (fate_of (group u writes) v')) []
    by true is =
        ap (λ o. pairs_of u (thin 0 (o ∷ []) (record { source = u'; target = v'; weight = w } ∷ []))) (run-combined u writes (record { source = u'; target = v'; weight = w }) (Some w) (let x : u' ≡ u = grind (arith, nat_tests, is) in x))
        ∙ here (fate_of (group u writes) v') is
    by false is = other (run_fate writes (record { source = u'; target = v'; weight = w }) (Some w)) is

left-row : (u : ℕ) (writes : List Write) (g : Graph) → g.edges ≡ [] → row (graph_after writes g) u ≡ left_of (group u writes)
left-row u [] g none = ap (λ es. reverse (leaving u es)) none
left-row u (Vertices n ∷ writes) g none = left-row u writes (effect (Vertices n) g) none
left-row u (Removes u' v' ∷ writes) g none = left-row u writes (effect (Removes u' v') g) (ap (filter (λ (e : Edge). not (joins u' v' e))) none) ∙ by (eqb u' u)
  where
    by : (b : Bool) → left_of (group u writes) ≡ left_of (cond b (record { source = u'; target = v'; act = Remove } ∷ group u writes) (group u writes))
    by true = sym (append-nil (left_of (group u writes)))
    by false = refl
left-row u (Weighs u' v' w ∷ writes) g none = left-row u writes (effect (Weighs u' v' w) g) (ap (λ es. map (λ (e : Edge). cond (joins u' v' e) (record { source = e.source; target = e.target; weight = w }) e) es) none) ∙ by (eqb u' u)
  where
    by : (b : Bool) → left_of (group u writes) ≡ left_of (cond b (record { source = u'; target = v'; act = Weigh w } ∷ group u writes) (group u writes))
    by true = sym (append-nil (left_of (group u writes)))
    by false = refl
left-row u (Adds u' v' w ∷ writes) g none =
    let h = effect (Adds u' v' w) g in
    let e : Edge = record { source = u'; target = v'; weight = w } in
    let one : h.edges ≡ e ∷ [] = ap (λ es. es ++ e ∷ []) none in
    let t = thinned h writes in
    row-parts h writes u
    ∙ (ap (λ xs. xs ++ pairs_of u (thin 0 t.fates h.edges)) (pairs_of-plain u t.new ∙ (ap (λ es. reverse (leaving u es)) t.new_are ∙ left-row u writes no_graph refl))
    ∙ (ap (λ es. left_of (group u writes) ++ pairs_of u (thin 0 t.fates es)) one
    ∙ (ap (λ xs. left_of (group u writes) ++ xs) (one-left u u' v' w writes t.fates (t.fates_are ∙ ap (fates_after writes) one))
    ∙ by (eqb u' u))))
  where
    by : (b : Bool) → left_of (group u writes) ++ cond b (new_pair (Add w) v' (fate_of (group u writes) v')) [] ≡ left_of (cond b (record { source = u'; target = v'; act = Add w } ∷ group u writes) (group u writes))
    by true = refl
    by false = append-nil (left_of (group u writes))

-- a changed row is what the writes of its source make of it
pub row_change-is : (g : Graph) (writes : List Write) (u : ℕ) → row_change g writes u ≡ change_of u (filter (is_from u) (edge_writes writes)) (row g u)
row_change-is g writes u =
    let es = edges_from u g.edges in
    let own = own-reverse u (filter (λ (e : Edge). eqb e.source u) g.edges) (filtered-own u g.edges) in
    let pairs : map pair_of es ≡ row g u = map-reverse pair_of (filter (λ (e : Edge). eqb e.source u) g.edges) in
    let killed = gone-edges u 0 writes es own ∙ ap (gone_from 0 (fate_of (group u writes))) pairs in
    let set = set-edges u 0 writes es own ∙ ap (set_from 0 (fate_of (group u writes))) pairs in
    row_change-fates g writes u
    ∙ (ap (λ (xs : List (ℕ × ℕ)). let c : RowChange = record { source = u; added = xs; killed = gone_edges 0 writes es; set = set_edges 0 writes es } in c) (left-row u writes no_graph refl)
    ∙ (ap (λ (ks : List ℕ). let c : RowChange = record { source = u; added = left_of (group u writes); killed = ks; set = set_edges 0 writes es } in c) killed
    ∙ ap (λ (ss : List (ℕ × ℕ)). let c : RowChange = record { source = u; added = left_of (group u writes); killed = gone_from 0 (fate_of (group u writes)) (row g u); set = ss } in c) set))

map-agree : {A : Type 0} (f f' : ℕ → A) → ((u : ℕ) → f u ≡ f' u) → (us : List ℕ) → map f us ≡ map f' us
map-agree f f' same [] = refl
map-agree f f' same (u ∷ us) = ap (λ x. x ∷ map f us) (same u) ∙ ap (λ xs. f' u ∷ xs) (map-agree f f' same us)

-- the changed rows of a graph whose rows these are
pub changed_rows-are : (g : Graph) (rows : List (List (ℕ × ℕ))) → ((u : ℕ) → row g u ≡ row_at rows u) → (writes : List Write) (count : ℕ) → changed_rows g writes count ≡ changes_below rows (edge_writes writes) count
changed_rows-are g rows same writes count =
    ap (filter (λ (c : RowChange). not (is_empty_change c)))
    (map-agree (row_change g writes) (change_at rows (edge_writes writes)) (λ u. row_change-is g writes u ∙ ap (change_of u (filter (is_from u) (edge_writes writes))) (same u)) (range_with_len 0 count))

pub changed_rows-graph : (rows : List (List (ℕ × ℕ))) (writes : List Write) (count : ℕ) → changed_rows (graph_of_rows rows) writes count ≡ changes_below rows (edge_writes writes) count
changed_rows-graph rows writes count = changed_rows-are (graph_of_rows rows) rows (row-of-rows rows) writes count

-- and of writes of which the same name each source
pub changes-same : (rows : List (List (ℕ × ℕ))) (es fs : List EdgeWrite) (count : ℕ) → ((u : ℕ) → filter (is_from u) es ≡ filter (is_from u) fs) → changes_below rows es count ≡ changes_below rows fs count
changes-same rows es fs count same =
    ap (filter (λ (c : RowChange). not (is_empty_change c))) (map-agree (change_at rows es) (change_at rows fs) (λ u. ap (λ ws. change_of u ws (row_at rows u)) (same u)) (range_with_len 0 count))
