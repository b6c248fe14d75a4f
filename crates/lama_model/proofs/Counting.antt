-- How many edges rows have.
use Rattle.std.proofs.Common.{◌≡◌, ◌∙◌, ℕ, ◌<◌, List, [], length, get_or, map, eqb, sym, ap, subst, arith}
use Rattle.std.specs.Prelude.{sum, All, filter}
use Rattle.std.proofs.lemmas.List.{take_all, length-map, length-reverse, get_or-map}
use Rattle.std.proofs.lemmas.List.Sums.{length-filter, sum-map}
use Rattle.lama_base.specs.declared.Edge.{Edge}
use Rattle.lama_model.specs.Graph.{Graph}
use Rattle.lama_model.specs.Row.{leaving, AreRowsOf, edges_in}
use Rattle.lama_model.specs.Degrees.{out_degree}
use Rattle.lama_model.proofs.EdgeLemmas.{row_start-all}
use Rattle.lama_model.proofs.PlainLemmas.{sum-degrees}

pub leaving-length : (v : ℕ) (es : List Edge) → length (leaving v es) ≡ out_degree v es
leaving-length v es = length-map (filter (λ e. eqb e.source v) es) (λ e. (e.target, e.weight)) ∙ length-filter (λ e. eqb e.source v) es

-- degrees add up to the edges
pub degrees-all : (degrees : List ℕ) (es : List Edge) → ((v : ℕ) → v < length degrees → get_or degrees v 0 ≡ out_degree v es) → All (λ e. e.source < length degrees) es → sum degrees ≡ length es
degrees-all degrees es each below =
    ap sum (sym (take_all (length degrees) degrees (omega arith))) ∙ (sum-degrees es degrees each (length degrees) (omega arith) ∙ row_start-all (length degrees) es below)

-- the rows of a graph have as many edges as it has
pub edges-counted : (rows : List (List (ℕ × ℕ))) (g : Graph) → AreRowsOf rows g → All (λ e. e.source < g.count) g.edges → edges_in rows ≡ length g.edges
edges-counted rows g h below =
    let f : List (ℕ × ℕ) → ℕ = λ r. length r in
    let n' : length (map f rows) ≡ length rows = length-map rows f in
    let c = h.count in
    let n : length (map f rows) ≡ g.count = n' ∙ c in
    let each : (v : ℕ) → v < length (map f rows) → get_or (map f rows) v 0 ≡ out_degree v g.edges = λ v lt.
    get_or-map f rows v [] 0 (omega (arith, lt, n')) ∙ (ap f (h.each v (omega (arith, lt, n))) ∙ (length-reverse (leaving v g.edges) ∙ leaving-length v g.edges)) in
    sym (sum-map f rows) ∙ degrees-all (map f rows) g.edges each (subst (λ k. All (λ e. e.source < k) g.edges) (sym n) below)
