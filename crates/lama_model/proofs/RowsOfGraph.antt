-- The graph of rows has those rows.
use Rattle.std.proofs.Common.{◌≡◌, ◌∙◌, ℕ, zero, suc, ◌+◌, ◌<◌, List, [], ◌∷◌, ◌++◌, get_or, reverse, map, cond, eqb, true, false, refl, ap, arith}
use Rattle.std.specs.Prelude.{filter}
use Rattle.std.proofs.lemmas.Bool.Decides.{nat_tests}
use Rattle.std.proofs.lemmas.List.{map-append, append-nil, reverse-reverse}
use Rattle.std.proofs.lemmas.List.Elements.{filter-append}
use Rattle.lama_base.specs.declared.Edge.{Edge}
use Rattle.lama_model.specs.Row.{row, row_at, leaving, edges_of_rows, graph_of_rows}

leaving-append : (u : ℕ) (es fs : List Edge) → leaving u (es ++ fs) ≡ leaving u es ++ leaving u fs
leaving-append u es fs = ap (map (λ (e : Edge). (e.target, e.weight))) (filter-append (λ (e : Edge). eqb e.source u) es fs) ∙ map-append (λ (e : Edge). (e.target, e.weight)) (filter (λ (e : Edge). eqb e.source u) es) (filter (λ (e : Edge). eqb e.source u) fs)

-- the edges of v leave v alone
leaving-own : (v : ℕ) (ps : List (ℕ × ℕ)) → leaving v (map (λ p. record { source = v; target = p.0; weight = p.1 }) ps) ≡ ps
leaving-own v [] = refl
leaving-own v (p ∷ ps) =
    let here : eqb v v ≡ true = grind (arith, nat_tests) in
    ap (λ b. map (λ (e : Edge). (e.target, e.weight)) (cond b (record { source = v; target = p.0; weight = p.1 } ∷ filter (λ (e : Edge). eqb e.source v) (map (λ p. record { source = v; target = p.0; weight = p.1 }) ps)) (filter (λ (e : Edge). eqb e.source v) (map (λ p. record { source = v; target = p.0; weight = p.1 }) ps)))) here
    ∙ ap (λ xs. p ∷ xs) (leaving-own v ps)

leaving-other : (u v : ℕ) (ps : List (ℕ × ℕ)) → eqb v u ≡ false → leaving u (map (λ p. record { source = v; target = p.0; weight = p.1 }) ps) ≡ []
leaving-other u v [] ne = refl
leaving-other u v (p ∷ ps) ne =
    ap (λ b. map (λ (e : Edge). (e.target, e.weight)) (cond b (record { source = v; target = p.0; weight = p.1 } ∷ filter (λ (e : Edge). eqb e.source u) (map (λ p. record { source = v; target = p.0; weight = p.1 }) ps)) (filter (λ (e : Edge). eqb e.source u) (map (λ p. record { source = v; target = p.0; weight = p.1 }) ps)))) ne
    ∙ leaving-other u v ps ne

leaving-past : (u v : ℕ) (rows : List (List (ℕ × ℕ))) → u < v → leaving u (edges_of_rows v rows) ≡ []
leaving-past u v [] lt = refl
leaving-past u v (r ∷ rows) lt =
    let other : eqb v u ≡ false = grind (arith, nat_tests, lt) in
    leaving-append u (map (λ p. record { source = v; target = p.0; weight = p.1 }) (reverse r)) (edges_of_rows (suc v) rows)
    ∙ (ap (λ xs. xs ++ leaving u (edges_of_rows (suc v) rows)) (leaving-other u v (reverse r) other) ∙ leaving-past u (suc v) rows (omega (arith, lt)))

leaving-rows : (v k : ℕ) (rows : List (List (ℕ × ℕ))) → leaving (v + k) (edges_of_rows v rows) ≡ reverse (get_or rows k [])
leaving-rows v k [] = refl
leaving-rows v zero (r ∷ rows) =
    ap (λ u. leaving u (edges_of_rows v (r ∷ rows))) (let e : v + 0 ≡ v = omega arith in e)
    ∙ (leaving-append v (map (λ p. record { source = v; target = p.0; weight = p.1 }) (reverse r)) (edges_of_rows (suc v) rows)
    ∙ (ap (λ xs. xs ++ leaving v (edges_of_rows (suc v) rows)) (leaving-own v (reverse r))
    ∙ (ap (λ xs. reverse r ++ xs) (leaving-past v (suc v) rows (omega arith)) ∙ append-nil (reverse r))))
leaving-rows v (suc k) (r ∷ rows) =
    let other : eqb v (v + suc k) ≡ false = grind (arith, nat_tests) in
    leaving-append (v + suc k) (map (λ p. record { source = v; target = p.0; weight = p.1 }) (reverse r)) (edges_of_rows (suc v) rows)
    ∙ (ap (λ xs. xs ++ leaving (v + suc k) (edges_of_rows (suc v) rows)) (leaving-other (v + suc k) v (reverse r) other)
    ∙ (ap (λ u. leaving u (edges_of_rows (suc v) rows)) (let e : v + suc k ≡ suc v + k = omega arith in e) ∙ leaving-rows (suc v) k rows))

pub row-of-rows : (rows : List (List (ℕ × ℕ))) (u : ℕ) → row (graph_of_rows rows) u ≡ row_at rows u
row-of-rows rows u =
    ap (λ k. reverse (leaving k (edges_of_rows 0 rows))) (let e : u ≡ 0 + u = omega arith in e)
    ∙ (ap reverse (leaving-rows 0 u rows) ∙ reverse-reverse (get_or rows u []))
