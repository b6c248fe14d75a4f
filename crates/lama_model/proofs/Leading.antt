-- An edge goes from one vertex to another where that is a target in the row of the first.
use Rattle.std.proofs.Common.{◌≡◌, ◌∙◌, ℕ, List, [], ◌∷◌, map, reverse, cond, Bool, true, false, refl, sym, ap}
use Rattle.std.specs.Prelude.{◌==◌, ◌&&◌, ◌||◌, filter}
use Rattle.std.specs.List.{list_any}
use Rattle.std.proofs.lemmas.List.Folds.{list_any-append}
use Rattle.lama_base.specs.declared.Edge.{Edge}
use Rattle.lama_model.specs.Graph.{Graph}
use Rattle.lama_model.specs.Row.{row, leaving, AreSame}
use Rattle.lama_model.specs.Levels.{leads, is_among}
use Rattle.lama_model.proofs.ChangeLaw.{reverse_one}

any-map : {X Y : Type 0} (q : Y → Bool) (f : X → Y) (xs : List X) → list_any q (map f xs) ≡ list_any (λ x. q (f x)) xs
any-map q f [] = refl
any-map q f (x ∷ xs) = ap (λ b. q (f x) || b) (any-map q f xs)

or-swap : (a b : Bool) → a || b ≡ b || a
or-swap true true = refl
or-swap true false = refl
or-swap false true = refl
or-swap false false = refl

or-none : (a : Bool) → a || false ≡ a
or-none true = refl
or-none false = refl

any-reverse : {X : Type 0} (q : X → Bool) (xs : List X) → list_any q (reverse xs) ≡ list_any q xs
any-reverse q [] = refl
any-reverse q (x ∷ xs) =
    ap (list_any q) (reverse_one x xs)
    ∙ (list_any-append q (reverse xs) (x ∷ [])
    ∙ ((λ j. any-reverse q xs j || or-none (q x) j)
    ∙ or-swap (list_any q xs) (q x)))

any-filter : {X : Type 0} (q p : X → Bool) (xs : List X) → list_any q (filter p xs) ≡ list_any (λ x. p x && q x) xs
any-filter q p [] = refl
any-filter q p (x ∷ xs) = by (p x) refl (any-filter q p xs)
  where
    by : (b : Bool) → p x ≡ b → list_any q (filter p xs) ≡ list_any (λ x. p x && q x) xs → list_any q (cond b (x ∷ filter p xs) (filter p xs)) ≡ (b && q x) || list_any (λ x. p x && q x) xs
    by true e h = ap (λ c. q x || c) h
    by false e h = h

-- an edge goes from u to v where v is a target in the row of u
pub leads-graph : (g : Graph) (u v : ℕ) → leads g.edges u v ≡ is_among v (map (λ p. p.0) (row g u))
leads-graph g u v =
    sym (any-map (λ t. t == v) (λ (p : ℕ × ℕ). p.0) (row g u)
    ∙ (any-reverse (λ (p : ℕ × ℕ). p.0 == v) (leaving u g.edges)
    ∙ (any-map (λ (p : ℕ × ℕ). p.0 == v) (λ (e : Edge). (e.target, e.weight)) (filter (λ e. e.source == u) g.edges)
    ∙ any-filter (λ (e : Edge). e.target == v) (λ e. e.source == u) g.edges)))

-- the same edges lead where the rows are the same
pub leads-same : (g h : Graph) → AreSame g h → (u v : ℕ) → leads g.edges u v ≡ leads h.edges u v
leads-same g h same u v = leads-graph g u v ∙ (ap (λ r. is_among v (map (λ p. p.0) r)) (same.rows u) ∙ sym (leads-graph h u v))
