-- Walks that take edges in either direction.
use Rattle.std.proofs.Common.{◌≡◌, ◌∙◌, ℕ, List, [], ◌∷◌, ◌++◌, length, map, Bool, true, false, refl, sym, ap, subst}
use Rattle.std.specs.Prelude.{◌==◌, ◌&&◌, ◌||◌}
use Rattle.std.specs.List.{list_any}
use Rattle.std.proofs.lemmas.List.Folds.{list_any-append}
use Rattle.lama_base.specs.declared.Edge.{Edge}
use Rattle.lama_model.specs.Graph.{Graph, joins}
use Rattle.lama_model.specs.Levels.{leads, IsWalk}
use Rattle.lama_model.specs.Labels.{turned, both_ways, AreJoined}

any-turned : (u v : ℕ) (edges : List Edge) → list_any (joins u v) (map turned edges) ≡ list_any (joins v u) edges
any-turned u v [] = refl
any-turned u v (e ∷ edges) = (λ j. swap (e.target == u) (e.source == v) j || any-turned u v edges j)
  where
    swap : (a b : Bool) → a && b ≡ b && a
    swap true true = refl
    swap true false = refl
    swap false true = refl
    swap false false = refl

or-swap : (a b : Bool) → a || b ≡ b || a
or-swap true true = refl
or-swap true false = refl
or-swap false true = refl
or-swap false false = refl

module _ (g : Graph) where
  -- an edge in one of the directions
  pub both-leads : (u v : ℕ) → leads (both_ways g).edges u v ≡ leads g.edges u v || leads g.edges v u
  both-leads u v = list_any-append (joins u v) g.edges (map turned g.edges) ∙ ap (λ b. leads g.edges u v || b) (any-turned u v g.edges)

  turn : (u v : ℕ) → leads (both_ways g).edges u v ≡ true → leads (both_ways g).edges v u ≡ true
  turn u v e = both-leads v u ∙ (or-swap (leads g.edges v u) (leads g.edges u v) ∙ (sym (both-leads u v) ∙ e))

  append-walk : (u : ℕ) (vs : List ℕ) (w : ℕ) (ws : List ℕ) (v : ℕ) → IsWalk (both_ways g).edges u vs w → IsWalk (both_ways g).edges w ws v → IsWalk (both_ways g).edges u (vs ++ ws) v
  append-walk u [] w ws v h k = subst (λ x. IsWalk (both_ways g).edges x ws v) (sym h) k
  append-walk u (x ∷ vs) w ws v h k = (h.0, append-walk x vs w ws v h.1 k)

  pub joined-self : (v : ℕ) → AreJoined g v v
  joined-self v = record { steps = 0; walk = record { vertices = []; size = refl; walks = refl } }

  pub joined-trans : (u w v : ℕ) → AreJoined g u w → AreJoined g w v → AreJoined g u v
  joined-trans u w v h k = record {
    steps = length (h.walk.vertices ++ k.walk.vertices);
    walk = record { vertices = h.walk.vertices ++ k.walk.vertices; size = refl; walks = append-walk u h.walk.vertices w k.walk.vertices v h.walk.walks k.walk.walks };
  }

  one-step : (u v : ℕ) → leads (both_ways g).edges u v ≡ true → AreJoined g u v
  one-step u v e = record { steps = 1; walk = record { vertices = v ∷ []; size = refl; walks = (e, refl) } }

  pub joined-edge : (u v : ℕ) → leads g.edges u v ≡ true → AreJoined g u v
  joined-edge u v e = one-step u v (both-leads u v ∙ ap (λ b. b || leads g.edges v u) e)

  back : (vs : List ℕ) (u v : ℕ) → IsWalk (both_ways g).edges u vs v → AreJoined g v u
  back [] u v h = subst (λ x. AreJoined g x u) h (joined-self u)
  back (x ∷ vs) u v h = joined-trans v x u (back vs x v h.1) (one-step x u (turn u x h.0))

  pub joined-sym : (u v : ℕ) → AreJoined g u v → AreJoined g v u
  joined-sym u v h = back h.walk.vertices u v h.walk.walks
