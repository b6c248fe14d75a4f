use Rattle.std.proofs.Common.{◌≡◌, ◌+◌, ◌≤◌, ℕ, List, Option, None, Some, IfSome, take, drop, length, subst, refl}
use Rattle.std.proofs.lemmas.List.{drop-drop, drop_at, length-take-le}
use Rattle.lama_base.specs.Bytes.{Gives}
use Rattle.lama_outside.proofs.tests.read_twice.Goals as goal

-- what one read gives is the front of what was left
one : (before after : Option (List ℕ)) (n : ℕ) (buf : List ℕ) → n ≤ length buf → Gives before after n buf → IfSome before (λ left. after ≡ Some (drop n left))
one None after n buf le g = tt
one (Some left) after n buf le g = rw (g.1, g.2.moved, drop_at (take n buf) g.0 n (length-take-le n buf le)) refl

-- two reads give what one of both lengths would
two : (a b c : Option (List ℕ)) (m n : ℕ) → IfSome a (λ x. b ≡ Some (drop m x)) → IfSome b (λ x. c ≡ Some (drop n x)) → IfSome a (λ x. c ≡ Some (drop (m + n) x))
two None b c m n f s = tt
two (Some x) b c m n f s = let P : Option (List ℕ) → Type 0 = λ o. IfSome o (λ y. c ≡ Some (drop n y)) in rw (← drop-drop n m x) (subst P f s)

pub returns-clause-passed : goal.returns-clause-passed
returns-clause-passed g c =
    two _ _ _ _ _
    (one _ _ _ _ c.in_ok-first.ensures.count c.in_ok-first.ensures.given)
    (one _ _ _ _ c.in_ok-second.ensures.count c.in_ok-second.ensures.given)
