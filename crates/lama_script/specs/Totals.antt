-- What numbers sum up to.
use Rattle.std.specs.Prelude.{◌≡◌, ℕ, suc, ◌+◌, ◌==◌, List, [], ◌∷◌, length, sum, if◌then◌else◌}
use Rattle.lama_model.specs.Lines.{greatest}
use Rattle.lama_script.specs.declared.analyses.LevelTotals.{LevelTotals}

-- how many numbers there are, the greatest and their sum
pub record AreTotals (xs : List ℕ) (t : LevelTotals) : Type 0 where
  pub reached : t.reached ≡ length xs
  pub greatest : t.greatest ≡ greatest xs
  pub total : t.total ≡ sum xs

-- how many of the numbers are the number of their own place, where the first has the place v
abbrev pub own_from : ℕ → List ℕ → ℕ
own_from v [] = 0
own_from v (l ∷ ls) = (if l == v then 1 else 0) + own_from (suc v) ls
