-- What a search goes by in place of an objective.
use Rattle.pm_vector.specs.Rows.{Row, entry}
use Rattle.std.specs.Prelude.{length, replicate, ℕ, ◌≡◌, ◌≤◌}
use lib.IntN.{pos}

-- all numbers but the first are 0
abbrev pub IsConstant : Row → Type 0
IsConstant c = (i : ℕ) → 1 ≤ i → entry c i ≡ pos 0

-- w is the objective c where some number of c after the first is not 0, and else as many ones
pub record IsSearchObjective (c w : Row) : Type 0 where
  pub cols : length w ≡ length c
  pub itself : ¬ (IsConstant c) → w ≡ c
  pub ones : IsConstant c → w ≡ replicate (length c) (pos 1)
