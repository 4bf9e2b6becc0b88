-- What a refusal shows of a list with a first part and a second part.
use Rattle.std.specs.Prelude.{ℕ, ◌≡◌, ◌⊎◌, List, ◌++◌}
use Rattle.pm_vector.specs.Rows.{Row}
use Rattle.pm_dd.specs.Fronts.{both_signs}
use Rattle.pm_dd.specs.Refusals.{IsEliminationFail, IsShown}
use Rattle.pm_dd.specs.declared.fails.DdFail.{DdFail}
use Rattle.pm_vector.specs.Evidence.{IsBasisOf}

-- D is l1, -l1, l2, -l2, .. for the echelon basis l1, l2, .. of the rows L, and then the rows G
pub record IsDoubleList (n : ℕ) (L G D : List Row) : Type 0 where
  pub basis : List Row
  pub pivots : List ℕ
  pub is_basis : IsBasisOf n L basis pivots
  pub list : D ≡ both_signs basis ++ G

-- the refusal is shown on the elimination of the first part L, or on the double description list of L and G
abbrev pub IsShownOnParts : ℕ → List Row → List Row → DdFail → Type 0
IsShownOnParts n L G f = IsEliminationFail n L f ⊎ ((D : List Row) × IsDoubleList n L G D × IsShown n D f)
