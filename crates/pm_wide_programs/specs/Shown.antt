-- What shows the greatest value of an objective over the rows of A and B, as whole rows say it: X is a multiple of the
-- objective. None of it need fit the range of the program's fractions.
use Rattle.pm_geom.specs.Programs.{IsTimes, Solves}
use Rattle.pm_types.specs.Programs.{IsGreatest}
use Rattle.pm_types.specs.Values.{Extended}
use Rattle.pm_vector.specs.Cones.{combination}
use Rattle.pm_vector.specs.Numbers.{Ratio}
use Rattle.pm_vector.specs.Rows.{Row, Same, dot, entry}
use Rattle.pm_wide_programs.specs.CommonValues.{IsCommonValue}
use Rattle.std.specs.Prelude.{List, [], length, ℕ, ◌++◌, ◌<◌, ◌∷◌, ◌≡◌}
use lib.IntN.{pos, ℤ}
use lib.Signed.{◌<ℤ◌, ◌≤ℤ◌}

-- the numbers of the inequalities A are not negative
abbrev pub AreUp : List Row → Row → Type 0
AreUp A Y = (i : ℕ) → i < length A → pos 0 ≤ℤ entry Y i

-- U solves the rows, Y is a dual over d, and both have the value v
pub record IsShownValue (A B : List Row) (k : ℤ) (X U : Row) (d : ℤ) (Y : Row) (v : Ratio) : Type 0 where
  pub solves : Solves A B U
  pub up : AreUp A Y
  pub common : IsCommonValue A B k X U d Y v

-- U is a point of the rows, W a direction, and X grows along it
pub record IsShownUnbounded (A B : List Row) (X U W : Row) : Type 0 where
  pub first : pos 0 <ℤ entry U 0
  pub point : Solves A B U
  pub level : entry W 0 ≡ pos 0
  pub direction : Solves A B W
  pub improves : pos 0 <ℤ dot X W

-- the rows, taken Y times, sum to a negative constant
pub record IsShownInfeasible (A B : List Row) (Y : Row) : Type 0 where
  pub up : AreUp A Y
  pub constant : ℤ
  pub negative : constant <ℤ pos 0
  pub sum : Same (constant ∷ []) (combination Y (A ++ B))

-- x is the greatest value of each objective that X is k times
pub record IsGreatestOfTimes (A B : List Row) (k : ℤ) (X : Row) (x : Extended) : Type 0 where
  pub greatest : (c : List Ratio) → IsTimes k c X → IsGreatest (Solves A B) c x
