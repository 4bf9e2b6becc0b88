-- Points of inequalities and equations (Ziegler, Lectures on Polytopes, section 1.5): a row with a positive first
-- entry is a point, once it is divided by that entry.
use Rattle.pm_vector.specs.Rows.{Row, entry}
use Rattle.pm_types.specs.Right.{Solves}
use Rattle.std.specs.Prelude.{List, length, ℕ, ◌≡◌}
use lib.IntN.{pos}
use lib.Signed.{◌<ℤ◌}

-- the inequalities A and equations E of n columns have a point
pub record HasSolution (n : ℕ) (A E : List Row) : Type 0 where
  pub row : Row
  pub cols : length row ≡ n
  pub solves : Solves A E row
  pub first : pos 0 <ℤ entry row 0
