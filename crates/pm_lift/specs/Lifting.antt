-- Lifted rows: sites with their heights in a last entry, and the row that points upwards (Ziegler, Lectures on
-- Polytopes, section 5.1). A facet row of their cone that is positive on the row upwards is one of a lower face.
use Rattle.std.specs.Prelude.{ℕ, suc, ◌≡◌, ◌<◌, List, [], ◌∷◌, ◌++◌, drop, length}
use Rattle.pm_vector.specs.Divisors.{IsPrimitiveOf}
use Rattle.pm_vector.specs.Numbers.{Ratio}
use Rattle.pm_vector.specs.Rows.{HasCols, Row, SameDirection, dot, entry, ratio_at, times}
use Rattle.pm_vector.specs.Evidence.{unit}
use Rattle.pm_geom.specs.Faces.{ray}
use lib.IntN.{◌*ℤ◌}

-- the row of a site with its height u / v in a last entry: q_k v for each column k, and then q_0 u
abbrev pub lifted : Row → Ratio → Row
lifted q r = times r.den q ++ (entry q 0 *ℤ r.num) ∷ []

-- the row of a site raised to the paraboloid, by the square of its distance from the origin: q_0 q_k for each column
-- k, and then the sum of the squares of q_1, q_2, ..
abbrev pub raised : Row → Row
raised q = times (entry q 0) q ++ dot (drop 1 q) (drop 1 q) ∷ []

-- each row of X is a positive multiple of the lifted row of its site
pub record AreLifted (n : ℕ) (Q : List Row) (W : List Ratio) (X : List Row) : Type 0 where
  pub count : length X ≡ length Q
  pub cols : HasCols (suc n) X
  pub same : (j : ℕ) → j < length Q → SameDirection (ray X j) (lifted (ray Q j) (ratio_at W j))

-- x is the primitive row of the lifted row of the primitive row of a site with this height
pub record IsLiftedRow (site : Row) (height : Ratio) (x : Row) : Type 0 where
  pub row : Row
  pub primitive : IsPrimitiveOf site row
  pub lifted : IsPrimitiveOf (lifted row height) x

-- X has this row for each site, in order
pub record AreLiftedRows (Q : List Row) (W : List Ratio) (X : List Row) : Type 0 where
  pub count : length X ≡ length Q
  pub each : (j : ℕ) → j < length Q → IsLiftedRow (ray Q j) (ratio_at W j) (ray X j)

-- x is the primitive row of the raised row of the primitive row of a site
pub record IsRaisedRow (site x : Row) : Type 0 where
  pub row : Row
  pub primitive : IsPrimitiveOf site row
  pub raised : IsPrimitiveOf (raised row) x

-- X has this row for each site, in order
pub record AreRaisedRows (Q X : List Row) : Type 0 where
  pub count : length X ≡ length Q
  pub each : (j : ℕ) → j < length Q → IsRaisedRow (ray Q j) (ray X j)

-- the row of n zeros and then 1
abbrev pub upwards : ℕ → Row
upwards n = unit (suc n) n
