-- The one value of a point and of multipliers.
use Rattle.pm_fraction.specs.Fractions.{IsLowestTermsOf, ratio_of}
use Rattle.pm_vector.specs.Cones.{combination}
use Rattle.pm_vector.specs.Numbers.{Ratio}
use Rattle.pm_vector.specs.Rows.{Row, Same, dot, entry, plus, times}
use Rattle.std.specs.Prelude.{List, [], ◌++◌, ◌∷◌}
use lib.IntN.{pos, ℤ, ◌*ℤ◌}
use lib.Signed.{◌<ℤ◌}

-- the objective, of which X is k times, has the value v at the point U over its first entry; and X, taken d times,
-- and the rows of A and B, taken Y times, are together a constant, which is d k v
pub record IsCommonValue (A B : List Row) (k : ℤ) (X U : Row) (d : ℤ) (Y : Row) (v : Ratio) : Type 0 where
  pub first : pos 0 <ℤ (entry U 0 *ℤ k)
  pub value : IsLowestTermsOf (ratio_of (dot X U) (entry U 0 *ℤ k)) v
  pub scale : pos 0 <ℤ (d *ℤ k)
  pub constant : ℤ
  pub bound : IsLowestTermsOf (ratio_of constant (d *ℤ k)) v
  pub sum : Same (constant ∷ []) (plus (times d X) (combination Y (A ++ B)))
