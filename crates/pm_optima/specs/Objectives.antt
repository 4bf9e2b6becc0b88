-- An objective and the primitive whole row in its direction; and the row that vanishes where it has a value.
use Rattle.pm_vector.specs.Numbers.{Ratio}
use Rattle.pm_vector.specs.Rows.{Row, Stands, dot, entry, ratio_at}
use Rattle.pm_geom.specs.Faces.{ray}
use Rattle.pm_fraction.specs.FractionRows.{IsPrimitiveRowOf}
use Rattle.pm_simplex.specs.OptimumEvidence.{IsLevelRow}
use Rattle.std.specs.List.{AllPairs, Contains}
use Rattle.std.specs.Prelude.{List, length, map, ℕ, ◌<◌, ◌≡◌, ◌↔◌}
use lib.IntN.{pos, ℤ, ◌*ℤ◌}
use lib.Signed.{◌<ℤ◌}

-- the row c of fractions is s > 0 times the whole row w
pub record IsScaleOf (c : List Ratio) (w : Row) (s : Ratio) : Type 0 where
  pub num : pos 0 <ℤ s.num
  pub den : pos 0 <ℤ s.den
  pub cols : length w ≡ length c
  pub denominators : (i : ℕ) → i < length c → pos 0 <ℤ (ratio_at c i).den
  pub same : (i : ℕ) → i < length c → s.num *ℤ (entry w i *ℤ (ratio_at c i).den)
      ≡ s.den *ℤ (ratio_at c i).num

-- w is the primitive row of the row v e0 - c
pub record IsPrimitiveLevel (c : List Ratio) (v : Ratio) (w : Row) : Type 0 where
  pub fractions : List Ratio
  pub level : IsLevelRow c v fractions
  pub primitive : IsPrimitiveRowOf fractions w
  pub stands : Stands fractions w

-- the numbers are the places below n, ascending, of the rows V on which w vanishes
pub record AreZeroPlaces (w : Row) (V : List Row) (n : ℕ) (ks : List ℤ) : Type 0 where
  pub js : List ℕ
  pub places : ks ≡ map pos js
  pub ascending : AllPairs (λ i j. i < j) js
  pub each : (j : ℕ) → Contains js j ↔ ((j < n) × (dot w (ray V j) ≡ pos 0))
