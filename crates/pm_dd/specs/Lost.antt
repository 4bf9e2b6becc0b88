-- Where double description by wide numbers is given up: a row that it needs is out of the range.
use Rattle.std.specs.Prelude.{ℕ, ◌⊎◌, Bool, true, List, take}
use Rattle.std.specs.List.{All}
use Rattle.pm_vector.specs.Numbers.{InRange}
use Rattle.pm_vector.specs.Rows.{HasCols, Row}
use Rattle.pm_vector.specs.Bases.{row_at}
use Rattle.pm_bits.specs.Table.{Table}
use Rattle.pm_vector.specs.Enlarging.{MarkEnlarging}
use Rattle.pm_elim.specs.Lost.{IsLost, IsLostOnExtended, IsLostWithoutOne}
use Rattle.pm_geom.specs.Cones.{CutOut}
use Rattle.pm_geom.specs.Faces.{ray}
use Rattle.pm_geom.specs.Generators.{IsCanonicalRay}
use Rattle.pm_geom.specs.StatedOrder.{IsStatedFront, rows_marked}
use Rattle.pm_dd.specs.Arrangement.{IsArrangement}
use Rattle.pm_dd.specs.Building.{IsCombination}
use Rattle.pm_dd.specs.Description.{IsSource, pair}
use Rattle.pm_dd.specs.HullRefusals.{IsDoubleList}
use Rattle.pm_dd.specs.StepFails.{IsTablePair}
use Rattle.pm_dd.specs.declared.fails.CombinationFail.{CombinationFail}
use Rattle.pm_dd.specs.declared.fails.CombinationFail.TheVariants.{Column, First, NoMemory, Second}
use Rattle.pm_dd.specs.declared.fails.StepFail.{StepFail}
use Rattle.pm_dd.specs.declared.fails.StepFail.TheVariants.{Product, Pair, Many, Memory}
use Rattle.pm_dd.specs.declared.fails.DdFail.{DdFail}
use Rattle.pm_dd.specs.declared.fails.DdFail.TheVariants.{Many as DdMany, Memory as DdMemory, Wide}

-- no row in the range is the combination of r and s that vanishes on a
abbrev pub CombinationIsLost : Row → Row → Row → Type 0
CombinationIsLost a r s = (w : Row) → IsCombination a r s w → All InRange w → ⊥

-- Q holds where a combination is given up for a number out of the range
abbrev pub IfCombinationLost : CombinationFail → Type 0 → Type 0
IfCombinationLost First Q = Q
IfCombinationLost Second Q = Q
IfCombinationLost (Column c) Q = Q
IfCombinationLost NoMemory Q = Unit {0}

-- Q holds where a step is given up for a number out of the range
abbrev pub IfStepLost : StepFail → Type 0 → Type 0
IfStepLost (Product k) Q = Q
IfStepLost (Pair i j c) Q = Q
IfStepLost (Many W) Q = Unit {0}
IfStepLost Memory Q = Unit {0}

-- Q holds where double description is given up for a number out of the range
abbrev pub IfWide : DdFail → Type 0 → Type 0
IfWide (Wide e) Q = Q
IfWide (DdMany e) Q = Unit {0}
IfWide DdMemory Q = Unit {0}

-- the rays at i and at j are a pair of the table, and their combination that vanishes on a is lost
pub record IsLostTablePair (a : Row) (V : List Row) (table : Table) (i j : ℕ) : Type 0 where
  pub pair : IsTablePair table i j
  pub lost : CombinationIsLost a (ray V i) (ray V j)

-- the rays at two places are a pair that is combined for the next row, and their combination is lost
pub record IsLostSource (J : List Row) (f : ℕ) (V : List Row) : Type 0 where
  pub first : ℕ
  pub second : ℕ
  pub source : IsSource (take f J) (row_at J f) V (pair first second)
  pub lost : CombinationIsLost (row_at J f) (ray V first) (ray V second)

-- the cone of some front of the stated order of X has an extreme ray whose canonical row is out of the range
pub record HasWideRay (n : ℕ) (X : List Row) : Type 0 where
  pub ordered : List Row
  pub front : ℕ
  pub stated : IsStatedFront X ordered front
  pub ray : Row
  pub canonical : IsCanonicalRay n (CutOut (take front ordered)) ray
  pub wide : ¬ (All InRange ray)

-- so it is for each list whose rows are taken in this order
abbrev pub HasWideRayOnRows : ℕ → List Row → List Row → ℕ → Type 0
HasWideRayOnRows n E J start = (X : List Row) → HasCols n X → IsArrangement X E J start → HasWideRay n X

-- of the rows A, by which the lineality and the first rays are found, the null space or the dual rows are lost
abbrev pub DualsAreLost : ℕ → List Row → Type 0
DualsAreLost n A = IsLostOnExtended n A ⊎ IsLostWithoutOne n A

-- so it is for the rows of X that enlarge the span of those before them
pub record StartIsLost (n : ℕ) (X : List Row) : Type 0 where
  pub marks : List Bool
  pub enlarging : MarkEnlarging X marks
  pub lost : DualsAreLost n (rows_marked true marks X)

-- double description of the rows X by wide numbers is given up: one of its eliminations is lost, or the cone of some
-- front has a ray out of the range
abbrev pub DescriptionIsLost : ℕ → List Row → Type 0
DescriptionIsLost n X = IsLost n X ⊎ (StartIsLost n X ⊎ HasWideRay n X)

-- so it is for a double description list of a first part L and a second part G, or the elimination of L is lost
abbrev pub PartsAreLost : ℕ → List Row → List Row → Type 0
PartsAreLost n L G = IsLost n L ⊎ ((D : List Row) × IsDoubleList n L G D × DescriptionIsLost n D)
