-- Where cells by wide numbers are given up: a row that they need is out of the range.
use Rattle.pm_dd.specs.Lost.{PartsAreLost}
use Rattle.pm_geom.specs.Faces.{ray}
use Rattle.pm_lift.specs.Lifting.{AreLiftedRows, AreRaisedRows, IsLiftedRow, IsRaisedRow, upwards}
use Rattle.pm_lift.specs.declared.fails.LiftFail.{LiftFail}
use Rattle.pm_lift.specs.declared.fails.LiftFail.TheVariants.{Many, Memory, Wide}
use Rattle.pm_vector.specs.Numbers.{InRange, Ratio}
use Rattle.pm_vector.specs.Rows.{Row, ratio_at}
use Rattle.std.specs.Prelude.{All, List, [], length, suc, ℕ, ◌++◌, ◌<◌, ◌∷◌, ◌⊎◌}

-- Q holds where cells are given up for a number out of the range
abbrev pub IfWideLift : LiftFail → Type 0 → Type 0
IfWideLift (Wide e) Q = Q
IfWideLift (Many e) Q = Unit {0}
IfWideLift Memory Q = Unit {0}

-- no row in the range is that of the site with this height
abbrev pub LiftedRowIsLost : Row → Ratio → Type 0
LiftedRowIsLost site height = (x : Row) → IsLiftedRow site height x → All InRange x → ⊥

-- no row in the range is that of the site, raised to the paraboloid
abbrev pub RaisedRowIsLost : Row → Type 0
RaisedRowIsLost site = (x : Row) → IsRaisedRow site x → All InRange x → ⊥

-- the lifted row of some site with its height is lost
pub record HasLostLiftedRow (Q : List Row) (W : List Ratio) : Type 0 where
  pub place : ℕ
  pub within : place < length Q
  pub lost : LiftedRowIsLost (ray Q place) (ratio_at W place)

-- the raised row of some site is lost
pub record HasLostRaisedRow (Q : List Row) : Type 0 where
  pub place : ℕ
  pub within : place < length Q
  pub lost : RaisedRowIsLost (ray Q place)

-- double description of the rows X, of n + 1 entries, and then the row upwards is lost
abbrev pub RowsAreLost : ℕ → List Row → Type 0
RowsAreLost n X = PartsAreLost (suc n) [] (X ++ upwards n ∷ [])

-- the cells of sites with heights are lost by wide numbers: a lifted row, or double description of all of them
abbrev pub LiftingIsLost : ℕ → List Row → List Ratio → Type 0
LiftingIsLost n Q W = HasLostLiftedRow Q W ⊎ ((X : List Row) × AreLiftedRows Q W X × RowsAreLost n X)

-- the Delaunay cells of sites are lost by wide numbers: a raised row, or double description of all of them
abbrev pub RaisingIsLost : ℕ → List Row → Type 0
RaisingIsLost n Q = HasLostRaisedRow Q ⊎ ((X : List Row) × AreRaisedRows Q X × RowsAreLost n X)
