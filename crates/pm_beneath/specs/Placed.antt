-- What `place` answers and refuses.
use Rattle.std.specs.Prelude.{ℕ, ◌⊎◌, List}
use Rattle.pm_vector.specs.Rows.{HasCols, Row}
use Rattle.pm_beneath.specs.declared.fails.PlaceFail.{PlaceFail}
use Rattle.pm_beneath.specs.declared.fails.PlaceFail.TheVariants.{Many, Memory, Wide}
use Rattle.pm_dd.specs.declared.fails.DdFail.{DdFail}
use Rattle.pm_dd.specs.declared.fails.DdFail.TheVariants.{Many as DdMany, Memory as DdMemory, Wide as DdWide}
use Rattle.pm_geom.specs.declared.evidence.Evidence.{Evidence}
use Rattle.pm_geom.specs.declared.evidence.Evidence.TheVariants.{E5Cells}
use Rattle.pm_dd.specs.HullRefusals.{IsShownOnParts}
use Rattle.pm_laws_placing.specs.PlacedCells.{AreCrowdedCells, IsPlacingTriangulation}
use Rattle.pm_geom.specs.Triangulations.{IsTriangulation}

-- a refusal of double description, as one of placing
abbrev pub fail_of_engine : DdFail → PlaceFail
fail_of_engine (DdWide e) = Wide e
fail_of_engine (DdMany e) = Many e
fail_of_engine DdMemory = Memory

-- Q holds where placing is given up for a number out of the range
abbrev pub IfPlaceWide : PlaceFail → Type 0 → Type 0
IfPlaceWide (Wide e) Q = Q
IfPlaceWide (Many e) Q = Unit {0}
IfPlaceWide Memory Q = Unit {0}

-- the evidence is of the cells of a front, more than most_rows
abbrev pub ShowsManyCells : ℕ → List Row → List Row → Evidence → Type 0
ShowsManyCells n L G (E5Cells front cells) = AreCrowdedCells n L G front cells
ShowsManyCells n L G e = ⊥

-- the refusal is want of memory, or has evidence that holds: of double description, on the lines L or on the list of
-- lines and rays; or the cells of a front, more than most_rows
abbrev pub IsShownPlace : ℕ → List Row → List Row → PlaceFail → Type 0
IsShownPlace n L G (Wide e) = IsShownOnParts n L G (DdWide e)
IsShownPlace n L G (Many e) = IsShownOnParts n L G (DdMany e) ⊎ ShowsManyCells n L G e
IsShownPlace n L G Memory = Unit {0}

-- placing triangulations are triangulations of cone(G) + span(L)
abbrev pub PlacedCellsTriangulate : Type 0
PlacedCellsTriangulate = (n : ℕ) (L G : List Row) (T : List (List ℕ)) → HasCols n L → HasCols n G
    → IsPlacingTriangulation n L G T → IsTriangulation n G L T
