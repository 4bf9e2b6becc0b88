-- The placing triangulation of the double description list of lines and rays.
use Rattle.std.specs.Prelude.{ℕ, List, ◌++◌, length}
use Rattle.pm_vector.specs.Rows.{HasCols, Row}
use Rattle.pm_laws_placing.specs.Placing.{IsPlacing}
use Rattle.pm_geom.specs.Triangulations.{IsTriangulation}
use Rattle.pm_dd.specs.Fronts.{both_signs}
use Rattle.pm_vector.specs.Evidence.{IsBasisOf}

-- the last cells of l1, -l1, l2, -l2, .. and G, where l1, l2, .. is the echelon basis of L, are a triangulation of
-- cone(G) + span(L)
abbrev pub DoubleListTriangulates : Type 0
DoubleListTriangulates = (n : ℕ) (L G basis : List Row) (pivots : List ℕ) → HasCols n L → HasCols n G
    → IsBasisOf n L basis pivots → (T : List (List ℕ))
    → IsPlacing n (both_signs basis) G (length (both_signs basis ++ G)) T → IsTriangulation n G L T
