-- The lineality of cone(G) + span(L) (Ziegler, Lectures on Polytopes, section 1.5): which rows of G lie in it, and
-- what is eliminated of these.
use Rattle.pm_vector.specs.Cones.{InCone}
use Rattle.pm_vector.specs.Rows.{Row, opposite}
use Rattle.pm_vector.specs.Bases.{row_at}
use Rattle.pm_vector.specs.Evidence.{IsBasisOf}
use Rattle.pm_geom.specs.StatedOrder.{rows_marked}
use Rattle.std.specs.List.{Contains}
use Rattle.std.specs.Prelude.{Bool, IsTrue, List, [], false, get_or, length, true, ℕ, ◌++◌, ◌<◌, ◌↔◌, ◌∷◌, ◌≡◌}

-- the marks say of which rows of G the opposite is in the cone
pub record MarkLines (G L : List Row) (lines : List Bool) : Type 0 where
  pub as_many : length lines ≡ length G
  pub each : (i : ℕ) → i < length G → IsTrue (get_or lines i false) ↔ InCone G L (opposite (row_at G i))

-- the lines, and then these rows: they span the lineality
abbrev pub line_group : List Row → List Row → List Bool → List Row
line_group G L lines = L ++ rows_marked true lines G

-- the echelon basis of the rows that span the lineality, and then some row of G
pub record IsLinealityBasisAndRow (n : ℕ) (G L : List Row) (lines : List Bool) (X : List Row) : Type 0 where
  pub basis : List Row
  pub pivots : List ℕ
  pub is_basis : IsBasisOf n (line_group G L lines) basis pivots
  pub row : Row
  pub listed : Contains G row
  pub rows : X ≡ basis ++ row ∷ []
