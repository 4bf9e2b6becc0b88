-- Triangulations of the unit square: what is one, and what is none.
use Rattle.std.specs.Prelude.{ℕ, List, [], ◌∷◌}
use Rattle.pm_laws_placing.specs.Placing.{IsPlacing}
use Rattle.pm_geom.specs.Triangulations.{IsTriangulation}
use Rattle.pm_geom.specs.Examples.{square}

-- the triangles on either side of the diagonal from (1,0,1) to (1,1,0)
abbrev pub lower : List ℕ
lower = 0 ∷ 1 ∷ 2 ∷ []

abbrev pub upper : List ℕ
upper = 1 ∷ 2 ∷ 3 ∷ []

-- the two triangles are a triangulation; one of them alone covers too little, two that overlap meet in more than
-- their common side, and the rows of the whole square are dependent
pub record SquareIsTriangulated : Type 0 where
  pub two : IsTriangulation 3 square [] (lower ∷ upper ∷ [])
  pub one : ¬ (IsTriangulation 3 square [] (lower ∷ []))
  pub overlapping : ¬ (IsTriangulation 3 square [] (lower ∷ (0 ∷ 1 ∷ 3 ∷ []) ∷ upper ∷ []))
  pub quadrangle : ¬ (IsTriangulation 3 square [] ((0 ∷ 1 ∷ 2 ∷ 3 ∷ []) ∷ []))

-- the two triangles are the cells of the square's four vertices, taken in order; the upper one alone is not, nor is
-- the lower one
pub record SquareIsPlaced : Type 0 where
  pub first : IsPlacing 3 [] square 3 (lower ∷ [])
  pub all : IsPlacing 3 [] square 4 (lower ∷ upper ∷ [])
  pub fewer : ¬ (IsPlacing 3 [] square 4 (lower ∷ []))
