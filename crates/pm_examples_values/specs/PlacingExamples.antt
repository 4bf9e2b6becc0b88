-- Triangulations of the unit square as values of PLACING_TRIANGULATION: which are right.
use Rattle.std.specs.Prelude.{[], ◌∷◌}
use Rattle.pm_examples_values.specs.RayExamples.{SquareHas}
use Rattle.pm_laws_placing.specs.Examples.{lower, upper}
use Rattle.pm_props.specs.declared.property.PropId.TheVariants.{PlacingTriangulation}
use Rattle.pm_types.specs.Values.{sets}

-- the two triangles on either side of a diagonal are right, with the number of vertices as the column count; one of
-- them, one of them twice, the whole square, and another column count are not
pub record TriangulationsAreRead : Type 0 where
  pub two : SquareHas PlacingTriangulation (sets (lower ∷ upper ∷ []) 4)
  pub one : ¬ (SquareHas PlacingTriangulation (sets (lower ∷ []) 4))
  pub twice : ¬ (SquareHas PlacingTriangulation (sets (lower ∷ upper ∷ upper ∷ []) 4))
  pub overlapping : ¬ (SquareHas PlacingTriangulation (sets (lower ∷ (0 ∷ 1 ∷ 3 ∷ []) ∷ upper ∷ []) 4))
  pub quadrangle : ¬ (SquareHas PlacingTriangulation (sets ((0 ∷ 1 ∷ 2 ∷ 3 ∷ []) ∷ []) 4))
  pub more_columns : ¬ (SquareHas PlacingTriangulation (sets (lower ∷ upper ∷ []) 5))
