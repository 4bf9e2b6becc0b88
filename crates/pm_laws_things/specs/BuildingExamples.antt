-- Built things read on segments: what lies in them, and what does not.
use Rattle.std.specs.Prelude.{ℕ, List, [], ◌∷◌}
use Rattle.pm_vector.specs.Rows.{Row}
use Rattle.pm_object_type.specs.declared.object_type.ObjectType.TheVariants.{Polytope}
use Rattle.pm_types.specs.Things.{Thing}
use Rattle.pm_laws_things.specs.Built.{InCube, InHull, InPolar, InProduct, InPyramid, IsCross, IsCube, IsCyclic, IsPolar, IsProduct, IsPyramid, IsSimplex, IsSum}
use Rattle.pm_laws_normal_fans.specs.Examples.{first_edge, second_edge, unit_square}
use Rattle.pm_laws_normal_fans.specs.Sums.{Cone}
use lib.IntN.{pos, negsuc}

-- the polytope of these rows of n entries
abbrev pub generated : ℕ → List Row → Thing
generated n G = record {
  of = Polytope;
  cols = n;
  generators = G;
  lines = [];
  cones = [];
  objective = λ s. [];
  sites = [];
  heights = [];
}

-- from 0 to 1
abbrev pub unit_segment : Thing
unit_segment = generated 2 ((pos 1 ∷ pos 0 ∷ []) ∷ (pos 1 ∷ pos 1 ∷ []) ∷ [])

-- from -1 to 1
abbrev pub even_segment : Thing
even_segment = generated 2 ((pos 1 ∷ pos 1 ∷ []) ∷ (pos 1 ∷ negsuc 0 ∷ []) ∷ [])

-- from 1 to 2
abbrev pub far_segment : Thing
far_segment = generated 2 ((pos 1 ∷ pos 1 ∷ []) ∷ (pos 1 ∷ pos 2 ∷ []) ∷ [])

-- from -1 to 2
abbrev pub long_segment : Thing
long_segment = generated 2 ((pos 1 ∷ negsuc 0 ∷ []) ∷ (pos 1 ∷ pos 2 ∷ []) ∷ [])

-- the point 5
abbrev pub five : Thing
five = generated 2 ((pos 1 ∷ pos 5 ∷ []) ∷ [])

-- from (0, 5) to (1, 5)
abbrev pub high_segment : Thing
high_segment = generated 3 ((pos 1 ∷ pos 0 ∷ pos 5 ∷ []) ∷ (pos 1 ∷ pos 1 ∷ pos 5 ∷ []) ∷ [])

-- with the corners (0, 0), (1, 0) and (0, 1)
abbrev pub triangle : Thing
triangle = generated 3 ((pos 1 ∷ pos 0 ∷ pos 0 ∷ []) ∷ (pos 1 ∷ pos 1 ∷ pos 0 ∷ [])
    ∷ (pos 1 ∷ pos 0 ∷ pos 1 ∷ []) ∷ [])

-- standard polytopes in one dimension
pub record ShapesAreRead : Type 0 where
  -- a cube has coordinates from -1 to 1
  pub corner : InCube 1 (pos 1 ∷ negsuc 0 ∷ [])
  pub half : InCube 1 (pos 2 ∷ pos 1 ∷ [])
  pub above : ¬ (InCube 1 (pos 1 ∷ pos 2 ∷ []))
  pub below : ¬ (InCube 1 (pos 1 ∷ negsuc 1 ∷ []))
  pub cube : IsCube 1 even_segment
  pub no_cube : ¬ (IsCube 1 unit_segment)
  pub no_square : ¬ (IsCube 2 even_segment)
  -- a hull has what lies between
  pub between : InHull ((pos 0 ∷ []) ∷ (pos 1 ∷ []) ∷ []) (pos 2 ∷ pos 1 ∷ [])
  pub outside : ¬ (InHull ((pos 0 ∷ []) ∷ (pos 1 ∷ []) ∷ []) (pos 1 ∷ pos 2 ∷ []))
  pub simplex : IsSimplex 1 unit_segment
  pub no_simplex : ¬ (IsSimplex 1 even_segment)
  pub cross : IsCross 1 even_segment
  pub no_cross : ¬ (IsCross 1 unit_segment)
  pub cyclic : IsCyclic 1 2 far_segment
  pub no_cyclic : ¬ (IsCyclic 1 2 unit_segment)

-- products, polars and pyramids of segments
pub record OthersAreRead : Type 0 where
  -- the first columns are those of the first polytope
  pub pair : InProduct unit_segment even_segment (pos 1 ∷ pos 1 ∷ negsuc 0 ∷ [])
  pub turned : ¬ (InProduct unit_segment even_segment (pos 1 ∷ negsuc 0 ∷ pos 1 ∷ []))
  pub product : IsProduct unit_segment five high_segment
  pub no_product : ¬ (IsProduct five unit_segment high_segment)
  -- 1 + x y >= 0 and not 1 - x y >= 0
  pub one_side : InPolar long_segment (pos 1 ∷ pos 1 ∷ [])
  pub other_side : ¬ (InPolar long_segment (pos 1 ∷ negsuc 0 ∷ []))
  pub polar : IsPolar even_segment even_segment
  pub no_polar : ¬ (IsPolar long_segment even_segment)
  -- the base has 0 as its last coordinate, the apex 1
  pub base : InPyramid unit_segment (pos 1 ∷ pos 1 ∷ pos 0 ∷ [])
  pub apex : InPyramid unit_segment (pos 1 ∷ pos 0 ∷ pos 1 ∷ [])
  pub beyond : ¬ (InPyramid unit_segment (pos 1 ∷ pos 0 ∷ pos 2 ∷ []))
  pub under : ¬ (InPyramid unit_segment (pos 1 ∷ pos 0 ∷ negsuc 0 ∷ []))
  pub pyramid : IsPyramid unit_segment triangle
  pub no_pyramid : ¬ (IsPyramid far_segment triangle)

-- the polytope that a cone of n columns stands for
abbrev pub of_cone : ℕ → Cone → Thing
of_cone n P = record {
  of = Polytope;
  cols = n;
  generators = P.generators;
  lines = P.lines;
  cones = [];
  objective = λ s. [];
  sites = [];
  heights = [];
}

-- sums of edges and of points
pub record MinkowskiSumsAreRead : Type 0 where
  -- the square is the sum of two of its edges
  pub square : IsSum (of_cone 3 first_edge) (of_cone 3 second_edge) (of_cone 3 unit_square)
  -- 5 + 5 is not 5, and lies on the line
  pub no_point : ¬ (IsSum five five five)
  pub no_column_more : ¬ (IsSum five five high_segment)
