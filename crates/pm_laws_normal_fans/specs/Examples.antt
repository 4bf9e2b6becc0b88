-- The definitions read on the square, on segments and on fans of the line: what holds, and what does not.
use Rattle.std.specs.Prelude.{◌≡◌, Bool, List, [], ◌∷◌, nat_eq}
use Rattle.pm_vector.specs.Cones.{InCone}
use Rattle.pm_vector.specs.Rows.{Row, entry}
use Rattle.pm_geom.specs.Examples.{edges, half_line, pair, square, triple}
use Rattle.pm_geom.specs.ThingExamples.{left, right, two_rays}
use Rattle.pm_laws_normal_fans.specs.FaceFans.{AreHull, AreOrdersOf, InConeOver, IsCenteredPolytope, IsFaceFan}
use Rattle.pm_laws_normal_fans.specs.Fans.{Fan, HasOneFan, InPlace, IsCommonRefinement, IsConeAt, IsFan, IsMaximalIntersection, IsSameFan, cone_at}
use Rattle.pm_laws_normal_fans.specs.NormalFans.{IsConeOfVertex, IsNormalFan}
use Rattle.pm_laws_normal_fans.specs.Refinements.{AreAllIntersections, AreAllRays, AreKeptIntersections, HasRefinedRays, InHalfSpaces, Intersection, IsCutAt, IsEarlier, IsIntersection, IsRefined, IsWithin, Tells}
use Rattle.pm_laws_normal_fans.specs.Shadows.{AreUsed, IsShadowFan, held, rests, shadow_fan}
use Rattle.pm_laws_normal_fans.specs.Sums.{AreRowsOf, AreSumRows, Cone, IsInhabited, In, InMinkowskiSum, IsBounded, IsBoundedPolytope, IsLeastAt, IsPointSum, IsSumOf, IsVertex, far, point_sum, points, sum_rows, value}
use lib.IntN.{ℤ, pos, negsuc}
use lib.Signed.{◌<ℤ◌, ◌≤ℤ◌}

-- a pointed cone, and a fan of pointed cones
abbrev pub generated : List Row → Cone
generated V = record { generators = V; lines = [] }

abbrev pub fan : List (List Row) → Fan
fan cones = record { cones = cones; lines = [] }

-- -1
abbrev pub minus : ℤ
minus = negsuc 0

-- ---- polytopes
-- the points with coordinates from 0 to 1
abbrev pub unit_square : Cone
unit_square = generated square

-- its edges along the two axes
abbrev pub first_edge : Cone
first_edge = generated (triple 1 0 0 ∷ triple 1 1 0 ∷ [])

abbrev pub second_edge : Cone
second_edge = generated (triple 1 0 0 ∷ triple 1 0 1 ∷ [])

-- the point 5
abbrev pub five : Cone
five = generated (pair 1 5 ∷ [])

-- vertices, and what is least at them
pub record VerticesAreRead : Type 0 where
  -- the first entry counts nothing
  pub value : value (pos 3 ∷ minus ∷ []) (triple 7 2 1) ≡ pos 5
  pub bounded : IsBounded 3 (In unit_square)
  pub unbounded : ¬ (IsBounded 2 (InCone half_line []))
  pub corner : IsVertex 3 (In unit_square) (triple 1 0 0)
  pub midpoint : ¬ (IsVertex 3 (In unit_square) (triple 2 1 1))
  -- an extreme row that stands for no point
  pub direction : ¬ (IsVertex 2 (InCone half_line []) (pair 0 1))
  -- the sum of the coordinates is least at (0,0) and greatest at (1,1), where its opposite is least
  pub least : IsLeastAt 3 (In unit_square) (triple 1 0 0) (pair 1 1)
  pub greatest : ¬ (IsLeastAt 3 (In unit_square) (triple 1 1 1) (pair 1 1))
  pub opposed : IsLeastAt 3 (In unit_square) (triple 1 1 1) (minus ∷ minus ∷ [])
  -- on an edge, at a point that is no vertex too; its row may be any multiple
  pub on_edge : IsLeastAt 3 (In unit_square) (triple 2 0 1) (pair 1 0)
  -- an objective has no entry for the first column
  pub columns : ¬ (IsLeastAt 3 (In unit_square) (triple 1 0 0) (triple 0 1 1))
  pub polytope : IsBoundedPolytope 3 unit_square
  pub half : ¬ (IsBoundedPolytope 2 (generated half_line))
  pub empty : ¬ (IsInhabited 3 (generated []))

-- sums of points and of polytopes
pub record SumsAreRead : Type 0 where
  pub sum_of_points : IsPointSum (triple 1 1 2) (triple 1 3 1) (triple 1 4 3)
  pub other_sum : ¬ (IsPointSum (triple 1 1 2) (triple 1 3 1) (triple 1 4 4))
  -- the first entries are not added, and they are the same
  pub added : ¬ (IsPointSum (triple 1 1 2) (triple 1 3 1) (triple 2 4 3))
  pub inside : InMinkowskiSum 3 (In first_edge) (In second_edge) (triple 2 1 1)
  pub outside : ¬ (InMinkowskiSum 3 (In first_edge) (In second_edge) (triple 1 2 0))
  pub of_edges : IsSumOf 3 first_edge second_edge unit_square
  pub no_sum : ¬ (IsSumOf 3 first_edge second_edge first_edge)
  -- rows of a sum: no sum left out, and none that is not in it
  pub rows : AreSumRows 3 first_edge second_edge square
  pub lacks : ¬ (AreSumRows 3 first_edge second_edge (triple 1 0 0 ∷ triple 1 0 1 ∷ triple 1 1 0 ∷ []))
  pub beyond : ¬ (AreSumRows 3 first_edge second_edge (triple 1 2 0 ∷ square))
  -- rows that generate: any multiples, and more than are needed
  pub generate : AreRowsOf 3 first_edge (triple 2 2 0 ∷ triple 2 1 0 ∷ triple 1 0 0 ∷ []) []
  pub too_few : ¬ (AreRowsOf 3 first_edge (triple 2 1 0 ∷ triple 1 0 0 ∷ []) [])
  -- the rows that stand for points, and the others
  pub standing : points (pair 1 0 ∷ pair 0 1 ∷ pair 2 3 ∷ []) ≡ pair 1 0 ∷ pair 2 3 ∷ []
  pub others : far (pair 1 0 ∷ pair 0 1 ∷ pair 2 3 ∷ []) ≡ pair 0 1 ∷ []
  -- 1/2 + 5/3 = 13/6
  pub fractions : point_sum (pair 2 1) (pair 3 5) ≡ pair 6 13
  pub in_order : sum_rows (pair 1 0 ∷ pair 0 1 ∷ pair 1 2 ∷ []) (pair 1 5 ∷ [])
      ≡ pair 1 5 ∷ pair 1 7 ∷ pair 0 1 ∷ []

-- ---- fans
-- the two rays of the line
abbrev pub rays_of_line : Fan
rays_of_line = fan two_rays

-- the line, a cone alone
abbrev pub whole_line : Fan
whole_line = record { cones = [] ∷ []; lines = right ∷ [] }

-- fans and their common refinements
pub record RefinementsAreRead : Type 0 where
  -- the cone at a place
  pub place : cone_at rays_of_line 1 ≡ left ∷ []
  pub in_ray : InPlace rays_of_line 0 (pos 2 ∷ [])
  pub in_other_ray : ¬ (InPlace rays_of_line 1 (pos 2 ∷ []))
  pub on_line : InPlace whole_line 0 left
  pub half : IsConeAt 1 rays_of_line 0 (λ x. pos 0 ≤ℤ entry x 0)
  pub open_half : ¬ (IsConeAt 1 rays_of_line 0 (λ x. pos 0 <ℤ entry x 0))
  -- the same cones at whatever places, none more and none less, and the same lineality
  pub turned : IsSameFan 1 rays_of_line (fan ((left ∷ []) ∷ (right ∷ []) ∷ []))
  pub fewer : ¬ (IsSameFan 1 rays_of_line (fan ((right ∷ []) ∷ [])))
  pub more : ¬ (IsSameFan 1 (fan ((right ∷ []) ∷ [])) rays_of_line)
  pub other_lines : ¬ (IsSameFan 1 (fan []) (record { cones = []; lines = right ∷ [] }))
  -- a ray is the intersection of itself with itself; {0} lies in a ray
  pub maximal : IsMaximalIntersection 1 rays_of_line rays_of_line 0 0
  pub not_maximal : ¬ (IsMaximalIntersection 1 rays_of_line rays_of_line 0 1)
  pub no_place : ¬ (IsMaximalIntersection 1 rays_of_line rays_of_line 0 2)
  -- refinements of the rays with themselves, and with the line
  pub of_itself : IsCommonRefinement 1 rays_of_line rays_of_line rays_of_line
  pub of_line : IsCommonRefinement 1 rays_of_line whole_line (fan ((left ∷ []) ∷ (right ∷ []) ∷ []))
  -- none without a maximal intersection, with one that lies in another, or with a cone that is none
  pub left_out : ¬ (IsCommonRefinement 1 rays_of_line rays_of_line (fan ((right ∷ []) ∷ [])))
  pub included
      : ¬ (IsCommonRefinement 1 rays_of_line rays_of_line (fan ((right ∷ []) ∷ (left ∷ []) ∷ [] ∷ [])))
  pub coarser : ¬ (IsCommonRefinement 1 rays_of_line whole_line whole_line)
  -- without a cone there is no line
  pub without : IsCommonRefinement 1 rays_of_line (fan []) (fan [])
  pub bare : ¬ (IsCommonRefinement 1 rays_of_line (fan []) (record { cones = []; lines = right ∷ [] }))

-- for each vertex of the unit square the objectives that are least there
abbrev pub quadrants : List (List Row)
quadrants = (pair 1 0 ∷ pair 0 1 ∷ []) ∷ (pair 1 0 ∷ (pos 0 ∷ minus ∷ []) ∷ [])
    ∷ (pair 0 1 ∷ (minus ∷ pos 0 ∷ []) ∷ []) ∷ ((pos 0 ∷ minus ∷ []) ∷ (minus ∷ pos 0 ∷ []) ∷ []) ∷ []

-- the normal fans of the square and of a point
pub record NormalFansAreRead : Type 0 where
  pub at_corner : IsConeOfVertex 3 (In unit_square) (triple 1 0 0) (fan quadrants) 0
  -- not the objectives that are greatest there
  pub at_opposite : ¬ (IsConeOfVertex 3 (In unit_square) (triple 1 0 0) (fan quadrants) 3)
  pub square : IsNormalFan 3 (In unit_square) (fan quadrants)
  -- no vertex without its cone, and no cone but those of vertices
  pub three : ¬
      (IsNormalFan 3 (In unit_square)
      (fan ((pair 1 0 ∷ pair 0 1 ∷ []) ∷ (pair 1 0 ∷ (pos 0 ∷ minus ∷ []) ∷ [])
      ∷ (pair 0 1 ∷ (minus ∷ pos 0 ∷ []) ∷ []) ∷ [])))
  pub with_ray : ¬ (IsNormalFan 3 (In unit_square) (fan ((pair 1 0 ∷ []) ∷ quadrants)))
  -- at a point each objective is least
  pub point : IsNormalFan 2 (In five) whole_line

-- the corners with coordinates 1 and -1, and the edges of their square: x1 >= -1, x2 >= -1, x2 <= 1, x1 <= 1
abbrev pub even_corners : List Row
even_corners = triple 1 1 1 ∷ (pos 1 ∷ pos 1 ∷ minus ∷ []) ∷ (pos 1 ∷ minus ∷ pos 1 ∷ [])
    ∷ (pos 1 ∷ minus ∷ minus ∷ []) ∷ []

abbrev pub even_edges : List Row
even_edges = triple 1 1 0 ∷ triple 1 0 1 ∷ (pos 1 ∷ pos 0 ∷ minus ∷ []) ∷ (pos 1 ∷ minus ∷ pos 0 ∷ []) ∷ []

abbrev pub even_square : Cone
even_square = generated even_corners

-- the cones over these edges in turn
abbrev pub over_edges : List (List Row)
over_edges = ((minus ∷ pos 1 ∷ []) ∷ (minus ∷ minus ∷ []) ∷ [])
    ∷ ((pos 1 ∷ minus ∷ []) ∷ (minus ∷ minus ∷ []) ∷ []) ∷ (pair 1 1 ∷ (minus ∷ pos 1 ∷ []) ∷ [])
    ∷ (pair 1 1 ∷ (pos 1 ∷ minus ∷ []) ∷ []) ∷ []

-- the face fan of a square with 0 inside
pub record FaceFansAreRead : Type 0 where
  pub centered : IsCenteredPolytope 3 even_square
  -- 0 is a vertex
  pub not_centered : ¬ (IsCenteredPolytope 3 unit_square)
  pub over : InConeOver 2 even_square (triple 1 1 0) (negsuc 2 ∷ pos 1 ∷ [])
  pub beside : ¬ (InConeOver 2 even_square (triple 1 1 0) (minus ∷ pos 2 ∷ []))
  pub across : ¬ (InConeOver 2 even_square (triple 1 1 0) (pair 3 1))
  pub square : IsFaceFan 2 even_square (fan over_edges)
  -- no edge without its cone; the normal fan has other cones
  pub three : ¬
      (IsFaceFan 2 even_square
      (fan (((minus ∷ pos 1 ∷ []) ∷ (minus ∷ minus ∷ []) ∷ [])
      ∷ ((pos 1 ∷ minus ∷ []) ∷ (minus ∷ minus ∷ []) ∷ []) ∷ (pair 1 1 ∷ (minus ∷ pos 1 ∷ []) ∷ []) ∷ [])))
  pub normal : ¬ (IsFaceFan 2 even_square (fan quadrants))

-- the rows of the normal fan of the unit square
pub record ShadowsAreRead : Type 0 where
  pub without_first : rests (triple 1 2 3 ∷ pair 4 5 ∷ [] ∷ []) ≡ pair 2 3 ∷ (pos 5 ∷ []) ∷ [] ∷ []
  pub at_corner : held edges (triple 1 0 0) ≡ triple 0 1 0 ∷ triple 0 0 1 ∷ []
  pub cones : shadow_fan edges [] square ≡ fan quadrants
  pub orders : AreOrdersOf 3 unit_square square edges
  pub no_orders : ¬ (AreOrdersOf 3 unit_square edges square)
  -- only 0 vanishes on the square
  pub hull : AreHull 3 unit_square []
  pub no_hull : ¬ (AreHull 3 unit_square (triple 0 0 1 ∷ []))
  -- each edge holds a vertex; the vertices (0,0) and (0,1) lie on three edges alone
  pub used : AreUsed 3 edges [] square edges
  pub unused : ¬ (AreUsed 3 edges [] (triple 1 0 0 ∷ triple 1 0 1 ∷ []) edges)
  pub lacks : ¬ (AreUsed 3 edges [] square (triple 0 1 0 ∷ []))
  pub shadows : IsShadowFan 2 edges [] square edges
  pub no_shadows : ¬ (IsShadowFan 2 edges [] square [])

-- ---- the refinement of the two rays of the line with themselves, as it is computed
abbrev pub in_right : Intersection
in_right = record { first = 0; second = 0; rays = right ∷ [] }

abbrev pub right_left : Intersection
right_left = record { first = 0; second = 1; rays = [] }

abbrev pub left_right : Intersection
left_right = record { first = 1; second = 0; rays = [] }

abbrev pub in_left : Intersection
in_left = record { first = 1; second = 1; rays = left ∷ [] }

abbrev pub all_four : List Intersection
all_four = in_right ∷ right_left ∷ left_right ∷ in_left ∷ []

abbrev pub both_rays : List Intersection
both_rays = in_right ∷ in_left ∷ []

-- those kept of which the first cone is the ray to the right
abbrev pub from_right : Intersection → Bool
from_right a = nat_eq a.first 0

-- which intersections are listed and kept
pub record IntersectionsAreRead : Type 0 where
  pub ray : IsIntersection 1 rays_of_line rays_of_line [] in_right
  pub apex : IsIntersection 1 rays_of_line rays_of_line [] right_left
  -- no ray left out, none that is not primitive, and no line more
  pub no_ray : ¬
      (IsIntersection 1 rays_of_line rays_of_line [] (record { first = 0; second = 0; rays = [] }))
  pub doubled : ¬
      (IsIntersection 1 rays_of_line rays_of_line []
      (record { first = 0; second = 0; rays = (pos 2 ∷ []) ∷ [] }))
  pub lined : ¬ (IsIntersection 1 rays_of_line rays_of_line (right ∷ []) in_right)
  pub within : IsWithin 1 rays_of_line rays_of_line right_left in_right
  pub not_within : ¬ (IsWithin 1 rays_of_line rays_of_line in_right right_left)
  -- by the first place, then by the second
  pub earlier : IsEarlier right_left left_right
  pub by_second : IsEarlier in_right right_left
  pub later : ¬ (IsEarlier left_right right_left)
  pub all : AreAllIntersections 1 rays_of_line rays_of_line [] all_four
  pub not_all : ¬ (AreAllIntersections 1 rays_of_line rays_of_line [] both_rays)
  pub unordered
      : ¬ (AreAllIntersections 1 rays_of_line rays_of_line []
      (in_right ∷ left_right ∷ right_left ∷ in_left ∷ []))
  -- the two rays are kept, not {0}, and neither is left out
  pub kept : AreKeptIntersections 1 rays_of_line rays_of_line all_four both_rays
  pub apex_kept : ¬ (AreKeptIntersections 1 rays_of_line rays_of_line all_four all_four)
  pub ray_lost : ¬ (AreKeptIntersections 1 rays_of_line rays_of_line all_four (in_right ∷ []))
  -- of equal ones the first
  pub first_of_equal : AreKeptIntersections 1 rays_of_line rays_of_line (right_left ∷ left_right ∷ [])
      (right_left ∷ [])
  pub second_of_equal
      : ¬ (AreKeptIntersections 1 rays_of_line rays_of_line (right_left ∷ left_right ∷ []) (left_right ∷ []))
  pub tells : Tells 1 rays_of_line rays_of_line in_left both_rays from_right
  pub tells_not : ¬ (Tells 1 rays_of_line rays_of_line in_right both_rays from_right)

-- what is kept is the common refinement, and rows that cut out
pub record KeptAreRead : Type 0 where
  pub refined : IsRefined 1 rays_of_line rays_of_line [] both_rays
  pub not_refined : ¬ (IsRefined 1 rays_of_line rays_of_line [] all_four)
  -- there is one such fan; of all fans of the line there is not one alone
  pub one : HasOneFan 1 (IsCommonRefinement 1 rays_of_line rays_of_line)
  pub several : ¬ (HasOneFan 1 (IsFan 1))
  -- each ray once, in order
  pub rays : AreAllRays both_rays (left ∷ right ∷ [])
  pub turned : ¬ (AreAllRays both_rays (right ∷ left ∷ []))
  pub lacks : ¬ (AreAllRays both_rays (left ∷ []))
  pub refined_rays : HasRefinedRays 1 rays_of_line rays_of_line [] both_rays (left ∷ right ∷ [])
  pub lost_rays : ¬ (HasRefinedRays 1 rays_of_line rays_of_line [] both_rays (right ∷ []))
  -- products that are not negative, and products that are 0
  pub in_half : InHalfSpaces (right ∷ []) [] (pos 2 ∷ [])
  pub beyond : ¬ (InHalfSpaces (right ∷ []) [] left)
  pub off_null : ¬ (InHalfSpaces [] (right ∷ []) right)
  pub cut : IsCutAt 1 rays_of_line 0 (right ∷ []) []
  pub not_cut : ¬ (IsCutAt 1 rays_of_line 0 (left ∷ []) [])
