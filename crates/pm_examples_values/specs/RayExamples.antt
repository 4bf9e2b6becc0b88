-- The half line from 0, segments, a line, the square, the empty polytope: which values are right.
use Rattle.std.specs.Prelude.{ℕ, List, [], ◌∷◌, false, true}
use Rattle.pm_vector.specs.Rows.{Row}
use Rattle.pm_geom.specs.Examples.{half_line, pair, triple}
use Rattle.pm_types.specs.Things.{Thing, IsThing, AreOrders}
use Rattle.pm_geom.specs.Things.{Orders}
use Rattle.pm_object_type.specs.declared.object_type.ObjectType.{ObjectType}
use Rattle.pm_object_type.specs.declared.object_type.ObjectType.TheVariants.{Polytope}
use Rattle.pm_examples_values.specs.Examples.{empty_thing, no_orders, square_orders, square_thing}
use Rattle.pm_types.specs.Right.{Right}
use Rattle.pm_types.specs.Values.{PropertyValue, counts, truth, whole}
use Rattle.pm_types.specs.Views.{ratios}
use Rattle.pm_props.specs.declared.property.PropId.{PropId}
use Rattle.pm_props.specs.declared.property.PropId.TheVariants.{Bounded, Centered, CombinatorialDim, ConeAmbientDim, ConeDim, FarFace, Feasible, FullDim, LinealityDim, Pointed}
use lib.IntN.{pos, negsuc}

-- the cone or polytope with these generators and lines; each of its programs has this objective
abbrev pub thing_of : ObjectType → ℕ → List Row → List Row → Row → Thing
thing_of of n G L objective = record {
  of = of;
  cols = n;
  generators = G;
  lines = L;
  cones = [];
  objective = λ s. ratios objective;
  sites = [];
  heights = [];
}

-- the half line, as a polytope
abbrev pub half_line_thing : Thing
half_line_thing = thing_of Polytope 2 half_line [] (pair 0 0)

-- the order of its extreme rays, and that of its facet rows, the far face among them
abbrev pub half_line_orders : Orders
half_line_orders = record { rays = half_line; facets = half_line; cones = [] }

-- the value is right for the half line, in these orders
abbrev pub HalfLineHas : PropId → PropertyValue → Type 0
HalfLineHas p v = Right p v half_line_thing half_line_orders []

-- the half line has a point, a ray and no line
pub record HalfLineValuesAreRead : Type 0 where
  pub thing : IsThing half_line_thing
  pub orders : AreOrders half_line_thing half_line_orders
  pub columns : HalfLineHas ConeAmbientDim (whole (pos 2))
  pub no_more_columns : ¬ (HalfLineHas ConeAmbientDim (whole (pos 3)))
  pub another_form : ¬ (HalfLineHas ConeAmbientDim (truth true))
  pub feasible : HalfLineHas Feasible (truth true)
  pub not_infeasible : ¬ (HalfLineHas Feasible (truth false))
  pub unbounded : HalfLineHas Bounded (truth false)
  pub not_bounded : ¬ (HalfLineHas Bounded (truth true))
  pub pointed : HalfLineHas Pointed (truth true)
  pub has_no_line : ¬ (HalfLineHas Pointed (truth false))
  pub far_face : HalfLineHas FarFace (counts (pos 0 ∷ []))
  pub not_none : ¬ (HalfLineHas FarFace (counts []))
  pub not_the_vertex : ¬ (HalfLineHas FarFace (counts (pos 1 ∷ [])))
  pub not_both : ¬ (HalfLineHas FarFace (counts (pos 0 ∷ pos 1 ∷ [])))
  pub not_twice : ¬ (HalfLineHas FarFace (counts (pos 0 ∷ pos 0 ∷ [])))

-- the value is right for the square
abbrev pub SquareHas : PropId → PropertyValue → Type 0
SquareHas p v = Right p v square_thing square_orders []

-- the square is bounded, and none of its vertices is far
pub record SquareIsBounded : Type 0 where
  pub bounded : SquareHas Bounded (truth true)
  pub not_unbounded : ¬ (SquareHas Bounded (truth false))
  pub far_face : SquareHas FarFace (counts [])
  pub not_the_first : ¬ (SquareHas FarFace (counts (pos 0 ∷ [])))

-- the value is right for the empty polytope
abbrev pub EmptyHas : PropId → PropertyValue → Type 0
EmptyHas p v = Right p v empty_thing no_orders []

-- the empty polytope has no point, is bounded, has no far ray, and does not have (1,0) inside
pub record EmptyValuesAreRead : Type 0 where
  pub infeasible : EmptyHas Feasible (truth false)
  pub not_feasible : ¬ (EmptyHas Feasible (truth true))
  pub bounded : EmptyHas Bounded (truth true)
  pub not_unbounded : ¬ (EmptyHas Bounded (truth false))
  pub far_face : EmptyHas FarFace (counts [])
  pub not_a_ray : ¬ (EmptyHas FarFace (counts (pos 0 ∷ [])))
  pub not_centered : EmptyHas Centered (truth false)
  pub refused : ¬ (EmptyHas Centered (truth true))

-- the line through (1,0,0) along (0,1,0) in the plane
abbrev pub line_thing : Thing
line_thing = thing_of Polytope 3 (triple 1 0 0 ∷ []) (triple 0 1 0 ∷ []) (triple 0 0 0)

-- its one ray, and its one facet row, the far face
abbrev pub line_orders : Orders
line_orders = record { rays = triple 1 0 0 ∷ []; facets = triple 1 0 0 ∷ []; cones = [] }

-- the value is right for the line
abbrev pub LineHas : PropId → PropertyValue → Type 0
LineHas p v = Right p v line_thing line_orders []

-- its cone has dimension 2 in three columns, and its lineality the dimension 1
pub record LineDimensionsAreRead : Type 0 where
  pub thing : IsThing line_thing
  pub orders : AreOrders line_thing line_orders
  pub has_a_line : LineHas Pointed (truth false)
  pub not_pointed : ¬ (LineHas Pointed (truth true))
  pub lineality_dim : LineHas LinealityDim (whole (pos 1))
  pub no_less : ¬ (LineHas LinealityDim (whole (pos 0)))
  pub cone_dim : LineHas ConeDim (whole (pos 2))
  pub no_space : ¬ (LineHas ConeDim (whole (pos 3)))
  pub combinatorial_dim : LineHas CombinatorialDim (whole (pos 0))
  pub not_the_dimension : ¬ (LineHas CombinatorialDim (whole (pos 1)))
  pub flat : LineHas FullDim (truth false)
  pub not_full : ¬ (LineHas FullDim (truth true))

-- it is unbounded, though its one vertex is not far, and it has 0 in its relative interior
pub record LineIsUnbounded : Type 0 where
  pub unbounded : LineHas Bounded (truth false)
  pub not_bounded : ¬ (LineHas Bounded (truth true))
  pub far_face : LineHas FarFace (counts [])
  pub not_the_vertex : ¬ (LineHas FarFace (counts (pos 0 ∷ [])))
  pub centered : LineHas Centered (truth true)
  pub not_off : ¬ (LineHas Centered (truth false))

-- the segment from -1 to 1
abbrev pub around : List Row
around = (pos 1 ∷ negsuc 0 ∷ []) ∷ pair 1 1 ∷ []

-- the segment from 0 to 1
abbrev pub from_zero : List Row
from_zero = pair 1 0 ∷ pair 1 1 ∷ []

-- the segment from 1 to 2
abbrev pub beyond : List Row
beyond = pair 1 1 ∷ pair 1 2 ∷ []

-- the segment with these ends
abbrev pub segment_of : List Row → Thing
segment_of G = thing_of Polytope 2 G [] (pair 0 0)

-- the value is right for the segment, in whatever orders
abbrev pub SegmentHas : List Row → PropId → PropertyValue → Type 0
SegmentHas G p v = Right p v (segment_of G) no_orders []

-- 0 is in the interior of the first, is an end of the second, and is not in the third
pub record SegmentsAreRead : Type 0 where
  pub around_zero : SegmentHas around Centered (truth true)
  pub around_refused : ¬ (SegmentHas around Centered (truth false))
  pub end : SegmentHas from_zero Centered (truth false)
  pub end_refused : ¬ (SegmentHas from_zero Centered (truth true))
  pub outside : SegmentHas beyond Centered (truth false)
  pub outside_refused : ¬ (SegmentHas beyond Centered (truth true))
