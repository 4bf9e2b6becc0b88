-- The half line from 0, a line, the empty polytope: which matrices are right, alone and in pairs.
use Rattle.std.specs.Prelude.{ℕ, List, [], ◌∷◌, None, map}
use Rattle.pm_vector.specs.Numbers.{Ratio}
use Rattle.pm_vector.specs.Rows.{Row}
use Rattle.pm_geom.specs.Examples.{half_line, pair, triple}
use Rattle.pm_types.specs.Things.{Thing, AreOrders}
use Rattle.pm_geom.specs.Things.{Orders}
use Rattle.pm_object_type.specs.declared.object_type.ObjectType.TheVariants.{Cone, Polytope}
use Rattle.pm_examples_values.specs.Examples.{empty_thing}
use Rattle.pm_examples_values.specs.RayExamples.{HalfLineHas, LineHas, SegmentHas, beyond, half_line_orders, half_line_thing, line_thing, thing_of}
use Rattle.pm_types.specs.Right.{Right, RightAll, RightPair}
use Rattle.pm_types.specs.Values.{Fact, PropertyValue, matrix}
use Rattle.pm_types.specs.Views.{ratios}
use Rattle.pm_props.specs.declared.property.PropId.{PropId}
use Rattle.pm_props.specs.declared.property.PropId.TheVariants.{AffineHull, Equations, Facets, Inequalities, InputLineality, LinealitySpace, Points, Vertices}
use lib.IntN.{pos, negsuc}

-- a matrix of n columns with these rows
abbrev pub whole_matrix : ℕ → List Row → PropertyValue
whole_matrix n X = matrix n (map ratios X)

-- the row (1,-1), a point before the half line
abbrev pub before_zero : Row
before_zero = pos 1 ∷ negsuc 0 ∷ []

-- the row (1, 1/2), the point 1/2 of the half line
abbrev pub halved : List Ratio
halved = record { num = pos 1; den = pos 1 } ∷ record { num = pos 1; den = pos 2 } ∷ []

-- rows of a cone, and rows that are valid on it; rows of the lineality, and rows that vanish
pub record RowsAreRead : Type 0 where
  pub points : HalfLineHas Points (whole_matrix 2 (pair 1 3 ∷ pair 0 2 ∷ []))
  pub fraction : HalfLineHas Points (matrix 2 (halved ∷ []))
  pub outside : ¬ (HalfLineHas Points (whole_matrix 2 (pair 1 3 ∷ before_zero ∷ [])))
  pub longer : ¬ (HalfLineHas Points (whole_matrix 3 (triple 1 3 0 ∷ [])))
  pub segment_point : SegmentHas beyond Points (whole_matrix 2 (pair 1 1 ∷ []))
  pub valid_outside : ¬ (SegmentHas beyond Points (whole_matrix 2 (pair 1 0 ∷ [])))
  pub segment_row : SegmentHas beyond Inequalities (whole_matrix 2 ((negsuc 0 ∷ pos 1 ∷ []) ∷ []))
  pub lineality : LineHas InputLineality (whole_matrix 3 (triple 0 2 0 ∷ []))
  pub no_line : ¬ (LineHas InputLineality (whole_matrix 3 (triple 1 0 0 ∷ [])))
  pub inequality : HalfLineHas Inequalities (whole_matrix 2 (pair 1 1 ∷ []))
  pub not_valid : ¬ (HalfLineHas Inequalities (whole_matrix 2 (before_zero ∷ [])))
  pub equation : LineHas Equations (whole_matrix 3 (triple 0 0 2 ∷ []))
  pub valid_alone : ¬ (LineHas Equations (whole_matrix 3 (triple 1 0 0 ∷ [])))
  pub not_on_the_line : ¬ (LineHas Equations (whole_matrix 3 (triple 0 1 0 ∷ [])))

-- whole rows as points and lines that describe the thing together
abbrev pub Generate : Thing → ℕ → List Row → List Row → Type 0
Generate t n X K = RightPair Points (whole_matrix n X) InputLineality (whole_matrix n K) t

-- whole rows as inequalities and equations that describe the thing together
abbrev pub CutOutTogether : Thing → ℕ → List Row → List Row → Type 0
CutOutTogether t n A E = RightPair Inequalities (whole_matrix n A) Equations (whole_matrix n E) t

-- the cone over the half line, as a cone
abbrev pub half_cone : Thing
half_cone = thing_of Cone 2 half_line [] (pair 0 0)

-- what generates the half line is neither less nor more; what generates the line has a line
pub record GeneratorsAreRead : Type 0 where
  pub described : Generate half_line_thing 2 (pair 1 0 ∷ pair 0 1 ∷ []) []
  pub vertex_alone : ¬ (Generate half_line_thing 2 (pair 1 0 ∷ []) [])
  pub too_much : ¬ (Generate half_line_thing 2 (pair 0 1 ∷ pair 1 0 ∷ before_zero ∷ []) [])
  pub line_described : Generate line_thing 3 (triple 1 0 0 ∷ []) (triple 0 1 0 ∷ [])
  pub point_alone : ¬ (Generate line_thing 3 (triple 1 0 0 ∷ []) [])

-- x1 >= 0 cuts out the half line, and not the cone over it; -1 >= 0 cuts out the empty polytope
pub record HalfSpacesAreRead : Type 0 where
  pub described : CutOutTogether half_line_thing 2 (pair 0 1 ∷ []) []
  pub far_face_alone : ¬ (CutOutTogether half_line_thing 2 (pair 1 0 ∷ []) [])
  pub too_much : ¬ (CutOutTogether half_line_thing 2 (pair 0 1 ∷ (negsuc 0 ∷ pos 1 ∷ []) ∷ []) [])
  pub cone_described : CutOutTogether half_cone 2 (pair 0 1 ∷ pair 1 0 ∷ []) []
  pub cone_needs_both : ¬ (CutOutTogether half_cone 2 (pair 0 1 ∷ []) [])
  pub line_described : CutOutTogether line_thing 3 [] (triple 0 0 1 ∷ [])
  pub no_equation : ¬ (CutOutTogether line_thing 3 [] [])
  pub empty_described : CutOutTogether empty_thing 2 ((negsuc 0 ∷ pos 0 ∷ []) ∷ []) []
  pub not_empty : ¬ (CutOutTogether empty_thing 2 (pair 0 1 ∷ []) [])
  pub not_the_half_line : ¬ (CutOutTogether half_line_thing 2 ((negsuc 0 ∷ pos 0 ∷ []) ∷ []) [])

-- orders in which the rays are missing
abbrev pub rays_missing : Orders
rays_missing = record { rays = []; facets = half_line; cones = [] }

-- a fact of the object itself
abbrev pub fact_of : PropId → PropertyValue → Fact
fact_of p v = record { place = None; property = p; value = v }

-- points and lines as facts of the object
abbrev pub generators_of : List Row → List Fact
generators_of X =
    fact_of Points (whole_matrix 2 X) ∷ fact_of InputLineality (whole_matrix 2 []) ∷ []

-- each fact is right, of a thing, in orders of it; two may be right and not together
pub record PairsAreRead : Type 0 where
  pub together : RightAll (generators_of half_line) half_line_thing half_line_orders
  pub first : HalfLineHas Points (whole_matrix 2 (pair 1 0 ∷ []))
  pub second : HalfLineHas InputLineality (whole_matrix 2 [])
  pub not_together : ¬ (RightAll (generators_of (pair 1 0 ∷ [])) half_line_thing half_line_orders)
  pub no_facts : RightAll [] half_line_thing half_line_orders
  pub not_each : ¬ (RightAll (generators_of (before_zero ∷ [])) half_line_thing half_line_orders)
  pub not_orders : ¬ (RightAll [] half_line_thing rays_missing)
  pub no_thing : ¬ (RightAll [] (thing_of Polytope 2 half_line [] (pos 0 ∷ [])) half_line_orders)

-- the half line with its rays in the one order, and its facet rows in the other
abbrev pub mixed_orders : Orders
mixed_orders = record {
  rays = pair 0 1 ∷ pair 1 0 ∷ [];
  facets = pair 1 0 ∷ pair 0 1 ∷ [];
  cones = [];
}

-- the value is right for the half line in these orders
abbrev pub MixedHas : PropId → PropertyValue → Type 0
MixedHas p v = Right p v half_line_thing mixed_orders []

-- rays in their order, up to positive scale and lineality, each of them, and none more
pub record RayRowsAreRead : Type 0 where
  pub orders : AreOrders half_line_thing mixed_orders
  pub rays : MixedHas Vertices (whole_matrix 2 (pair 0 1 ∷ pair 1 0 ∷ []))
  pub scaled : MixedHas Vertices (whole_matrix 2 (pair 0 2 ∷ pair 3 0 ∷ []))
  pub turned : ¬ (MixedHas Vertices (whole_matrix 2 (pair 1 0 ∷ pair 0 1 ∷ [])))
  pub fewer : ¬ (MixedHas Vertices (whole_matrix 2 (pair 0 1 ∷ [])))
  pub more : ¬ (MixedHas Vertices (whole_matrix 2 (pair 0 1 ∷ pair 1 0 ∷ pair 1 0 ∷ [])))
  pub negative : ¬ (MixedHas Vertices (whole_matrix 2 ((pos 0 ∷ negsuc 0 ∷ []) ∷ pair 1 0 ∷ [])))
  pub longer : ¬ (MixedHas Vertices (whole_matrix 3 (triple 0 1 0 ∷ triple 1 0 0 ∷ [])))
  pub slanted : LineHas Vertices (whole_matrix 3 (triple 1 5 0 ∷ []))
  pub not_a_ray : ¬ (LineHas Vertices (whole_matrix 3 (triple 1 0 1 ∷ [])))

-- facet rows in their order, up to positive scale and rows that vanish, each of them, and none more
pub record FacetRowsAreRead : Type 0 where
  pub facets : MixedHas Facets (whole_matrix 2 (pair 1 0 ∷ pair 0 1 ∷ []))
  pub scaled : MixedHas Facets (whole_matrix 2 (pair 2 0 ∷ pair 0 3 ∷ []))
  pub turned : ¬ (MixedHas Facets (whole_matrix 2 (pair 0 1 ∷ pair 1 0 ∷ [])))
  pub fewer : ¬ (MixedHas Facets (whole_matrix 2 (pair 1 0 ∷ [])))
  pub negative : ¬ (MixedHas Facets (whole_matrix 2 ((negsuc 0 ∷ pos 0 ∷ []) ∷ pair 0 1 ∷ [])))
  pub slanted : LineHas Facets (whole_matrix 3 (triple 1 0 3 ∷ []))
  pub not_a_facet : ¬ (LineHas Facets (whole_matrix 3 (triple 1 1 0 ∷ [])))

-- bases of the lineality and of the rows that vanish: as many rows as needed, and each of the space
pub record BasesAreRight : Type 0 where
  pub lineality : LineHas LinealitySpace (whole_matrix 3 (triple 0 2 0 ∷ []))
  pub too_few : ¬ (LineHas LinealitySpace (whole_matrix 3 []))
  pub dependent : ¬ (LineHas LinealitySpace (whole_matrix 3 (triple 0 1 0 ∷ triple 0 2 0 ∷ [])))
  pub no_line : ¬ (LineHas LinealitySpace (whole_matrix 3 (triple 0 0 1 ∷ [])))
  pub longer : ¬ (LineHas LinealitySpace (whole_matrix 4 ((pos 0 ∷ triple 1 0 0) ∷ [])))
  pub hull : LineHas AffineHull (whole_matrix 3 (triple 0 0 2 ∷ []))
  pub hull_too_few : ¬ (LineHas AffineHull (whole_matrix 3 []))
  pub hull_dependent : ¬ (LineHas AffineHull (whole_matrix 3 (triple 0 0 1 ∷ triple 0 0 2 ∷ [])))
  pub not_vanishing : ¬ (LineHas AffineHull (whole_matrix 3 (triple 0 1 0 ∷ [])))
