-- The half line and a line as cones, fans of a line, and a quadrant: rays, facet rows, linealities, spans, and far
-- rays.
use Rattle.std.specs.Prelude.{List, [], ◌∷◌, false, true}
use Rattle.pm_vector.specs.Rows.{Row}
use Rattle.pm_geom.specs.Examples.{pair, triple}
use Rattle.pm_object_type.specs.declared.object_type.ObjectType.TheVariants.{Cone, Polytope}
use Rattle.pm_examples_values.specs.RayExamples.{line_orders, thing_of}
use Rattle.pm_examples_values.specs.RowExamples.{before_zero, half_cone, mixed_orders, whole_matrix}
use Rattle.pm_examples_values.specs.ThingExamples.{FanHas, LineFanHas, single}
use Rattle.pm_props.specs.declared.property.PropId.TheVariants.{AffineHull, Facets, FarFace, LinealityDim, LinealitySpace, NVertices, Pointed, Points, Vertices}
use Rattle.pm_props.specs.declared.property.PropId.{PropId}
use Rattle.pm_types.specs.Right.{Right}
use Rattle.pm_types.specs.Things.{Thing}
use Rattle.pm_types.specs.Values.{PropertyValue, counts, truth, whole}
use lib.IntN.{pos}

-- the value is right for the cone over the half line, of which no line is known
abbrev pub HalfConeHas : PropId → PropertyValue → Type 0
HalfConeHas p v = Right p v half_cone mixed_orders []

-- the cone of the line through (1,0,0) along (0,1,0), as a cone
abbrev pub line_cone : Thing
line_cone = thing_of Cone 3 (triple 1 0 0 ∷ []) (triple 0 1 0 ∷ []) (triple 0 0 0)

abbrev pub LineConeHas : PropId → PropertyValue → Type 0
LineConeHas p v = Right p v line_cone line_orders []

-- what is right for a cone: RAYS and FACETS in their order, up to lineality and rows that vanish; bases of its
-- lineality and of the rows that vanish
pub record ConeRowsAreRead : Type 0 where
  pub input_rays : HalfConeHas Points (whole_matrix 2 (pair 1 3 ∷ pair 0 2 ∷ []))
  pub outside : ¬ (HalfConeHas Points (whole_matrix 2 (pair 1 3 ∷ before_zero ∷ [])))
  pub rays : HalfConeHas Vertices (whole_matrix 2 (pair 0 1 ∷ pair 1 0 ∷ []))
  pub rays_turned : ¬ (HalfConeHas Vertices (whole_matrix 2 (pair 1 0 ∷ pair 0 1 ∷ [])))
  pub slanted_ray : LineConeHas Vertices (whole_matrix 3 (triple 1 5 0 ∷ []))
  pub not_a_ray : ¬ (LineConeHas Vertices (whole_matrix 3 (triple 1 0 1 ∷ [])))
  pub facets : HalfConeHas Facets (whole_matrix 2 (pair 1 0 ∷ pair 0 1 ∷ []))
  pub facets_turned : ¬ (HalfConeHas Facets (whole_matrix 2 (pair 0 1 ∷ pair 1 0 ∷ [])))
  pub slanted_facet : LineConeHas Facets (whole_matrix 3 (triple 1 0 3 ∷ []))
  pub not_a_facet : ¬ (LineConeHas Facets (whole_matrix 3 (triple 1 1 0 ∷ [])))
  pub lineality : LineConeHas LinealitySpace (whole_matrix 3 (triple 0 2 0 ∷ []))
  pub no_lines : ¬ (LineConeHas LinealitySpace (whole_matrix 3 []))
  pub not_a_line : ¬ (LineConeHas LinealitySpace (whole_matrix 3 (triple 0 0 1 ∷ [])))
  pub span : LineConeHas AffineHull (whole_matrix 3 (triple 0 0 2 ∷ []))
  pub no_rows : ¬ (LineConeHas AffineHull (whole_matrix 3 []))
  pub not_vanishing : ¬ (LineConeHas AffineHull (whole_matrix 3 (triple 0 1 0 ∷ [])))

-- what is right for the lines of a fan, those of all its cones: of the line as a fan one, of the two rays none; and
-- how many rays it has
pub record FanLinesAreRead : Type 0 where
  pub lineality : LineFanHas LinealitySpace (whole_matrix 1 (single (pos 2)))
  pub no_lines : ¬ (LineFanHas LinealitySpace (whole_matrix 1 []))
  pub none : FanHas LinealitySpace (whole_matrix 1 [])
  pub not_a_line : ¬ (FanHas LinealitySpace (whole_matrix 1 (single (pos 1))))
  pub dimension : LineFanHas LinealityDim (whole (pos 1))
  pub not_nought : ¬ (LineFanHas LinealityDim (whole (pos 0)))
  pub not_pointed : LineFanHas Pointed (truth false)
  pub has_a_line : ¬ (LineFanHas Pointed (truth true))
  pub pointed : FanHas Pointed (truth true)
  pub has_no_line : ¬ (FanHas Pointed (truth false))
  pub two_rays : FanHas NVertices (whole (pos 2))
  pub not_three : ¬ (FanHas NVertices (whole (pos 3)))

-- the rays of the quadrant x1, x2 >= 0: a direction, the vertex, another direction
abbrev pub quadrant : List Row
quadrant = triple 0 1 0 ∷ triple 1 0 0 ∷ triple 0 0 1 ∷ []

abbrev pub QuadrantHas : PropId → PropertyValue → Type 0
QuadrantHas p v = Right p v (thing_of Polytope 3 quadrant [] (triple 0 0 0))
    (record { rays = quadrant; facets = []; cones = [] }) []

-- its two far rays, by their places, which rise
pub record FarRaysAreRead : Type 0 where
  pub both : QuadrantHas FarFace (counts (pos 0 ∷ pos 2 ∷ []))
  pub descending : ¬ (QuadrantHas FarFace (counts (pos 2 ∷ pos 0 ∷ [])))
  pub first_alone : ¬ (QuadrantHas FarFace (counts (pos 0 ∷ [])))
  pub with_the_vertex : ¬ (QuadrantHas FarFace (counts (pos 0 ∷ pos 1 ∷ pos 2 ∷ [])))
