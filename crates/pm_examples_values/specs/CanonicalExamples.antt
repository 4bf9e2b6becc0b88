-- The half line from 0, the cone over it and a line in the plane: which matrices are canonical.
use Rattle.std.specs.Prelude.{ℕ, List, [], ◌∷◌, codes}
use Rattle.pm_vector.specs.Numbers.{Ratio}
use Rattle.pm_vector.specs.Rows.{Row}
use Rattle.pm_geom.specs.Examples.{pair, triple}
use Rattle.pm_types.specs.Things.{Thing}
use Rattle.pm_types.specs.Canonical.{IsCanonical}
use Rattle.pm_props.specs.Kinds.{IsFresh, finding}
use Rattle.pm_props.specs.Properties.{facets_tag, rays_tag}
use Rattle.pm_examples_values.specs.RayExamples.{half_line_thing, line_thing}
use Rattle.pm_examples_values.specs.RowExamples.{half_cone, halved, whole_matrix}
use Rattle.pm_types.specs.Values.{matrix}
use Rattle.pm_props.specs.declared.kind.Kind.{Kind}
use Rattle.pm_props.specs.declared.property.PropId.{PropId}
use Rattle.pm_props.specs.declared.property.PropId.TheVariants.{AffineHull, Facets, LinealitySpace, Vertices, VerticesInFacets}
use lib.IntN.{pos, negsuc}

-- a kind of clients that find VERTICES from nothing
abbrev pub rays_kind : Kind
rays_kind = finding (codes "rays") (Vertices ∷ []) []

-- a kind of clients that find FACETS from nothing
abbrev pub facets_kind : Kind
facets_kind = finding (codes "facets") (Facets ∷ []) []

-- a kind of clients that find VERTICES from the order of the rays
abbrev pub reading_kind : Kind
reading_kind = finding (codes "again") (Vertices ∷ []) (VerticesInFacets ∷ [])

-- the first chooses the order of the rays, the second that of the facets, the third neither
pub record KindsAreFresh : Type 0 where
  pub rays : IsFresh rays_tag rays_kind
  pub rays_alone : ¬ (IsFresh facets_tag rays_kind)
  pub facets : IsFresh facets_tag facets_kind
  pub facets_alone : ¬ (IsFresh rays_tag facets_kind)
  pub order_read : ¬ (IsFresh rays_tag reading_kind)

-- whole rows are canonical as VERTICES that the kind finds
abbrev pub RaysAreCanonical : Kind → Thing → ℕ → List Row → Type 0
RaysAreCanonical kind t n X = IsCanonical kind Vertices (whole_matrix n X) t

-- whole rows are canonical as FACETS that the kind finds
abbrev pub FacetsAreCanonical : Kind → Thing → ℕ → List Row → Type 0
FacetsAreCanonical kind t n X = IsCanonical kind Facets (whole_matrix n X) t

-- the rows (0,1), (1,0), in lexicographic order
abbrev pub rising_rows : List Row
rising_rows = pair 0 1 ∷ pair 1 0 ∷ []

-- the same in the other order
abbrev pub falling_rows : List Row
falling_rows = pair 1 0 ∷ pair 0 1 ∷ []

-- an order that the kind chooses is lexicographic
pub record CanonicalOrdersAreRead : Type 0 where
  pub rays : RaysAreCanonical rays_kind half_line_thing 2 rising_rows
  pub rays_turned : ¬ (RaysAreCanonical rays_kind half_line_thing 2 falling_rows)
  pub rays_not_chosen : RaysAreCanonical facets_kind half_line_thing 2 falling_rows
  pub facets : FacetsAreCanonical facets_kind half_line_thing 2 rising_rows
  pub facets_turned : ¬ (FacetsAreCanonical facets_kind half_line_thing 2 falling_rows)
  pub facets_not_chosen : FacetsAreCanonical rays_kind half_line_thing 2 falling_rows

-- the row (1, 1/-2)
abbrev pub over_negative : List Ratio
over_negative = record { num = pos 1; den = pos 1 } ∷ record { num = pos 1; den = negsuc 1 } ∷ []

-- a vertex of a polytope is divided, so that its first coordinate is 1; other rows are primitive
pub record CanonicalRowsAreRead : Type 0 where
  pub divided : IsCanonical rays_kind Vertices (matrix 2 (halved ∷ [])) half_line_thing
  pub not_divided : ¬ (RaysAreCanonical rays_kind half_line_thing 2 (pair 2 1 ∷ []))
  pub no_fraction : ¬ (IsCanonical rays_kind Vertices (matrix 2 (over_negative ∷ [])) half_line_thing)
  pub cone_ray : RaysAreCanonical rays_kind half_cone 2 (pair 2 1 ∷ [])
  pub cone_ray_divided : ¬ (IsCanonical rays_kind Vertices (matrix 2 (halved ∷ [])) half_cone)
  pub facet : FacetsAreCanonical facets_kind half_line_thing 2 (pair 2 1 ∷ [])
  pub facet_divided : ¬ (IsCanonical facets_kind Facets (matrix 2 (halved ∷ [])) half_line_thing)
  pub far_not_primitive : ¬ (RaysAreCanonical rays_kind half_line_thing 2 (pair 0 2 ∷ []))
  pub facet_not_primitive : ¬ (FacetsAreCanonical facets_kind half_line_thing 2 (pair 2 0 ∷ []))

-- whole rows are canonical as a basis for the line
abbrev pub LinesAreCanonical : PropId → List Row → Type 0
LinesAreCanonical p X = IsCanonical rays_kind p (whole_matrix 3 X) line_thing

-- rows are reduced by the lineality, or by the rows that vanish, and these have echelon bases
pub record CanonicalLinesAreRead : Type 0 where
  pub ray : RaysAreCanonical rays_kind line_thing 3 (triple 1 0 0 ∷ [])
  pub ray_not_reduced : ¬ (RaysAreCanonical rays_kind line_thing 3 (triple 1 1 0 ∷ []))
  pub facet : FacetsAreCanonical facets_kind line_thing 3 (triple 1 0 0 ∷ [])
  pub facet_not_reduced : ¬ (FacetsAreCanonical facets_kind line_thing 3 (triple 1 0 1 ∷ []))
  pub lineality : LinesAreCanonical LinealitySpace (triple 0 1 0 ∷ [])
  pub doubled : ¬ (LinesAreCanonical LinealitySpace (triple 0 2 0 ∷ []))
  pub hull : LinesAreCanonical AffineHull (triple 0 0 1 ∷ [])
  pub hull_doubled : ¬ (LinesAreCanonical AffineHull (triple 0 0 2 ∷ []))
