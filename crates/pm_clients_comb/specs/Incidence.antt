-- Where the products that the client `incidence` takes stay in the range.
use Rattle.std.specs.Prelude.{ℕ, List, [], ◌∷◌, ◌≡◌}
use Rattle.pm_vector.specs.Numbers.{Ratio}
use Rattle.pm_vector.specs.Rows.{Row}
use Rattle.pm_client.specs.Sound.{ReadsMatrix}
use Rattle.pm_incidence.specs.Incidence.{AllStay}
use Rattle.pm_fraction.specs.FractionRows.{ArePrimitiveRowsOf}
use Rattle.pm_object.specs.Reading.{ViewSeen}
use Rattle.pm_props.specs.declared.property.PropId.TheVariants.{Facets, Vertices, VerticesInFacets}
use Rattle.pm_props.specs.declared.kind.Kind.{Kind}
use Rattle.pm_props.specs.Sets.{set_of}

-- a client of the kind finds VERTICES_IN_FACETS from VERTICES and FACETS
pub record FindsIncidence (kind : Kind) : Type 0 where
  pub targets : kind.targets ≡ set_of (VerticesInFacets ∷ [])
  pub sources : kind.sources ≡ set_of (Vertices ∷ Facets ∷ [])

-- each product of the primitive whole rows of the view's FACETS and VERTICES stays in the range
pub record StaysInRange (v : ViewSeen) : Type 0 where
  pub facet_cols : ℕ
  pub vertex_cols : ℕ
  pub facets : List (List Ratio)
  pub vertices : List (List Ratio)
  pub reads_facets : ReadsMatrix v Facets facet_cols facets
  pub reads_vertices : ReadsMatrix v Vertices vertex_cols vertices
  pub F : List Row
  pub V : List Row
  pub facet_rows : ArePrimitiveRowsOf facets F
  pub vertex_rows : ArePrimitiveRowsOf vertices V
  pub stay : AllStay F V
