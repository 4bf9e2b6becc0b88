-- A cone with five extreme rays and six facets, over a bipyramid: which counts are right.
use Rattle.std.specs.Prelude.{ℕ, false, true, List, [], ◌∷◌}
use Rattle.pm_vector.specs.Rows.{Row}
use Rattle.pm_types.specs.Things.{Thing, IsThing, AreOrders}
use Rattle.pm_geom.specs.Things.{Orders}
use Rattle.pm_object_type.specs.declared.object_type.ObjectType.TheVariants.{Cone}
use Rattle.pm_examples_values.specs.RayExamples.{thing_of}
use Rattle.pm_types.specs.Right.{Right}
use Rattle.pm_types.specs.Values.{PropertyValue, counts, sets, truth, whole}
use Rattle.pm_props.specs.declared.property.PropId.{PropId}
use Rattle.pm_props.specs.declared.property.PropId.TheVariants.{CombinatorialDim, FacetSizes, NFacets, NVertices, Simple, Simplicial, VertexSizes, VerticesInFacets}
use lib.IntN.{ℤ, pos, negsuc}

-- a row of four entries that are not negative
abbrev pub four : ℕ → ℕ → ℕ → ℕ → Row
four a b c d = pos a ∷ pos b ∷ pos c ∷ pos d ∷ []

-- the three corners of the triangle, and the tips on both sides of it
abbrev pub bipyramid : List Row
bipyramid =
    four 1 0 0 0 ∷ four 0 1 0 0 ∷ four 0 0 1 0
    ∷ four 0 0 0 1 ∷ (pos 1 ∷ pos 1 ∷ pos 1 ∷ negsuc 0 ∷ []) ∷ []

-- the three facets at each tip
abbrev pub sides : List Row
sides =
    four 1 0 0 0 ∷ four 0 1 0 0 ∷ four 0 0 1 0
    ∷ four 1 0 0 1 ∷ four 0 1 0 1 ∷ four 0 0 1 1 ∷ []

-- the cone that these rays generate
abbrev pub bipyramid_thing : Thing
bipyramid_thing = thing_of Cone 4 bipyramid [] (four 0 0 0 0)

-- rays and facet rows as they stand above
abbrev pub bipyramid_orders : Orders
bipyramid_orders = record { rays = bipyramid; facets = sides; cones = [] }

-- a corner lies on four facets and a tip on three
abbrev pub sizes_of_rays : List ℤ
sizes_of_rays = pos 4 ∷ pos 4 ∷ pos 4 ∷ pos 3 ∷ pos 3 ∷ []

-- each facet has three rays
abbrev pub sizes_of_facets : List ℤ
sizes_of_facets = pos 3 ∷ pos 3 ∷ pos 3 ∷ pos 3 ∷ pos 3 ∷ pos 3 ∷ []

-- the rays on each facet
abbrev pub side_sets : List (List ℕ)
side_sets =
    (1 ∷ 2 ∷ 3 ∷ []) ∷ (0 ∷ 2 ∷ 3 ∷ []) ∷ (0 ∷ 1 ∷ 3 ∷ [])
    ∷ (1 ∷ 2 ∷ 4 ∷ []) ∷ (0 ∷ 2 ∷ 4 ∷ []) ∷ (0 ∷ 1 ∷ 4 ∷ []) ∷ []

-- the facets at each ray
abbrev pub ray_sets : List (List ℕ)
ray_sets =
    (1 ∷ 2 ∷ 4 ∷ 5 ∷ []) ∷ (0 ∷ 2 ∷ 3 ∷ 5 ∷ []) ∷ (0 ∷ 1 ∷ 3 ∷ 4 ∷ [])
    ∷ (0 ∷ 1 ∷ 2 ∷ []) ∷ (3 ∷ 4 ∷ 5 ∷ []) ∷ []

-- the value is right for the cone in these orders
abbrev pub BipyramidHas : PropId → PropertyValue → Type 0
BipyramidHas p v = Right p v bipyramid_thing bipyramid_orders []

-- counts, sizes and sets, none of them the other way round
pub record BipyramidCountsAreRead : Type 0 where
  pub thing : IsThing bipyramid_thing
  pub orders : AreOrders bipyramid_thing bipyramid_orders
  pub incidence : BipyramidHas VerticesInFacets (sets side_sets 5)
  pub more_columns : ¬ (BipyramidHas VerticesInFacets (sets side_sets 6))
  pub transposed : ¬ (BipyramidHas VerticesInFacets (sets ray_sets 5))
  pub n_rays : BipyramidHas NVertices (whole (pos 5))
  pub n_rays_refused : ¬ (BipyramidHas NVertices (whole (pos 6)))
  pub n_facets : BipyramidHas NFacets (whole (pos 6))
  pub n_facets_refused : ¬ (BipyramidHas NFacets (whole (pos 5)))
  pub ray_sizes : BipyramidHas VertexSizes (counts sizes_of_rays)
  pub ray_sizes_refused : ¬ (BipyramidHas VertexSizes (counts sizes_of_facets))
  pub facet_sizes : BipyramidHas FacetSizes (counts sizes_of_facets)
  pub facet_sizes_refused : ¬ (BipyramidHas FacetSizes (counts sizes_of_rays))
  -- it is simplicial, since each facet has 3 rays, and not simple, since a corner lies on 4 facets
  pub dimension : BipyramidHas CombinatorialDim (whole (pos 3))
  pub simplicial : BipyramidHas Simplicial (truth true)
  pub simplicial_refused : ¬ (BipyramidHas Simplicial (truth false))
  pub not_simple : BipyramidHas Simple (truth false)
  pub simple_refused : ¬ (BipyramidHas Simple (truth true))
