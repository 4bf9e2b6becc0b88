-- The prism over a triangle, as a polytope: it is simple, and not simplicial.
use Rattle.std.specs.Prelude.{false, true, List, [], ◌∷◌}
use Rattle.pm_vector.specs.Rows.{Row}
use Rattle.pm_types.specs.Things.{Thing, IsThing, AreOrders}
use Rattle.pm_geom.specs.Things.{Orders}
use Rattle.pm_object_type.specs.declared.object_type.ObjectType.TheVariants.{Polytope}
use Rattle.pm_examples_values.specs.BipyramidExamples.{four}
use Rattle.pm_examples_values.specs.RayExamples.{thing_of}
use Rattle.pm_types.specs.Right.{Right}
use Rattle.pm_types.specs.Values.{PropertyValue, counts, truth, whole}
use Rattle.pm_props.specs.declared.property.PropId.{PropId}
use Rattle.pm_props.specs.declared.property.PropId.TheVariants.{CombinatorialDim, FacetSizes, Simple, Simplicial, VertexSizes}
use lib.IntN.{ℤ, pos, negsuc}

-- a triangle, and the same one higher
abbrev pub prism : List Row
prism =
    four 1 0 0 0 ∷ four 1 1 0 0 ∷ four 1 0 1 0
    ∷ four 1 0 0 1 ∷ four 1 1 0 1 ∷ four 1 0 1 1 ∷ []

-- three walls, the floor and the ceiling
abbrev pub walls : List Row
walls =
    four 0 1 0 0 ∷ four 0 0 1 0 ∷ (pos 1 ∷ negsuc 0 ∷ negsuc 0 ∷ pos 0 ∷ [])
    ∷ four 0 0 0 1 ∷ (pos 1 ∷ pos 0 ∷ pos 0 ∷ negsuc 0 ∷ []) ∷ []

abbrev pub prism_thing : Thing
prism_thing = thing_of Polytope 4 prism [] (four 0 0 0 0)

-- vertices and facet rows as they stand above
abbrev pub prism_orders : Orders
prism_orders = record { rays = prism; facets = walls; cones = [] }

-- each vertex lies on three facets
abbrev pub sizes_of_vertices : List ℤ
sizes_of_vertices = pos 3 ∷ pos 3 ∷ pos 3 ∷ pos 3 ∷ pos 3 ∷ pos 3 ∷ []

-- a wall has four vertices, floor and ceiling have three
abbrev pub sizes_of_walls : List ℤ
sizes_of_walls = pos 4 ∷ pos 4 ∷ pos 4 ∷ pos 3 ∷ pos 3 ∷ []

-- the value is right for the prism in these orders
abbrev pub PrismHas : PropId → PropertyValue → Type 0
PrismHas p v = Right p v prism_thing prism_orders []

pub record PrismCountsAreRead : Type 0 where
  pub thing : IsThing prism_thing
  pub orders : AreOrders prism_thing prism_orders
  pub dimension : PrismHas CombinatorialDim (whole (pos 3))
  pub vertex_sizes : PrismHas VertexSizes (counts sizes_of_vertices)
  pub vertex_sizes_refused : ¬ (PrismHas VertexSizes (counts sizes_of_walls))
  pub facet_sizes : PrismHas FacetSizes (counts sizes_of_walls)
  pub facet_sizes_refused : ¬ (PrismHas FacetSizes (counts sizes_of_vertices))
  -- it is simple, since each vertex lies on 3 facets, and not simplicial, since a wall has 4 vertices
  pub simple : PrismHas Simple (truth true)
  pub not_simple_refused : ¬ (PrismHas Simple (truth false))
  pub not_simplicial : PrismHas Simplicial (truth false)
  pub simplicial_refused : ¬ (PrismHas Simplicial (truth true))
