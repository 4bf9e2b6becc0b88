-- Which orders a property reads: those that its tags name, and no other.
use Rattle.pm_geom.specs.Examples.{pair}
use Rattle.pm_geom.specs.Things.{Orders}
use Rattle.pm_props.specs.declared.property.PropId.TheVariants.{Facets, FarFace, MaximalCones, NVertices, Vertices, VerticesInFacets}
use Rattle.pm_examples_values.specs.RayExamples.{half_line_orders, half_line_thing}
use Rattle.pm_types.specs.Right.{Right, shown_to}
use Rattle.pm_types.specs.Values.{counts, whole}
use Rattle.std.specs.Prelude.{[], ◌∷◌, ◌≡◌}
use lib.IntN.{pos, ℤ}

-- the orders of the half line, with its rays the other way round
abbrev pub turned_orders : Orders
turned_orders = record half_line_orders { rays = pair 1 0 ∷ pair 0 1 ∷ [] }

pub record OrdersAreShown : Type 0 where
  -- the tag of the rays shows their order, that of the facets theirs and that of the cones
  pub rays : (o : Orders) → (shown_to Vertices o).rays ≡ o.rays
  pub facets : (o : Orders) → (shown_to Facets o).facets ≡ o.facets
  pub cones : (o : Orders) → (shown_to MaximalCones o).cones ≡ o.cones
  pub both : (o : Orders) → shown_to VerticesInFacets o ≡ o
  -- without the tag the order is empty, and not that of the thing
  pub no_rays : (o : Orders) → (shown_to NVertices o).rays ≡ []
  pub no_facets : (o : Orders) → (shown_to Vertices o).facets ≡ []
  pub hidden : ¬ ((o : Orders) → (shown_to NVertices o).rays ≡ o.rays)
  -- the far face of the half line has another place in the other order
  pub far_face : Right FarFace (counts (pos 0 ∷ [])) half_line_thing half_line_orders []
  pub turned : ¬ (Right FarFace (counts (pos 0 ∷ [])) half_line_thing turned_orders [])
  -- the number of vertices is the same in any
  pub not_read : (k : ℤ) (o p : Orders) → Right NVertices (whole k) half_line_thing o []
      → Right NVertices (whole k) half_line_thing p []
