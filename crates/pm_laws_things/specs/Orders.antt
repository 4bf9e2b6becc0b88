-- Orders of a thing, and the values that are right in some of them and in all.
use Rattle.pm_vector.specs.Numbers.{Ratio}
use Rattle.pm_geom.specs.Graphs.{IsDiameter, IsEdge, IsRidge, edge_count}
use Rattle.pm_geom.specs.Things.{Orders}
use Rattle.pm_object_type.specs.declared.object_type.ObjectType.TheVariants.{Fan}
use Rattle.pm_props.specs.Properties.{facets_tag, rays_tag}
use Rattle.pm_props.specs.declared.property.PropId.{PropId}
use Rattle.pm_types.specs.Right.{InSomeOrders, IsFacetGraph, IsRayGraph, Right}
use Rattle.pm_types.specs.Things.{AreOrders, IsThing, Thing}
use Rattle.pm_types.specs.Values.{PropertyValue}
use Rattle.std.specs.Prelude.{List, false, length, ℕ, ◌↔◌, ◌≡◌}

-- each thing has orders of its rays, facets and cones
abbrev pub OrdersExist : Type 0
OrdersExist = (t : Thing) → IsThing t → (o : Orders) × AreOrders t o

-- this is so of the thing in all orders
abbrev pub InAllOrders : Thing → (Orders → Type 0) → Type 0
InAllOrders t P = (o : Orders) → AreOrders t o → P o

-- the property speaks of the order of no rays, and of none of facets or cones, as its tags say
pub record SpeaksOfNoOrder (p : PropId) : Type 0 where
  pub rays : rays_tag p ≡ false
  pub facets : facets_tag p ≡ false

-- numbers, truth values and other values that speak of no order are right in all orders of a thing exactly where they
-- are right in some
abbrev pub SomeOrdersAreAll : Type 0
SomeOrdersAreAll = (p : PropId) → SpeaksOfNoOrder p → (v : PropertyValue) (t : Thing) (c : List Ratio)
    → IsThing t → InSomeOrders t (λ o. Right p v t o c) ↔ InAllOrders t (λ o. Right p v t o c)

-- ---- graphs
-- the graph of the rays, or of the facets, has this diameter
abbrev pub HasRayDiameter : Thing → ℕ → Orders → Type 0
HasRayDiameter t m o = IsDiameter (length o.rays) (IsEdge t.cols t.generators t.lines o.rays) m

abbrev pub HasFacetDiameter : Thing → ℕ → Orders → Type 0
HasFacetDiameter t m o = IsDiameter (length o.facets) (IsRidge t.cols t.generators t.lines o.rays o.facets) m

-- it has k edges
abbrev pub HasEdges : Thing → ℕ → Orders → Type 0
HasEdges t k o = (rows : List (List ℕ)) × IsRayGraph t o.rays rows × (k ≡ edge_count rows)

-- there are k ridges
abbrev pub HasRidges : Thing → ℕ → Orders → Type 0
HasRidges t k o = (rows : List (List ℕ)) × IsFacetGraph t o.rays o.facets rows × (k ≡ edge_count rows)

-- what the graphs of a cone or polytope are does not depend on the orders: their diameters are the same in all, and
-- so are the numbers of edges and ridges; and facets, in an order of their own, meet in the same ridges whatever the
-- order of the rays
pub record GraphsAreOfAllOrders (t : Thing) : Type 0 where
  pub ray_diameter : (m : ℕ) → InSomeOrders t (HasRayDiameter t m) ↔ InAllOrders t (HasRayDiameter t m)
  pub facet_diameter : (m : ℕ) → InSomeOrders t (HasFacetDiameter t m) ↔ InAllOrders t (HasFacetDiameter t m)
  pub edge_number : (k : ℕ) → InSomeOrders t (HasEdges t k) ↔ InAllOrders t (HasEdges t k)
  pub ridge_number : (k : ℕ) → InSomeOrders t (HasRidges t k) ↔ InAllOrders t (HasRidges t k)
  pub ridges : (o : Orders) → AreOrders t o → (rows : List (List ℕ))
      → InSomeOrders t (λ p. IsFacetGraph t p.rays o.facets rows)
      ↔ InAllOrders t (λ p. IsFacetGraph t p.rays o.facets rows)

abbrev pub GraphsOfAllOrders : Type 0
GraphsOfAllOrders = (t : Thing) → IsThing t → ¬ (t.of ≡ Fan) → GraphsAreOfAllOrders t
