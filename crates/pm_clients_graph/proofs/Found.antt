-- The graphs of right sets and faces are right, and so is what right graphs show.
use Rattle.pm_vector.specs.Rows.{Row}
use Rattle.pm_clients_graph.specs.Laws.{DiameterIsFound, DualDiameterIsFound, DualGraphIsFound, EdgesAreCounted, GraphIsFoundByFaces, GraphIsFoundBySets, NeighboursAreCounted, RidgesAreCounted}
use Rattle.pm_geom.specs.Graphs.{IsAscending, IsEdge, IsGraph, IsRidge}
use Rattle.pm_geom.specs.Things.{AreConeOrders, Orders}
use Rattle.pm_graph.proofs.RightFaces.{face_edges_are_edges}
use Rattle.pm_graph.proofs.RightGraphs.{dual_greatest_distance_is_diameter, greatest_distance_is_diameter, index_edges_are_edges, set_edges_are_ridges, sets_are_facets}
use Rattle.pm_graph.specs.Edges.{IsFaceEdge, IsIndexEdge, IsSetEdge, whole_of}
use Rattle.pm_object_type.specs.declared.object_type.ObjectType.TheVariants.{Cone, Fan, Polytope}
use Rattle.pm_object_type.specs.declared.object_type.ObjectType.{ObjectType}
use Rattle.pm_relations.proofs.Spans.{thing_cols}
use Rattle.pm_types.specs.Things.{AreOrdersOf}
use Rattle.std.proofs.Common.{arith, refl, subst, sym, ◌∙◌}
use Rattle.std.specs.List.{All}
use Rattle.std.specs.Prelude.{List, length, ℕ, ◌↔◌, ◌≡◌}

-- lists of neighbours along E are those along F, where E and F join the same
graph_same : (m n : ℕ) → m ≡ n → (E F : ℕ → ℕ → Type 0) → ((i j : ℕ) → E i j ↔ F i j) → (g : List (List ℕ)) → IsGraph m E g → IsGraph n F g
graph_same m n e E F same g graph = record {
  nodes = graph.nodes ∙ e;
  ascending = subst (λ k. All (IsAscending k) g) e graph.ascending;
  edges = λ i j l. (let w = graph.edges i j (omega arith) in (λ c. (same i j).0 (w.0 c), λ k. w.1 ((same i j).1 k)));
}

-- a graph has as many nodes as it has lists of neighbours
with_nodes : (n : ℕ) (E : ℕ → ℕ → Type 0) (g : List (List ℕ)) → IsGraph n E g → (length g ≡ n) × IsGraph n E g
with_nodes n E g graph = (graph.nodes, graph)

cone_orders : (of : ObjectType) (n : ℕ) (G L : List Row) (Gs : List (List Row)) (o : Orders) → AreOrdersOf of n G L Gs o → ¬ (of ≡ Fan) → AreConeOrders n G L o
cone_orders Polytope n G L Gs o h none = h
cone_orders Cone n G L Gs o h none = h
cone_orders Fan n G L Gs o h none = absurd (none refl)

-- the rays in one order with the facets in another
rays_with_facets : (of : ObjectType) (n : ℕ) (G L : List Row) (Gs : List (List Row)) (o p : Orders) → AreOrdersOf of n G L Gs o → AreOrdersOf of n G L Gs p → AreOrdersOf of n G L Gs (record o { rays = p.rays })
rays_with_facets Polytope n G L Gs o p h k = record { rays = k.rays; facets = h.facets; cones = h.cones }
rays_with_facets Cone n G L Gs o p h k = record { rays = k.rays; facets = h.facets; cones = h.cones }
rays_with_facets Fan n G L Gs o p h k = record { each = k.each; all = k.all; once = k.once; facets = h.facets; places = h.places; every = h.every; places_once = h.places_once }

-- ---- graphs
pub graph_by_sets : GraphIsFoundBySets
graph_by_sets t o thing orders no_fan rows n c d right g graph =
    let w = thing_cols t thing in
    let a = cone_orders t.of t.cols t.generators t.lines t.cones o orders no_fan in
    with_nodes (length o.rays) (IsEdge t.cols t.generators t.lines o.rays) g
    (graph_same n (length o.rays) right.0 (IsIndexEdge (record { rows = rows; cols = n })) (IsEdge t.cols t.generators t.lines o.rays)
    (subst (λ m. (i j : ℕ) → IsIndexEdge (record { rows = rows; cols = m }) i j ↔ IsEdge t.cols t.generators t.lines o.rays i j) (sym right.0) (index_edges_are_edges t.cols t.generators t.lines w.0 w.1 o.rays o.facets a.rays a.facets rows right.1)) g graph)

pub graph_by_faces : GraphIsFoundByFaces
graph_by_faces t o thing orders no_fan ranks c d right g graph =
    let w = thing_cols t thing in
    let a = cone_orders t.of t.cols t.generators t.lines t.cones o orders no_fan in
    let e = face_edges_are_edges t.cols t.generators t.lines w.0 w.1 o.rays a.rays ranks right in
    with_nodes (length o.rays) (IsEdge t.cols t.generators t.lines o.rays) g
    (graph_same (length (whole_of ranks)) (length o.rays) e.0 (IsFaceEdge ranks) (IsEdge t.cols t.generators t.lines o.rays) e.1 g graph)

pub dual_graph_is_found : DualGraphIsFound
dual_graph_is_found t o thing orders no_fan rows n c d right g graph =
    let w = thing_cols t thing in
    let a = cone_orders t.of t.cols t.generators t.lines t.cones o orders no_fan in
    let ridges = graph_same (length rows) (length o.facets) (sets_are_facets o.facets o.rays rows right.1) (IsSetEdge rows) (IsRidge t.cols t.generators t.lines o.rays o.facets)
    (set_edges_are_ridges t.cols t.generators t.lines w.0 w.1 o.rays o.facets a.rays a.facets rows right.1) g graph in
    (ridges.nodes, record { orders = o; are_orders = orders; holds = ridges })

-- ---- what graphs show
pub neighbours_are_counted : NeighboursAreCounted
neighbours_are_counted t o g n c d right = (g, right.1, refl)

pub diameter_is_found : DiameterIsFound
diameter_is_found t o thing orders no_fan g n c d right k far =
    let w = thing_cols t thing in
    let a = cone_orders t.of t.cols t.generators t.lines t.cones o orders no_fan in
    record { orders = o; are_orders = orders; holds = (k, refl, greatest_distance_is_diameter t.cols t.generators t.lines w.0 w.1 o.rays a.rays g right.1 k far) }

pub dual_diameter_is_found : DualDiameterIsFound
dual_diameter_is_found t o thing orders no_fan g n c d right k far =
    let w = thing_cols t thing in
    let p = right.1.orders in
    let a = cone_orders t.of t.cols t.generators t.lines t.cones o orders no_fan in
    let b = cone_orders t.of t.cols t.generators t.lines t.cones p right.1.are_orders no_fan in
    record {
      orders = record o { rays = p.rays };
      are_orders = rays_with_facets t.of t.cols t.generators t.lines t.cones o p orders right.1.are_orders;
      holds = (k, refl, dual_greatest_distance_is_diameter t.cols t.generators t.lines w.0 w.1 p.rays o.facets b.rays a.facets g right.1.holds k far);
    }

pub edges_are_counted : EdgesAreCounted
edges_are_counted t o orders g n c d right = record { orders = o; are_orders = orders; holds = (g, right.1, refl) }

pub ridges_are_counted : RidgesAreCounted
ridges_are_counted t o orders g n c d right =
    let p = right.1.orders in
    record { orders = record o { rays = p.rays }; are_orders = rays_with_facets t.of t.cols t.generators t.lines t.cones o p orders right.1.are_orders; holds = (g, right.1.holds, refl) }
