-- How a graph is found from right sets or faces, and what a right graph shows (Ziegler, Lectures on Polytopes,
-- sections 2.2 and 3.2). t is a cone or polytope with orders o.
use Rattle.pm_vector.specs.Numbers.{Ratio}
use Rattle.pm_clients_graph.specs.Degrees.{degrees}
use Rattle.pm_geom.specs.Graphs.{AreNeighbours, IsGraph, IsGreatestDistance, edge_count}
use Rattle.pm_geom.specs.Things.{Orders}
use Rattle.pm_graph.specs.Edges.{IsFaceGraph, IsIndexEdge, IsSetEdge}
use Rattle.pm_object_type.specs.declared.object_type.ObjectType.TheVariants.{Fan}
use Rattle.pm_props.specs.declared.property.PropId.TheVariants.{Diameter, DualDiameter, DualGraph, Graph, HasseDiagram, NEdges, NRidges, VertexDegrees, VerticesInFacets}
use Rattle.pm_types.specs.Right.{Right}
use Rattle.pm_types.specs.Things.{AreOrders, IsThing, Thing}
use Rattle.pm_types.specs.Values.{counts, edges, lattice, sets, whole}
use Rattle.std.specs.Prelude.{ℕ, ◌≡◌, List, length}
use lib.IntN.{pos}

-- the graph of the indices of right VERTICES_IN_FACETS is GRAPH
abbrev pub GraphIsFoundBySets : Type 0
GraphIsFoundBySets = (t : Thing) (o : Orders) → IsThing t → AreOrders t o → ¬ (t.of ≡ Fan)
    → (rows : List (List ℕ)) (n : ℕ) (c d : List Ratio) → Right VerticesInFacets (sets rows n) t o c →
    (g : List (List ℕ)) → IsGraph n (IsIndexEdge (record { rows = rows; cols = n })) g
    → Right Graph (edges g (length g)) t o d

-- the graph of the whole set of a right HASSE_DIAGRAM is GRAPH
abbrev pub GraphIsFoundByFaces : Type 0
GraphIsFoundByFaces = (t : Thing) (o : Orders) → IsThing t → AreOrders t o → ¬ (t.of ≡ Fan)
    → (ranks : List (List (List ℕ))) (c d : List Ratio) → Right HasseDiagram (lattice ranks) t o c →
    (g : List (List ℕ)) → IsFaceGraph ranks g → Right Graph (edges g (length g)) t o d

-- the graph of the sets of right VERTICES_IN_FACETS is DUAL_GRAPH
abbrev pub DualGraphIsFound : Type 0
DualGraphIsFound = (t : Thing) (o : Orders) → IsThing t → AreOrders t o → ¬ (t.of ≡ Fan)
    → (rows : List (List ℕ)) (n : ℕ) (c d : List Ratio) → Right VerticesInFacets (sets rows n) t o c →
    (g : List (List ℕ)) → IsGraph (length rows) (IsSetEdge rows) g
    → Right DualGraph (edges g (length g)) t o d

-- the degrees of a right GRAPH are VERTEX_DEGREES
abbrev pub NeighboursAreCounted : Type 0
NeighboursAreCounted = (t : Thing) (o : Orders) (g : List (List ℕ)) (n : ℕ) (c d : List Ratio)
    → Right Graph (edges g n) t o c → Right VertexDegrees (counts (degrees g)) t o d

-- the greatest distance in a right GRAPH is DIAMETER
abbrev pub DiameterIsFound : Type 0
DiameterIsFound = (t : Thing) (o : Orders) → IsThing t → AreOrders t o → ¬ (t.of ≡ Fan)
    → (g : List (List ℕ)) (n : ℕ) (c d : List Ratio) → Right Graph (edges g n) t o c →
    (k : ℕ) → IsGreatestDistance (length g) (AreNeighbours g) k → Right Diameter (whole (pos k)) t o d

-- the greatest distance in a right DUAL_GRAPH is DUAL_DIAMETER
abbrev pub DualDiameterIsFound : Type 0
DualDiameterIsFound = (t : Thing) (o : Orders) → IsThing t → AreOrders t o → ¬ (t.of ≡ Fan)
    → (g : List (List ℕ)) (n : ℕ) (c d : List Ratio) → Right DualGraph (edges g n) t o c →
    (k : ℕ) → IsGreatestDistance (length g) (AreNeighbours g) k → Right DualDiameter (whole (pos k)) t o d

-- the number of edges of a right GRAPH is N_EDGES
abbrev pub EdgesAreCounted : Type 0
EdgesAreCounted = (t : Thing) (o : Orders) → AreOrders t o → (g : List (List ℕ)) (n : ℕ) (c d : List Ratio)
    → Right Graph (edges g n) t o c → Right NEdges (whole (pos (edge_count g))) t o d

-- the number of edges of a right DUAL_GRAPH is N_RIDGES
abbrev pub RidgesAreCounted : Type 0
RidgesAreCounted = (t : Thing) (o : Orders) → AreOrders t o → (g : List (List ℕ)) (n : ℕ) (c d : List Ratio)
    → Right DualGraph (edges g n) t o c → Right NRidges (whole (pos (edge_count g))) t o d
