-- What the graphs of sets and of a lattice are, where these are those of a cone: cone(G) + span(L), with an order V
-- of its extreme rays and an order F of its facet rows (Ziegler, Lectures on Polytopes, lectures 2 and 3).
use Rattle.pm_vector.specs.Cones.{InCone}
use Rattle.pm_vector.specs.Rows.{HasCols, Row}
use Rattle.pm_geom.specs.Cones.{IsOrder, IsValid}
use Rattle.pm_geom.specs.FaceCounts.{IsHasseDiagram}
use Rattle.pm_geom.specs.Graphs.{AreNeighbours, IsDiameter, IsEdge, IsGraph, IsGreatestDistance, IsRidge}
use Rattle.pm_graph.specs.Edges.{IsFaceEdge, IsFaceGraph, IsIndexEdge, IsSetEdge, whole_of}
use Rattle.pm_types.specs.Right.{IsIncidence}
use Rattle.std.specs.Prelude.{ℕ, ◌↔◌, ◌≡◌, List, length}

-- where row i holds exactly the rays in the facet at i, the edges of the indices are those of the rays
abbrev pub IndexEdgesAreEdges : Type 0
IndexEdgesAreEdges = (n : ℕ) (G L : List Row) → HasCols n G → HasCols n L → (V F : List Row)
    → IsOrder n (InCone G L) V → IsOrder n (IsValid n G L) F →
    (rows : List (List ℕ)) → IsIncidence F V rows → (i j : ℕ)
    → IsIndexEdge (record { rows = rows; cols = length V }) i j ↔ IsEdge n G L V i j

-- and the edges of the sets are the ridges of the facets
abbrev pub SetEdgesAreRidges : Type 0
SetEdgesAreRidges = (n : ℕ) (G L : List Row) → HasCols n G → HasCols n L → (V F : List Row)
    → IsOrder n (InCone G L) V → IsOrder n (IsValid n G L) F →
    (rows : List (List ℕ)) → IsIncidence F V rows → (i k : ℕ) → IsSetEdge rows i k ↔ IsRidge n G L V F i k

-- the greatest distance in the graph of the rays is its diameter
abbrev pub GreatestDistanceIsDiameter : Type 0
GreatestDistanceIsDiameter = (n : ℕ) (G L : List Row) → HasCols n G → HasCols n L → (V : List Row)
    → IsOrder n (InCone G L) V →
    (rows : List (List ℕ)) → IsGraph (length V) (IsEdge n G L V) rows → (k : ℕ)
    → IsGreatestDistance (length rows) (AreNeighbours rows) k → IsDiameter (length V) (IsEdge n G L V) k

-- and so is that in the graph of the facets
abbrev pub DualGreatestDistanceIsDiameter : Type 0
DualGreatestDistanceIsDiameter = (n : ℕ) (G L : List Row) → HasCols n G → HasCols n L → (V F : List Row)
    → IsOrder n (InCone G L) V → IsOrder n (IsValid n G L) F →
    (rows : List (List ℕ)) → IsGraph (length F) (IsRidge n G L V F) rows → (k : ℕ)
    → IsGreatestDistance (length rows) (AreNeighbours rows) k
    → IsDiameter (length F) (IsRidge n G L V F) k

-- the whole set of a list of all faces has each ray, and its edges are the edges of the rays
abbrev pub FaceEdgesAreEdges : Type 0
FaceEdgesAreEdges = (n : ℕ) (G L : List Row) → HasCols n G → HasCols n L → (V : List Row)
    → IsOrder n (InCone G L) V →
    (ranks : List (List (List ℕ))) → IsHasseDiagram n G L V ranks
    → (length (whole_of ranks) ≡ length V) × ((i j : ℕ) → IsFaceEdge ranks i j ↔ IsEdge n G L V i j)

-- so the graph of such sets or faces is that of the rays, and the graph of the sets that of the facets
pub record GraphsAreRight (n : ℕ) (G L V F : List Row) : Type 0 where
  pub by_sets : (rows : List (List ℕ)) → IsIncidence F V rows → (g : List (List ℕ))
      → IsGraph (length V) (IsIndexEdge (record { rows = rows; cols = length V })) g
      → IsGraph (length V) (IsEdge n G L V) g
  pub by_faces : (ranks : List (List (List ℕ))) → IsHasseDiagram n G L V ranks → (g : List (List ℕ))
      → IsFaceGraph ranks g → IsGraph (length V) (IsEdge n G L V) g
  pub of_facets : (rows : List (List ℕ)) → IsIncidence F V rows → (g : List (List ℕ))
      → IsGraph (length rows) (IsSetEdge rows) g → IsGraph (length F) (IsRidge n G L V F) g

-- for each cone, with any orders of its extreme rays and facet rows
abbrev pub RightSourcesGiveGraphs : Type 0
RightSourcesGiveGraphs = (n : ℕ) (G L : List Row) → HasCols n G → HasCols n L → (V F : List Row)
    → IsOrder n (InCone G L) V → IsOrder n (IsValid n G L) F → GraphsAreRight n G L V F
