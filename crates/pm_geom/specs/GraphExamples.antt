-- The definitions of graphs and counts read on small things: what holds of them, and what does not.
use Rattle.pm_vector.specs.Rows.{Row}
use Rattle.pm_geom.specs.Examples.{square}
use Rattle.pm_geom.specs.FaceCounts.{IsHasseDiagram, IsLexBefore, f2_of, f_of, h_of}
use Rattle.pm_geom.specs.Graphs.{AreNeighbours, IsAscending, IsConnected, IsDiameter, IsDistance, IsEdge, IsGraph, IsGreatestDistance, IsWalk, edge_count, holds, sets_of}
use Rattle.std.specs.Prelude.{ℕ, ◌≡◌, ◌∷◌, List, [], true, false, map}
use lib.IntN.{negsuc, pos}

-- the indices 0 and 2
abbrev pub corners : List ℕ
corners = 0 ∷ 2 ∷ []

-- members, lists that do not rise, and lexicographic order
pub record IndexListsAreRead : Type 0 where
  pub has : holds corners 2 ≡ true
  pub lacks : holds corners 1 ≡ false
  pub sets : sets_of (corners ∷ []) ≡ holds corners ∷ []
  pub ascending : IsAscending 3 corners
  pub beyond : ¬ (IsAscending 2 corners)
  pub falling : ¬ (IsAscending 3 (2 ∷ 0 ∷ []))
  pub twice : ¬ (IsAscending 3 (1 ∷ 1 ∷ []))
  pub lexicographic : IsLexBefore (0 ∷ 3 ∷ []) (1 ∷ 2 ∷ [])
  pub shorter : IsLexBefore (0 ∷ []) (0 ∷ 1 ∷ [])
  pub not_itself : ¬ (IsLexBefore corners corners)

-- the four sides of the unit square join its corners 0 to 3
abbrev pub square_graph : List (List ℕ)
square_graph = (1 ∷ 2 ∷ []) ∷ (0 ∷ 3 ∷ []) ∷ (0 ∷ 3 ∷ []) ∷ (1 ∷ 2 ∷ []) ∷ []

-- sides, diagonals, walks, distances and the diameter of the unit square
pub record SquareGraphIsRead : Type 0 where
  pub side : IsEdge 3 square [] square 0 1
  pub diagonal : ¬ (IsEdge 3 square [] square 0 3)
  pub no_loop : ¬ (IsEdge 3 square [] square 2 2)
  pub graph : IsGraph 4 (IsEdge 3 square [] square) square_graph
  pub one_way : ¬
      (IsGraph 4 (IsEdge 3 square [] square) ((1 ∷ 2 ∷ []) ∷ (0 ∷ 3 ∷ []) ∷ (0 ∷ 3 ∷ []) ∷ (1 ∷ []) ∷ []))
  pub with_diagonals
      : ¬ (IsGraph 4 (IsEdge 3 square [] square)
      ((1 ∷ 2 ∷ 3 ∷ []) ∷ (0 ∷ 3 ∷ []) ∷ (0 ∷ 3 ∷ []) ∷ (0 ∷ 1 ∷ 2 ∷ []) ∷ []))
  pub sides : edge_count square_graph ≡ 4
  pub walk : IsWalk (AreNeighbours square_graph) 0 3 2
  pub no_step : ¬ (IsWalk (AreNeighbours square_graph) 0 3 1)
  pub long_walk : IsWalk (AreNeighbours square_graph) 0 3 4
  pub distance : IsDistance (AreNeighbours square_graph) 0 3 2
  pub not_least : ¬ (IsDistance (AreNeighbours square_graph) 0 3 4)
  pub diameter : IsDiameter 4 (AreNeighbours square_graph) 2
  pub not_one : ¬ (IsDiameter 4 (AreNeighbours square_graph) 1)
  pub not_three : ¬ (IsDiameter 4 (AreNeighbours square_graph) 3)

-- one node
abbrev pub point_graph : List (List ℕ)
point_graph = [] ∷ []

-- two nodes that nothing joins
abbrev pub apart_graph : List (List ℕ)
apart_graph = [] ∷ [] ∷ []

-- graphs of no node, of one, and of two that nothing joins
pub record SmallGraphsAreRead : Type 0 where
  pub none : IsDiameter 0 (AreNeighbours []) 0
  pub point : IsDiameter 1 (AreNeighbours point_graph) 0
  pub point_not_one : ¬ (IsDiameter 1 (AreNeighbours point_graph) 1)
  pub apart : ¬ (IsConnected 2 (AreNeighbours apart_graph))
  pub apart_has_none : (k : ℕ) → ¬ (IsDiameter 2 (AreNeighbours apart_graph) k)
  pub apart_distance : IsGreatestDistance 2 (AreNeighbours apart_graph) 0

-- the whole set alone, the face of the cone {0}
abbrev pub empty_lattice : List (List (List ℕ))
empty_lattice = ([] ∷ []) ∷ []

-- a ray, or the cone over a point
abbrev pub ray_lattice : List (List (List ℕ))
ray_lattice = ([] ∷ []) ∷ ((0 ∷ []) ∷ []) ∷ []

-- the faces of a segment by its two vertices
abbrev pub segment_lattice : List (List (List ℕ))
segment_lattice = ([] ∷ []) ∷ ((0 ∷ []) ∷ (1 ∷ []) ∷ []) ∷ ((0 ∷ 1 ∷ []) ∷ []) ∷ []

-- the faces of the unit square by its four vertices
abbrev pub square_lattice : List (List (List ℕ))
square_lattice =
    ([] ∷ []) ∷
    ((0 ∷ []) ∷ (1 ∷ []) ∷ (2 ∷ []) ∷ (3 ∷ []) ∷ []) ∷
    ((0 ∷ 1 ∷ []) ∷ (0 ∷ 2 ∷ []) ∷ (1 ∷ 3 ∷ []) ∷ (2 ∷ 3 ∷ []) ∷ []) ∷
    ((0 ∷ 1 ∷ 2 ∷ 3 ∷ []) ∷ []) ∷ []

-- opposite vertices are 0 and 5, 1 and 4, 2 and 3
abbrev pub octahedron_lattice : List (List (List ℕ))
octahedron_lattice =
    ([] ∷ []) ∷
    ((0 ∷ []) ∷ (1 ∷ []) ∷ (2 ∷ []) ∷ (3 ∷ []) ∷ (4 ∷ []) ∷ (5 ∷ []) ∷ []) ∷
    ((0 ∷ 1 ∷ []) ∷ (0 ∷ 2 ∷ []) ∷ (0 ∷ 3 ∷ []) ∷ (0 ∷ 4 ∷ []) ∷ (1 ∷ 2 ∷ []) ∷ (1 ∷ 3 ∷ []) ∷ (1 ∷ 5 ∷ [])
    ∷ (2 ∷ 4 ∷ []) ∷ (2 ∷ 5 ∷ []) ∷ (3 ∷ 4 ∷ []) ∷ (3 ∷ 5 ∷ []) ∷ (4 ∷ 5 ∷ []) ∷ []) ∷
    ((0 ∷ 1 ∷ 2 ∷ []) ∷ (0 ∷ 1 ∷ 3 ∷ []) ∷ (0 ∷ 2 ∷ 4 ∷ []) ∷ (0 ∷ 3 ∷ 4 ∷ []) ∷ (1 ∷ 2 ∷ 5 ∷ [])
    ∷ (1 ∷ 3 ∷ 5 ∷ []) ∷ (2 ∷ 4 ∷ 5 ∷ []) ∷ (3 ∷ 4 ∷ 5 ∷ []) ∷ []) ∷
    ((0 ∷ 1 ∷ 2 ∷ 3 ∷ 4 ∷ 5 ∷ []) ∷ []) ∷ []

-- the f- and f2-vectors of these
pub record CountsAreRead : Type 0 where
  pub empty_f : f_of empty_lattice ≡ []
  pub ray_f : f_of ray_lattice ≡ []
  pub segment_f : f_of segment_lattice ≡ 2 ∷ []
  pub square_f : f_of square_lattice ≡ 4 ∷ 4 ∷ []
  pub octahedron_f : f_of octahedron_lattice ≡ 6 ∷ 12 ∷ 8 ∷ []
  pub without_ends : ¬ (f_of square_lattice ≡ 1 ∷ 4 ∷ 4 ∷ 1 ∷ [])
  pub empty_f2 : f2_of empty_lattice ≡ []
  pub ray_f2 : f2_of ray_lattice ≡ []
  pub square_f2 : f2_of square_lattice ≡ (4 ∷ 8 ∷ []) ∷ (8 ∷ 4 ∷ []) ∷ []
  pub octahedron_f2 : f2_of octahedron_lattice
      ≡ (6 ∷ 24 ∷ 24 ∷ []) ∷ (24 ∷ 12 ∷ 24 ∷ []) ∷ (24 ∷ 24 ∷ 8 ∷ []) ∷ []
  pub once : ¬ (f2_of segment_lattice ≡ (4 ∷ []) ∷ [])

-- the h-vectors of the octahedron, the square, a segment and a point, and one with a negative number
pub record HVectorsAreRead : Type 0 where
  pub octahedron : h_of (map pos (f_of octahedron_lattice)) 3 ≡ pos 1 ∷ pos 3 ∷ pos 3 ∷ pos 1 ∷ []
  pub square : h_of (pos 4 ∷ pos 4 ∷ []) 2 ≡ pos 1 ∷ pos 2 ∷ pos 1 ∷ []
  pub segment : h_of (pos 2 ∷ []) 1 ≡ pos 1 ∷ pos 1 ∷ []
  pub point : h_of [] 0 ≡ pos 1 ∷ []
  pub negative : h_of (pos 1 ∷ pos 0 ∷ []) 2 ≡ pos 1 ∷ negsuc 0 ∷ pos 0 ∷ []
  pub not_turned : ¬ (h_of (pos 5 ∷ pos 8 ∷ pos 5 ∷ []) 3 ≡ pos 1 ∷ pos 2 ∷ pos 2 ∷ pos 1 ∷ [])

-- the row (1)
abbrev pub one : List Row
one = (pos 1 ∷ []) ∷ []

-- all faces of the cone {0} and of a ray, and lists that lack the least face or the whole
pub record DiagramsAreRead : Type 0 where
  pub empty : (n : ℕ) → IsHasseDiagram n [] [] [] empty_lattice
  pub not_none : (n : ℕ) → ¬ (IsHasseDiagram n [] [] [] [])
  pub ray : IsHasseDiagram 1 one [] one ray_lattice
  pub without_whole : ¬ (IsHasseDiagram 1 one [] one empty_lattice)
  pub without_least : ¬ (IsHasseDiagram 1 one [] one (((0 ∷ []) ∷ []) ∷ []))
