-- Walks in the graph of a relation are those along its lists of neighbours.
use Rattle.pm_vector.proofs.Lists.{Among, among_All, among_Contains, here, there}
use Rattle.pm_geom.specs.Graphs.{AreNeighbours, IsAscending, IsConnected, IsDiameter, IsDistance, IsGraph, IsGreatestDistance, IsWalk}
use Rattle.std.proofs.Common.{arith, inl, inr}
use Rattle.std.specs.List.{slice_index_or}
use Rattle.std.specs.Prelude.{List, [], length, suc, zero, ℕ, ◌<◌, ◌∷◌}

row_among : (rows : List (List ℕ)) (i : ℕ) → i < length rows → Among (slice_index_or rows i []) rows
row_among [] i l = absurd (omega arith)
row_among (r ∷ rows) zero l = here
row_among (r ∷ rows) (suc i) l = there (row_among rows i (omega arith))

module _ (n : ℕ) (E : ℕ → ℕ → Type 0) (rows : List (List ℕ)) (g : IsGraph n E rows) where
  pub neighbour_below : (i h : ℕ) → i < n → AreNeighbours rows i h → h < n
  neighbour_below i h l c =
      let e = g.nodes in
      let a = among_All (IsAscending n) (row_among rows i (omega arith)) g.ascending in
      among_All (λ j. j < n) (among_Contains (slice_index_or rows i []) c) a.0

  pub walk_to : (k i j : ℕ) → i < n → IsWalk (AreNeighbours rows) i j k → IsWalk E i j k
  walk_to zero i j l w = w
  walk_to (suc k) i j l w = (w.0, (g.edges i w.0 l).0 w.1, walk_to k w.0 j (neighbour_below i w.0 l w.1) w.2)

  pub walk_from : (k i j : ℕ) → i < n → IsWalk E i j k → IsWalk (AreNeighbours rows) i j k
  walk_from zero i j l w = w
  walk_from (suc k) i j l w = let c = (g.edges i w.0 l).1 w.1 in (w.0, c, walk_from k w.0 j (neighbour_below i w.0 l c) w.2)

  distance_to : (i j k : ℕ) → i < n → IsDistance (AreNeighbours rows) i j k → IsDistance E i j k
  distance_to i j k l d = record { walk = walk_to k i j l d.walk; least = λ m lm w. d.least m lm (walk_from m i j l w) }

  distance_from : (i j k : ℕ) → i < n → IsDistance E i j k → IsDistance (AreNeighbours rows) i j k
  distance_from i j k l d = record { walk = walk_from k i j l d.walk; least = λ m lm w. d.least m lm (walk_to m i j l w) }

  -- what the lists say of the greatest distance, the relation says
  pub greatest_distance_to : (k : ℕ) → IsGreatestDistance n (AreNeighbours rows) k → IsGreatestDistance n E k
  greatest_distance_to k s = record {
    bound = λ i j d li lj e. s.bound i j d li lj (distance_from i j d li e);
    reached = elim s.reached [ inl e ↦ inl e | inr w ↦ inr (w.0, w.1, w.2, w.3, distance_to w.0 w.1 k w.2 w.4) ];
  }

  pub connected_from : IsConnected n E → IsConnected n (AreNeighbours rows)
  connected_from c i j li lj = let w = c i j li lj in (w.0, walk_from w.0 i j li w.1)

  pub diameter_to : (k : ℕ) → IsDiameter n (AreNeighbours rows) k → IsDiameter n E k
  diameter_to k d = record { connected = λ i j li lj. (let w = d.connected i j li lj in (w.0, walk_to w.0 i j li w.1)); greatest = greatest_distance_to k d.greatest }
