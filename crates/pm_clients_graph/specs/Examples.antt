-- Degrees and edges of small graphs.
use Rattle.pm_clients_graph.specs.Degrees.{degrees}
use Rattle.pm_geom.specs.Graphs.{edge_count}
use Rattle.std.specs.Prelude.{ℕ, List, [], ◌∷◌, ◌≡◌}
use lib.IntN.{pos}

-- a path of three nodes, whose second is joined to the others, and a fourth node that is joined to none
abbrev pub path_and_point : List (List ℕ)
path_and_point = (1 ∷ []) ∷ (0 ∷ 2 ∷ []) ∷ (1 ∷ []) ∷ [] ∷ []

pub record CountsAreRead : Type 0 where
  pub of_path : degrees path_and_point ≡ pos 1 ∷ pos 2 ∷ pos 1 ∷ pos 0 ∷ []
  pub of_none : degrees [] ≡ []
  -- each node has as many neighbours as stand in its list, and not one more for itself
  pub not_itself : ¬ (degrees path_and_point ≡ pos 2 ∷ pos 3 ∷ pos 2 ∷ pos 1 ∷ [])
  -- it has two edges, of which each has a place in two lists
  pub once : edge_count path_and_point ≡ 2
  pub not_twice : ¬ (edge_count path_and_point ≡ 4)
