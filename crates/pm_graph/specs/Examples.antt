-- The definitions of edges read on small sets: what they join, and what they do not.
use Rattle.pm_bits.specs.Table.{Table}
use Rattle.pm_graph.specs.Edges.{IsFaceEdge, IsIndexEdge, IsRowEdge, IsSetEdge, whole_of}
use Rattle.pm_types.specs.Values.{IndexSets}
use Rattle.std.specs.Prelude.{List, [], false, true, ℕ, ◌∷◌, ◌≡◌}

-- three indices, and two sets that share one of them
abbrev pub path : IndexSets
path = record { rows = (0 ∷ 1 ∷ []) ∷ (1 ∷ 2 ∷ []) ∷ []; cols = 3 }

-- the vertices on each facet of a square
abbrev pub square : List (List ℕ)
square = (0 ∷ 1 ∷ []) ∷ (0 ∷ 2 ∷ []) ∷ (1 ∷ 3 ∷ []) ∷ (2 ∷ 3 ∷ []) ∷ []

-- the faces of the path by rank
abbrev pub path_faces : List (List (List ℕ))
path_faces = ([] ∷ []) ∷ ((0 ∷ []) ∷ (1 ∷ []) ∷ (2 ∷ []) ∷ []) ∷ path.rows ∷ ((0 ∷ 1 ∷ 2 ∷ []) ∷ []) ∷ []

-- three rows of bits, of which the second shares a bit with each of the others
abbrev pub bits : Table
bits = record { row_len = 2; rows = (true ∷ false ∷ []) ∷ (true ∷ true ∷ []) ∷ (false ∷ true ∷ []) ∷ [] }

pub record EdgesAreRead : Type 0 where
  -- two indices of a set are joined where no third one is in it; where no set has both, any third index is in each
  -- that has
  pub ends : IsIndexEdge path 0 1
  pub not_ends : ¬ (IsIndexEdge path 0 2)
  pub not_itself : ¬ (IsIndexEdge path 1 1)
  pub not_beyond : ¬ (IsIndexEdge path 0 3)
  -- two facets of a square are joined where they share a vertex
  pub sides : IsSetEdge square 0 1
  pub not_opposite : ¬ (IsSetEdge square 0 3)
  pub no_side_itself : ¬ (IsSetEdge square 1 1)
  -- two places are joined where they are a face, in either order
  pub whole : whole_of path_faces ≡ 0 ∷ 1 ∷ 2 ∷ []
  pub face : IsFaceEdge path_faces 0 1
  pub turned : IsFaceEdge path_faces 2 1
  pub no_face : ¬ (IsFaceEdge path_faces 0 2)
  -- two rows of bits are joined where no third one has what they share
  pub rows : IsRowEdge bits 0 1
  pub not_rows : ¬ (IsRowEdge bits 0 2)
