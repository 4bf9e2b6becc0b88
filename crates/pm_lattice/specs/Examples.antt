-- Definitions of meets read on small sets: what is a meet, of which rank, and which lists are all of them.
use Rattle.pm_geom.specs.Graphs.{holds, sets_of}
use Rattle.pm_geom.specs.Meets.{AreTooManyMeets, HasMeetRank, IsMeet, IsSmallLattice}
use Rattle.pm_lattice.specs.Lattices.{IsFaceLattice}
use Rattle.std.specs.Prelude.{ℕ, List, [], ◌∷◌}

-- the four edges of the unit square, as sets of its corners 0 to 3
abbrev pub edges : List (List ℕ)
edges = (0 ∷ 1 ∷ []) ∷ (0 ∷ 2 ∷ []) ∷ (1 ∷ 3 ∷ []) ∷ (2 ∷ 3 ∷ []) ∷ []

-- the meets of the edges: none of the corners, each corner, each edge, and all corners
abbrev pub square_faces : List (List (List ℕ))
square_faces = ([] ∷ []) ∷ ((0 ∷ []) ∷ (1 ∷ []) ∷ (2 ∷ []) ∷ (3 ∷ []) ∷ []) ∷ edges
    ∷ ((0 ∷ 1 ∷ 2 ∷ 3 ∷ []) ∷ []) ∷ []

-- the ranks of a corner, an edge and the square; the ends of a diagonal are no meet, an edge is no corner, and four
-- edges are not too many
pub record SquareIsRead : Type 0 where
  pub none : HasMeetRank 4 (sets_of edges) (holds []) 0
  pub corner : HasMeetRank 4 (sets_of edges) (holds (0 ∷ [])) 1
  pub edge : HasMeetRank 4 (sets_of edges) (holds (0 ∷ 1 ∷ [])) 2
  pub square : HasMeetRank 4 (sets_of edges) (holds (0 ∷ 1 ∷ 2 ∷ 3 ∷ [])) 3
  pub diagonal : ¬ (IsMeet 4 (sets_of edges) (holds (0 ∷ 3 ∷ [])))
  pub not_flat : ¬ (HasMeetRank 4 (sets_of edges) (holds (0 ∷ 1 ∷ [])) 1)
  pub without_diagonal : (more : List (List (List ℕ)))
      → ¬ (IsFaceLattice (record { rows = edges; cols = 4 }) (((0 ∷ 3 ∷ []) ∷ []) ∷ more))
  pub small : IsSmallLattice square_faces
  pub few : ¬ (AreTooManyMeets 4 (sets_of edges) edges)

-- {0} and {1} below {0,1}, and {2} alone: below the set of all three places there are chains of three and of two
abbrev pub uneven : List (List ℕ)
uneven = (0 ∷ 1 ∷ []) ∷ (0 ∷ []) ∷ (1 ∷ []) ∷ (2 ∷ []) ∷ []

-- the longest chain counts, and not the size or the shortest one
pub record UnevenIsRead : Type 0 where
  pub long : HasMeetRank 3 (sets_of uneven) (holds (0 ∷ 1 ∷ [])) 2
  pub short : HasMeetRank 3 (sets_of uneven) (holds (2 ∷ [])) 1
  pub all : HasMeetRank 3 (sets_of uneven) (holds (0 ∷ 1 ∷ 2 ∷ [])) 3
  pub not_shortest : ¬ (HasMeetRank 3 (sets_of uneven) (holds (0 ∷ 1 ∷ 2 ∷ [])) 2)

-- the empty face is below the point; neither of the two may be missing, and each stands at its own rank
pub record PointIsRead : Type 0 where
  pub lattice : IsFaceLattice (record { rows = [] ∷ []; cols = 1 }) (([] ∷ []) ∷ ((0 ∷ []) ∷ []) ∷ [])
  pub without_least : ¬ (IsFaceLattice (record { rows = [] ∷ []; cols = 1 }) (((0 ∷ []) ∷ []) ∷ []))
  pub without_whole : ¬ (IsFaceLattice (record { rows = [] ∷ []; cols = 1 }) (([] ∷ []) ∷ []))
  pub turned : ¬ (IsFaceLattice (record { rows = [] ∷ []; cols = 1 }) (((0 ∷ []) ∷ []) ∷ ([] ∷ []) ∷ []))

-- where there are no sets, the set of all places is the one meet, of rank 0: also where there are no places, as for
-- the cone {0}
pub record NoSetsAreRead : Type 0 where
  pub no_places : IsFaceLattice (record { rows = []; cols = 0 }) (([] ∷ []) ∷ [])
  pub some_face : ¬ (IsFaceLattice (record { rows = []; cols = 0 }) [])
  pub two_places : IsFaceLattice (record { rows = []; cols = 2 }) (((0 ∷ 1 ∷ []) ∷ []) ∷ [])
  pub no_least : ¬ (IsFaceLattice (record { rows = []; cols = 2 }) (([] ∷ []) ∷ ((0 ∷ 1 ∷ []) ∷ []) ∷ []))
