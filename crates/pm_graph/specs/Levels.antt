-- The nodes of a graph by their distance from one node.
use Rattle.pm_geom.specs.Graphs.{AreNeighbours, IsDistance, IsGreatestDistance}
use Rattle.pm_graph.specs.Slices.{rows_of}
use Rattle.std.specs.Global.{Vec}
use Rattle.std.specs.List.{All, Contains, slice_index_or}
use Rattle.std.specs.Prelude.{ℕ, ◌<◌, ◌≤◌, ◌↔◌, ◌⊎◌, ◌+◌, ◌∷◌, [], Bool, cond, false, IsTrue, List, length, ◌≡◌}
use lib.IntN.{ℤ, pos}

-- the node j is marked
abbrev pub IsSeen : List Bool → ℕ → Type 0
IsSeen seen j = IsTrue (slice_index_or seen j false)

-- how many nodes are not marked
abbrev pub unseen_count : List Bool → ℕ
unseen_count [] = 0
unseen_count (b ∷ seen) = cond b 0 1 + unseen_count seen

-- how many nodes are not marked, and how many are in the list
abbrev pub unseen_and_new : List Bool → List ℕ → ℕ
unseen_and_new seen next = unseen_count seen + length next

-- they are as many as before
abbrev pub KeepsCount : List Bool → List ℕ → List Bool → List ℕ → Type 0
KeepsCount seen next seen' next' = unseen_and_new seen' next' ≡ unseen_and_new seen next

-- marked are exactly those that were, and those of the row
abbrev pub MarksRow : List ℕ → List Bool → List Bool → Type 0
MarksRow row old new = (j : ℕ) → IsSeen new j ↔ (IsSeen old j ⊎ Contains row j)

-- in the new list are exactly those of the old, and those of the row that are not marked
abbrev pub AddsUnseen : List ℕ → List Bool → List ℕ → List ℕ → Type 0
AddsUnseen row seen old new = (j : ℕ) → Contains new j
    ↔ (Contains old j ⊎ (Contains row j × ¬ (IsSeen seen j)))

-- the list has exactly the nodes that are marked now and were not
abbrev pub AreNew : List Bool → List Bool → List ℕ → Type 0
AreNew old new next = (j : ℕ) → Contains next j ↔ (IsSeen new j × ¬ (IsSeen old j))

-- marked are exactly those that were, and the neighbours of the nodes of the front
abbrev pub MarksNeighbours : List (List ℕ) → List ℕ → List Bool → List Bool → Type 0
MarksNeighbours rows front old new = (j : ℕ)
    → IsSeen new j ↔ (IsSeen old j ⊎ ((u : ℕ) × Contains front u × AreNeighbours rows u j))

-- k is the greatest distance in the graph
abbrev pub HasGreatestDistance : List (List ℕ) → ℤ → Type 0
HasGreatestDistance rows k = (d : ℕ) × (k ≡ pos d) × IsGreatestDistance (length rows) (AreNeighbours rows) d

-- each index of each list is below n
abbrev pub AreBelow : ℕ → List (List ℕ) → Type 0
AreBelow n rows = All (λ row. All (λ j. j < n) row) rows

-- no node below n is farther from i than k, and one is k away: the eccentricity of i
pub record IsEccentricity (n : ℕ) (E : ℕ → ℕ → Type 0) (i k : ℕ) : Type 0 where
  pub bound : (j d : ℕ) → j < n → IsDistance E i j d → d ≤ k
  pub reached : (j : ℕ) × (j < n) × IsDistance E i j k

-- k is the eccentricity of i in the graph
abbrev pub IsEccentricityIn : List (Vec ℕ) → ℕ → ℕ → Type 0
IsEccentricityIn rows i k = IsEccentricity (length rows) (AreNeighbours (rows_of rows)) i k
