-- Sets of indices as lists, graphs as lists of neighbours, and the graphs of the rays and of the facets of a cone.
use Rattle.pm_vector.specs.Rows.{Row, dot}
use Rattle.pm_geom.specs.Faces.{HasRank, IsFace, ray}
use Rattle.std.specs.List.{All, AllPairs, Contains, count_by, list_any, slice_index_or}
use Rattle.std.specs.Prelude.{ℕ, zero, suc, ◌+◌, ◌<◌, ◌≤◌, ◌==◌, ◌≡◌, ◌↔◌, ◌||◌, ◌⊎◌, Bool, IsTrue, true, List, [], ◌∷◌, length, map, nat_lt}
use lib.IntN.{pos}

-- whether the list has the index j
abbrev pub holds : List ℕ → ℕ → Bool
holds set j = list_any (λ i. i == j) set

-- the set of the indices i and j alone
abbrev pub pair_of : ℕ → ℕ → ℕ → Bool
pair_of i j x = x == i || x == j

-- lists of indices as sets
abbrev pub sets_of : List (List ℕ) → List (ℕ → Bool)
sets_of rows = map holds rows

-- indices below n that rise, so none comes twice
abbrev pub IsAscending : ℕ → List ℕ → Type 0
IsAscending n set = All (λ j. j < n) set × AllPairs (λ i j. i < j) set

-- the list of node i has node j
abbrev pub AreNeighbours : List (List ℕ) → ℕ → ℕ → Type 0
AreNeighbours rows i j = Contains (slice_index_or rows i []) j

-- the graph on n nodes that E joins, as a list for each node: its neighbours, rising (Diestel, Graph Theory, section
-- 1.1)
pub record IsGraph (n : ℕ) (E : ℕ → ℕ → Type 0) (rows : List (List ℕ)) : Type 0 where
  pub nodes : length rows ≡ n
  pub ascending : All (IsAscending n) rows
  pub edges : (i j : ℕ) → i < n → AreNeighbours rows i j ↔ E i j

-- how many pairs of neighbours there are where the list's first node is i, each pair counted at its lesser node
abbrev pub edge_count_from : ℕ → List (List ℕ) → ℕ
edge_count_from i [] = 0
edge_count_from i (row ∷ rows) = count_by (nat_lt i) row + edge_count_from (suc i) rows

-- how many edges a graph has
abbrev pub edge_count : List (List ℕ) → ℕ
edge_count rows = edge_count_from 0 rows

-- k steps along E lead from i to j (Diestel, section 1.3)
abbrev pub IsWalk : (ℕ → ℕ → Type 0) → ℕ → ℕ → ℕ → Type 0
IsWalk E i j zero = i ≡ j
IsWalk E i j (suc k) = (h : ℕ) × E i h × IsWalk E h j k

-- k steps lead from i to j, and no fewer
pub record IsDistance (E : ℕ → ℕ → Type 0) (i j k : ℕ) : Type 0 where
  pub walk : IsWalk E i j k
  pub least : (m : ℕ) → m < k → ¬ (IsWalk E i j m)

-- no two of the nodes below n that some walk joins are farther apart than k, and two of them are k apart; 0 where
-- there are no two nodes
pub record IsGreatestDistance (n : ℕ) (E : ℕ → ℕ → Type 0) (k : ℕ) : Type 0 where
  pub bound : (i j d : ℕ) → i < n → j < n → IsDistance E i j d → d ≤ k
  pub reached : (k ≡ 0) ⊎ ((i : ℕ) × (j : ℕ) × (i < n) × (j < n) × IsDistance E i j k)

-- some walk joins any two nodes below n
abbrev pub IsConnected : ℕ → (ℕ → ℕ → Type 0) → Type 0
IsConnected n E = (i j : ℕ) → i < n → j < n → (k : ℕ) × IsWalk E i j k

-- k is the least number such that any two nodes below n are joined by at most k steps (Diestel, section 1.3)
pub record IsDiameter (n : ℕ) (E : ℕ → ℕ → Type 0) (k : ℕ) : Type 0 where
  pub connected : IsConnected n E
  pub greatest : IsGreatestDistance n E k

-- i and j are different places of V, and the two together are a face (Ziegler, section 3.2)
pub record IsEdge (n : ℕ) (G L V : List Row) (i j : ℕ) : Type 0 where
  pub first : i < length V
  pub second : j < length V
  pub apart : ¬ (i ≡ j)
  pub face : IsFace n G L V (pair_of i j)

-- f holds of exactly the places of V at which the rows of F at i and k both vanish
abbrev pub AreShared : List Row → List Row → ℕ → ℕ → (ℕ → Bool) → Type 0
AreShared V F i k f = (j : ℕ) → j < length V
    → IsTrue (f j) ↔ ((dot (ray F i) (ray V j) ≡ pos 0) × (dot (ray F k) (ray V j) ≡ pos 0))

-- the facets at different places i and k meet in a face of rank 2 less than the whole, a ridge (Ziegler, section 3.2
-- for the polar)
pub record IsRidge (n : ℕ) (G L V F : List Row) (i k : ℕ) : Type 0 where
  pub first : i < length F
  pub second : k < length F
  pub apart : ¬ (i ≡ k)
  pub shared : ℕ → Bool
  pub places : AreShared V F i k shared
  pub rank : ℕ
  pub face : HasRank n G L V shared rank
  pub whole : HasRank n G L V (λ j. true) (rank + 2)
