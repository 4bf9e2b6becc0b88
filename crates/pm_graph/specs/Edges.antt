-- What joins two nodes: rows of a table, indices of sets, sets, and places of a lattice of faces.
use Rattle.pm_bits.specs.Sets.{has}
use Rattle.pm_bits.specs.Table.{Table, row_at}
use Rattle.pm_geom.specs.FaceCounts.{at_rank}
use Rattle.pm_geom.specs.Graphs.{IsGraph}
use Rattle.pm_types.specs.Values.{IndexSets}
use Rattle.std.specs.List.{AllPairs, Any, Contains, slice_index_or}
use Rattle.std.specs.Prelude.{ℕ, ◌-◌, ◌<◌, ◌≡◌, ◌↔◌, ◌⊎◌, Bool, IsTrue, List, [], ◌∷◌, length}

-- no third row has all that the rows at i and k share
abbrev pub NoThirdRow : Table → ℕ → ℕ → Type 0
NoThirdRow t i k = (l : ℕ) → l < length t.rows → ¬ (l ≡ i) → ¬ (l ≡ k) →
    ¬ ((x : ℕ) → IsTrue (has (row_at t i) x) → IsTrue (has (row_at t k) x) → IsTrue (has (row_at t l) x))

-- the rows at different places i and k share what no third row has
pub record IsRowEdge (t : Table) (i k : ℕ) : Type 0 where
  pub first : i < length t.rows
  pub second : k < length t.rows
  pub apart : ¬ (i ≡ k)
  pub alone : NoThirdRow t i k

-- the list rises, and has the places below n, other than i, whose rows share with the row at i what no third row has
pub record AreRowNeighbours (t : Table) (i n : ℕ) (list : List ℕ) : Type 0 where
  pub members : (k : ℕ) → Contains list k ↔ ((k < n) × ¬ (k ≡ i) × NoThirdRow t i k)
  pub ascending : AllPairs (λ j k. j < k) list

-- and they are all of them
abbrev pub AreAllNeighbours : Table → ℕ → List ℕ → Type 0
AreAllNeighbours t i list = AreRowNeighbours t i (length t.rows) list

-- the graph of the rows
abbrev pub IsTableGraph : Table → List (List ℕ) → Type 0
IsTableGraph t rows = IsGraph (length t.rows) (IsRowEdge t) rows

-- no third index is in each set that has both i and j
abbrev pub NoThirdIndex : IndexSets → ℕ → ℕ → Type 0
NoThirdIndex s i j = (l : ℕ) → l < s.cols → ¬ (l ≡ i) → ¬ (l ≡ j) →
    ¬ ((set : List ℕ) → Contains s.rows set → Contains set i → Contains set j → Contains set l)

-- the different indices i and j alone are an intersection of sets
pub record IsIndexEdge (s : IndexSets) (i j : ℕ) : Type 0 where
  pub first : i < s.cols
  pub second : j < s.cols
  pub apart : ¬ (i ≡ j)
  pub alone : NoThirdIndex s i j

-- no third set has all that the sets at i and k share
abbrev pub NoThirdSet : List (List ℕ) → ℕ → ℕ → Type 0
NoThirdSet rows i k = (l : ℕ) → l < length rows → ¬ (l ≡ i) → ¬ (l ≡ k) →
    ¬ ((j : ℕ) → Contains (slice_index_or rows i []) j → Contains (slice_index_or rows k []) j
    → Contains (slice_index_or rows l []) j)

-- the sets at different places i and k share what no third set has
pub record IsSetEdge (rows : List (List ℕ)) (i k : ℕ) : Type 0 where
  pub first : i < length rows
  pub second : k < length rows
  pub apart : ¬ (i ≡ k)
  pub alone : NoThirdSet rows i k

-- the first face of the last rank, the whole set
abbrev pub whole_of : List (List (List ℕ)) → List ℕ
whole_of ranks = slice_index_or (at_rank ranks (length ranks - 1)) 0 []

-- one of the ranks has the face
abbrev pub HasFace : List (List (List ℕ)) → List ℕ → Type 0
HasFace ranks face = Any (λ faces. Contains faces face) ranks

-- the different places i and j of the whole set are a face of two elements
pub record IsFaceEdge (ranks : List (List (List ℕ))) (i j : ℕ) : Type 0 where
  pub first : i < length (whole_of ranks)
  pub second : j < length (whole_of ranks)
  pub apart : ¬ (i ≡ j)
  pub face : HasFace ranks (i ∷ j ∷ []) ⊎ HasFace ranks (j ∷ i ∷ [])

-- the graph of the places of the whole set
abbrev pub IsFaceGraph : List (List (List ℕ)) → List (List ℕ) → Type 0
IsFaceGraph ranks rows = IsGraph (length (whole_of ranks)) (IsFaceEdge ranks) rows

-- the face has the different indices i and j below n alone
abbrev pub IsPairOf : ℕ → List ℕ → ℕ → ℕ → Type 0
IsPairOf n face i j = (i < n) × (j < n) × ¬ (i ≡ j) × ((face ≡ i ∷ j ∷ []) ⊎ (face ≡ j ∷ i ∷ []))

-- one of the faces has them alone
abbrev pub IsPairAmong : ℕ → List (List ℕ) → ℕ → ℕ → Type 0
IsPairAmong n faces i j = (face : List ℕ) × Contains faces face × IsPairOf n face i j

-- a face of one of the ranks has them alone
abbrev pub IsPairInRanks : ℕ → List (List (List ℕ)) → ℕ → ℕ → Type 0
IsPairInRanks n ranks i j = (faces : List (List ℕ)) × Contains ranks faces × IsPairAmong n faces i j

-- the rows have what they had, and now the bit j in row i wherever E joins i and j
abbrev pub Joins : (ℕ → ℕ → Type 0) → List (List Bool) → List (List Bool) → Type 0
Joins E old new = (i j : ℕ) → i < length old → IsTrue (has (slice_index_or new i []) j)
    ↔ (IsTrue (has (slice_index_or old i []) j) ⊎ E i j)
