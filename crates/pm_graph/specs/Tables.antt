-- Sets of indices as rows of bits, and the other way round: for each index the sets that hold it.
use Rattle.pm_bits.specs.Sets.{has}
use Rattle.pm_bits.specs.Table.{Table, row_at}
use Rattle.pm_geom.specs.Graphs.{holds}
use Rattle.std.specs.List.{All, Contains, slice_index_or}
use Rattle.std.specs.Prelude.{ℕ, ◌<◌, ◌≡◌, ◌↔◌, ◌⊎◌, Bool, IsTrue, List, [], length}

-- each row has this length
abbrev pub HaveLength : ℕ → List (List Bool) → Type 0
HaveLength len rows = All (λ row. length row ≡ len) rows

-- the row at i is the set at i
pub record IsTableOf (sets : List (List ℕ)) (table : Table) : Type 0 where
  pub count : length table.rows ≡ length sets
  pub bits : (i j : ℕ) → has (row_at table i) j ≡ holds (slice_index_or sets i []) j

-- the row at j has the place of each set that holds the index j
pub record AreColumnsOf (len : ℕ) (sets : List (List ℕ)) (rows : List (List Bool)) : Type 0 where
  pub count : length rows ≡ len
  pub bits : (i j : ℕ) → j < len → has (slice_index_or rows j []) i ≡ holds (slice_index_or sets i []) j

-- each row is as long as it was
abbrev pub KeepLengths : List (List Bool) → List (List Bool) → Type 0
KeepLengths old new = (j : ℕ) → length (slice_index_or new j []) ≡ length (slice_index_or old j [])

-- the place is now in the rows of the indices of the set too
abbrev pub IsMarked : List ℕ → ℕ → List (List Bool) → List (List Bool) → Type 0
IsMarked set place old new = (i j : ℕ) → j < length old → IsTrue (has (slice_index_or new j []) i)
    ↔ (IsTrue (has (slice_index_or old j []) i) ⊎ ((i ≡ place) × Contains set j))
