-- Tables turned, and faces from the sets of rows that contain them.
use Rattle.pm_bits.specs.Sets.{IsSubset, has, row_cmp}
use Rattle.pm_bits.specs.Table.{Table, row_at}
use Rattle.std.specs.List.{slice_index_or}
use Rattle.std.specs.List.Sorted.{IsPermutation, IsSorted}
use Rattle.std.specs.Prelude.{ℕ, ◌≡◌, ◌<◌, ◌↔◌, Bool, IsTrue, List, [], length}

-- the row at a of the turned table has the places of the rows that have a
pub record IsTurned (t turned : Table) : Type 0 where
  pub row_len : turned.row_len ≡ length t.rows
  pub rows : length turned.rows ≡ t.row_len
  pub has : (i a : ℕ) → a < t.row_len → has (row_at turned a) i ≡ has (row_at t i) a

-- the face has the places that each row of the set has: those at which the turned table's row contains the set
pub record IsShared (turned : Table) (set face : List Bool) : Type 0 where
  pub len : length face ≡ length turned.rows
  pub places : (a : ℕ) → a < length turned.rows → IsTrue (has face a) ↔ IsSubset set (row_at turned a)

-- the faces of the sets, in order
pub record AreShared (turned : Table) (sets faces : List (List Bool)) : Type 0 where
  pub list : List (List Bool)
  pub as_many : length list ≡ length sets
  pub each : (k : ℕ) → k < length sets
      → IsShared turned (slice_index_or sets k []) (slice_index_or list k [])
  pub moved : IsPermutation list faces
  pub sorted : IsSorted row_cmp faces
