-- What a list of rows of one length is seen as.
use Rattle.std.specs.Prelude.{◌≢◌, ℕ, ◌<◌, Bool, List, [], length, slice_index_or}
use Rattle.pm_bits.specs.Sets.{IsSubset}

-- the rows in their order, and the length of each
pub record Table : Type 0 where
  pub row_len : ℕ
  pub rows : List (List Bool)

-- the row at a place, of which the table has one
abbrev pub row_at : Table → ℕ → List Bool
row_at table k = slice_index_or table.rows k []

-- some row other than those at i and j contains s
abbrev pub OtherContains : Table → List Bool → ℕ → ℕ → Type 0
OtherContains table s i j = (k : ℕ) × (k < length table.rows) × (k ≢ i) × (k ≢ j)
    × IsSubset s (row_at table k)

-- each of the first rows, as many as `end`, that contains s contains t: an implication (Ganter and Wille, Formal Concept
-- Analysis, section 2.3)
abbrev pub Implies : Table → List Bool → List Bool → ℕ → Type 0
Implies table s t end = (k : ℕ) → k < end → IsSubset s (row_at table k) → IsSubset t (row_at table k)
