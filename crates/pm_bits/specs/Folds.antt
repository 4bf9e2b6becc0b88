-- Rows folded into single words.
use Rattle.std.specs.Prelude.{◌≡◌, ℕ, ◌%◌, ◌<◌, Bool, IsTrue, List, [], length, slice_index, slice_index_or}
use Rattle.std.specs.Int.{bit_at}
use Rattle.pm_bits.specs.Sets.{has}

-- the bits of w are the remainders by 64 of the members
pub record IsFold (row : List Bool) (w : ℕ) : Type 0 where
  pub every : (i : ℕ) → IsTrue (has row i) → bit_at w (i % 64) ≡ 1
  pub only : (b : ℕ) → b < 64 → bit_at w b ≡ 1 → (i : ℕ) × IsTrue (has row i) × (i % 64 ≡ b)

-- there is one word for each row, its fold
pub record AreFolds (rows : List (List Bool)) (folds : List ℕ) : Type 0 where
  pub as_many : length folds ≡ length rows
  pub each : (k : ℕ) → k < length rows → IsFold (slice_index_or rows k []) (slice_index folds k)
