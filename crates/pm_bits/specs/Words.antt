-- How the bits of a row stand in words of 64 bits: the bit of the number i is bit i % 64 of word i / 64.
use Rattle.std.specs.Prelude.{◌≡◌, ℕ, ◌+◌, ◌*◌, ◌/◌, ◌%◌, ◌^◌, ◌<◌, ◌≤◌, ◌==◌, Bool, false, IsTrue, List, length, map, slice_index, bit_and, count_by}
use Rattle.std.specs.Int.{bit_at}
use Rattle.std.specs.List.{filter, range_with_len}

-- the bit of the number i
abbrev pub has_bit : List ℕ → ℕ → Bool
has_bit words i = bit_at (slice_index words (i / 64)) (i % 64) == 1

-- the bits of the numbers below n
abbrev pub bits_below : List ℕ → ℕ → List Bool
bits_below words n = map (has_bit words) (range_with_len 0 n)

-- the words just hold n bits, a number that a usize can be: there are as many words as that takes, and the
-- bits of the last one past n are 0
pub record Holds (words : List ℕ) (n : ℕ) : Type 0 where
  pub in_range : n < 2 ^ 64
  pub room : n ≤ length words * 64
  pub tight : length words * 64 < n + 64
  pub clear : (i : ℕ) → n ≤ i → has_bit words i ≡ false

-- how many bits are set
abbrev pub bit_count : List ℕ → ℕ
bit_count words = count_by (has_bit words) (range_with_len 0 (length words * 64))

-- the numbers whose bits are set, ascending
abbrev pub set_bits : List ℕ → List ℕ
set_bits words = filter (has_bit words) (range_with_len 0 (length words * 64))

-- R relates the words of two rows at each place from one on and below another
abbrev pub EachWord : (ℕ → ℕ → Type 0) → ℕ → ℕ → List ℕ → List ℕ → Type 0
EachWord R from end a b = (k : ℕ) → from ≤ k → k < end → R (slice_index a k) (slice_index b k)

-- each bit of y is one of x
abbrev pub IsWithin : ℕ → ℕ → Type 0
IsWithin x y = bit_and x y ≡ y

-- the lowest bit that only one of the words has is one of x
abbrev pub HasLowestBit : ℕ → ℕ → Type 0
HasLowestBit x y = (i : ℕ) × (i < 64) × (bit_at x i ≡ 1) × (bit_at y i ≡ 0)
    × ((k : ℕ) → k < i → bit_at x k ≡ bit_at y k)

-- the words have the same bits up to the number i, which has its bit in the first row alone
abbrev pub HasFirstBit : List ℕ → List ℕ → Type 0
HasFirstBit a b = (i : ℕ) × IsTrue (has_bit a i) × (has_bit b i ≡ false)
    × ((k : ℕ) → k < i → has_bit a k ≡ has_bit b k)

-- the words of `out` are made by op of those of a and b, from one place on and below another
abbrev pub AreMade : (ℕ → ℕ → ℕ) → ℕ → ℕ → List ℕ → List ℕ → List ℕ → Type 0
AreMade op from end a b out = (k : ℕ) → from ≤ k → k < end
    → slice_index out k ≡ op (slice_index a k) (slice_index b k)

-- the words stay as they were, from one place on and below another
abbrev pub StayAsTheyWere : ℕ → ℕ → List ℕ → List ℕ → Type 0
StayAsTheyWere from end old new = EachWord (λ x y. y ≡ x) from end old new

-- bit b of w is 1 exactly where bit b of one of the first n words is
pub record AreFolded (words : List ℕ) (n w : ℕ) : Type 0 where
  pub every : (k b : ℕ) → k < n → bit_at (slice_index words k) b ≡ 1 → bit_at w b ≡ 1
  pub only : (b : ℕ) → b < 64 → bit_at w b ≡ 1 → (k : ℕ) × (k < n) × (bit_at (slice_index words k) b ≡ 1)
