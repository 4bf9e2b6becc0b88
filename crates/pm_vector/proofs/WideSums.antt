-- The sum of the first products.
use Rattle.pm_vector.specs.Rows.{Row, dot, entry}
use Rattle.pm_vector.proofs.Held.{abs_product}
use Rattle.std.proofs.Common.{FitsSigned, add-one, arith, length, suc, take, zero, ◌*◌, ◌+◌, ◌<◌, ◌≡◌, ◌≤◌, ◌^◌, ℕ}
use Rattle.std.proofs.lemmas.Int.{ints}
use Rattle.std.proofs.lemmas.List.{take_all}
use Rattle.std.specs.Int.{w128}
use Rattle.std.specs.Prelude.{[], unsigned_abs, ◌∷◌}
use lib.IntN.{pos, ℤ, ◌*ℤ◌, ◌+ℤ◌}

dot-take_more : (a b : Row) (i : ℕ) → i < length a → i < length b → dot (take (suc i) a) (take (suc i) b) ≡ dot (take i a) (take i b) +ℤ entry a i *ℤ entry b i
dot-take_more [] b i h k = absurd (omega arith)
dot-take_more (x ∷ a) [] i h k = absurd (omega arith)
dot-take_more (x ∷ a) (y ∷ b) zero h k = omega (arith, ints)
dot-take_more (x ∷ a) (y ∷ b) (suc i) h k = let e = dot-take_more a b i (omega arith) (omega arith) in omega (arith, ints)

-- the sum is that of the first n products, and is as small as these make it
pub record SumOfFirst (a b : Row) (n : ℕ) (sum : ℤ) : Type 0 where
  pub sum_is : sum ≡ dot (take n a) (take n b)
  pub small : unsigned_abs sum ≤ n * 2 ^ 254

pub SumOfFirst-none : (a b : Row) (sum : ℤ) → sum ≡ pos 0 → SumOfFirst a b 0 sum
SumOfFirst-none a b sum e = record { sum_is = e; small = rw e (omega arith) }

pub SumOfFirst-more : (a b : Row) (i : ℕ) (sum next : ℤ) → i < length a → i < length b → SumOfFirst a b i sum → next ≡ sum +ℤ entry a i *ℤ entry b i → unsigned_abs next ≤ (i + 1) * 2 ^ 254 → SumOfFirst a b (i + 1) next
SumOfFirst-more a b i sum next in_a in_b s e small =
    let more = dot-take_more a b i in_a in_b in
    let so_far = s.sum_is in
    record { sum_is = rw add-one (omega (arith, ints)); small = small }

pub sum_all : (a b : Row) (n : ℕ) (sum : ℤ) → length a ≤ n → length b ≤ n → SumOfFirst a b n sum → sum ≡ dot a b
sum_all a b n sum all_a all_b s = rw (take_all n a all_a, take_all n b all_b) at s.sum_is

pub small_more : (sum x y next : ℤ) (i : ℕ) → FitsSigned w128 x → FitsSigned w128 y → unsigned_abs sum ≤ i * 2 ^ 254 → next ≡ sum +ℤ x *ℤ y → unsigned_abs next ≤ (i + 1) * 2 ^ 254
small_more sum x y next i hx hy small e = let p = abs_product x y hx hy in omega (arith, ints)

pub within_more : (sum x y : ℤ) (i : ℕ) → FitsSigned w128 x → FitsSigned w128 y → i < 2 ^ 64 → unsigned_abs sum ≤ i * 2 ^ 254 → unsigned_abs (sum +ℤ x *ℤ y) < 2 ^ 512
within_more sum x y i hx hy few small = let p = abs_product x y hx hy in omega (arith, ints)

-- fewer than 2^64 products have a sum of at most 320 bits
pub sum_small : (n : ℕ) (sum : ℤ) → n < 2 ^ 64 → unsigned_abs sum ≤ n * 2 ^ 254 → unsigned_abs sum < 2 ^ 320
sum_small n sum few small = omega arith
