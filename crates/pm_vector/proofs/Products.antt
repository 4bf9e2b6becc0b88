-- The sum of the first products, one product on.
use Rattle.pm_vector.specs.Numbers.{InRange}
use Rattle.pm_vector.specs.Rows.{Row, dot, entry}
use Rattle.pm_vector.specs.Products.{ProductsStay}
use Rattle.std.proofs.Common.{add-one, arith, below_more, length, suc, take, zero, ◌+◌, ◌<◌, ◌≡◌, ℕ}
use Rattle.std.proofs.lemmas.Int.{ints}
use Rattle.std.specs.Prelude.{[], ◌∷◌}
use lib.IntN.{ℤ, ◌*ℤ◌, ◌+ℤ◌}

pub dot-take_more : (a b : Row) (i : ℕ) → i < length a → i < length b → dot (take (suc i) a) (take (suc i) b) ≡ dot (take i a) (take i b) +ℤ entry a i *ℤ entry b i
dot-take_more [] b i h k = absurd (omega arith)
dot-take_more (x ∷ a) [] i h k = absurd (omega arith)
dot-take_more (x ∷ a) (y ∷ b) zero h k = omega (arith, ints)
dot-take_more (x ∷ a) (y ∷ b) (suc i) h k = let e = dot-take_more a b i (omega arith) (omega arith) in omega (arith, ints)

-- the sum is that of the first n products, and these and the sums on the way are in the range
pub record SumOfFirst (a b : Row) (n : ℕ) (sum : ℤ) : Type 0 where
  pub sum_is : sum ≡ dot (take n a) (take n b)
  pub products : (k : ℕ) → k < n → InRange (entry a k *ℤ entry b k)
  pub sums : (k : ℕ) → k < n + 1 → InRange (dot (take k a) (take k b))

module _ (a b : Row) (i : ℕ) (sum : ℤ) (in_a : i < length a) (in_b : i < length b) where
  pub SumOfFirst-more : (next : ℤ) → SumOfFirst a b i sum → next ≡ sum +ℤ entry a i *ℤ entry b i → InRange (entry a i *ℤ entry b i) → InRange next → SumOfFirst a b (i + 1) next
  SumOfFirst-more next s e product_fits next_fits =
      let more = dot-take_more a b i in_a in_b in
      let so_far = s.sum_is in
      let next_is : next ≡ dot (take (i + 1) a) (take (i + 1) b) = rw add-one (omega (arith, ints)) in
      record {
        sum_is = next_is;
        products = below_more _ i s.products product_fits;
        sums = below_more _ (i + 1) s.sums (rw next_is at next_fits);
      }

  pub sum_stays : SumOfFirst a b i sum → ProductsStay a b → InRange (sum +ℤ entry a i *ℤ entry b i)
  sum_stays s p = rw (s.sum_is, ← dot-take_more a b i in_a in_b) (p.sums (suc i))
