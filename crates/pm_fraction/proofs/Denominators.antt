-- Least common denominators, one denominator on.
use Rattle.pm_vector.specs.Numbers.{IsReduced, Ratio}
use Rattle.pm_fraction.specs.FractionRows.{IsLeastDenominator}
use Rattle.pm_vector.specs.Rows.{ratio_at}
use Rattle.pm_fraction.specs.Multiples.{IsLcm}
use Rattle.pm_fraction.specs.Wideness.{DenominatorsStay, IsFirstWideDenominator}
use Rattle.std.proofs.Common.{arith, below_more, inl, inr, length, pos, refl, ◌*◌, ◌+◌, ◌<◌, ◌^◌, ◌≡◌, ◌≤◌, ℕ}
use Rattle.std.proofs.Math.Nat.{dvd-mul_left, dvd-mul_right, mul-le-mul, one-dvd}
use Rattle.std.proofs.lemmas.Bool.{cases_lt}
use Rattle.std.proofs.lemmas.Int.{ints}
use Rattle.std.proofs.lemmas.Nat.Gcd.{dvd-zero, dvd_antisymm, dvd_refl}
use Rattle.std.specs.Int.{◌∣◌}
use Rattle.std.specs.Prelude.{List, unsigned_abs}

pub least_unique : (r : List Ratio) (k m n : ℕ) → IsLeastDenominator r k m → IsLeastDenominator r k n → m ≡ n
least_unique r k m n p q = dvd_antisymm ((p.multiples n).1 ((q.multiples n).0 (dvd_refl n))) ((q.multiples m).1 ((p.multiples m).0 (dvd_refl m)))

least_none : (r : List Ratio) → IsLeastDenominator r 0 1
least_none r = record { multiples = λ c. (λ h i below. absurd (omega arith), λ h. one-dvd c) }

module _ (r : List Ratio) (k m : ℕ) (so_far : IsLeastDenominator r k m) where
  least_more : (n : ℕ) → IsLcm m (unsigned_abs (ratio_at r k).den) n → IsLeastDenominator r (k + 1) n
  least_more n both = record {
    multiples = λ c. (
      λ h. let w = (both.multiples c).0 h in below_more (λ i. unsigned_abs (ratio_at r i).den ∣ c) k ((so_far.multiples c).0 w.0) w.1,
      λ f. (both.multiples c).1 ((so_far.multiples c).1 (λ i below. f i (omega arith)), f k (omega arith)),
    );
  }

  least_last : (n : ℕ) → IsLeastDenominator r (k + 1) n → IsLcm m (unsigned_abs (ratio_at r k).den) n
  least_last n next = record {
    multiples = λ c. (
      λ h. let f = (next.multiples c).0 h in ((so_far.multiples c).1 (λ i below. f i (omega arith)), f k (omega arith)),
      λ w. (next.multiples c).1 (below_more (λ i. unsigned_abs (ratio_at r i).den ∣ c) k ((so_far.multiples c).0 w.0) w.1),
    );
  }

lcm_positive : (a b m : ℕ) → 0 < a → 0 < b → IsLcm a b m → 0 < m
lcm_positive a b m p q h = elim (cases_lt 0 m) [
  | inl some ↦ some
  | inr none ↦
      let product : m ∣ a * b = (h.multiples (a * b)).1 (dvd-mul_right a b, dvd-mul_left b a) in
      let zero : m ≡ 0 = omega arith in
      let from_zero : 0 ∣ a * b = rw zero at product in
      let e : a * b ≡ 0 = dvd_antisymm (dvd-zero (a * b)) from_zero in
      absurd (positive_product a b p q e)
]
  where
    positive_product : (a b : ℕ) → 0 < a → 0 < b → a * b ≡ 0 → ⊥
    positive_product a b p q e = let l = mul-le-mul p q in omega arith

-- m is the least common denominator of the first k, which are in lowest terms, and all numbers on the way are in the range
pub record DenominatorSoFar (r : List Ratio) (k m : ℕ) : Type 0 where
  pub least : IsLeastDenominator r k m
  pub positive : 0 < m
  pub in_range : m < 2 ^ 127
  pub before : DenominatorsStay r k
  pub reduced : (i : ℕ) → i < k → IsReduced (ratio_at r i)

stay_at : (r : List Ratio) (k m : ℕ) → IsLeastDenominator r k m → m < 2 ^ 127 → (n : ℕ) → IsLeastDenominator r k n → n < 2 ^ 127
stay_at r k m least small n other = let e = least_unique r k m n least other in omega arith

pub DenominatorSoFar-none : (r : List Ratio) → DenominatorSoFar r 0 1
DenominatorSoFar-none r = record {
  least = least_none r;
  positive = omega arith;
  in_range = omega arith;
  before = record { stay = λ i m below least. let z : i ≡ 0 = omega arith in stay_at r 0 1 (least_none r) (omega arith) m (rw z at least) };
  reduced = λ i below. absurd (omega arith);
}

pub DenominatorSoFar-more : (r : List Ratio) (k m n : ℕ) → DenominatorSoFar r k m → IsLcm m (unsigned_abs (ratio_at r k).den) n → n < 2 ^ 127 → IsReduced (ratio_at r k) → DenominatorSoFar r (k + 1) n
DenominatorSoFar-more r k m n s both small reduced =
    let least = least_more r k m s.least n both in
    let positive = reduced.positive in
    record {
      least = least;
      positive = lcm_positive m (unsigned_abs (ratio_at r k).den) n s.positive (omega (arith, ints)) both;
      in_range = small;
      before = record {
        stay = λ i t below h. elim (cases_lt i (k + 1)) [
          | inl older ↦ s.before.stay i t (omega arith) h
          | inr last ↦ let e : i ≡ k + 1 = omega arith in stay_at r (k + 1) n least small t (rw e at h)
        ];
      };
      reduced = below_more (λ i. IsReduced (ratio_at r i)) k s.reduced reduced;
    }

pub first_wide_denominator : (r : List Ratio) (k m : ℕ) → k < length r → DenominatorSoFar r k m → ((n : ℕ) → IsLcm m (unsigned_abs (ratio_at r k).den) n → 2 ^ 127 ≤ n) → IsFirstWideDenominator r (pos m) (ratio_at r k).den
first_wide_denominator r k m within s f = record {
  k = k;
  m = m;
  within = within;
  a_is = refl;
  b_is = refl;
  so_far = s.least;
  before = s.before;
  wide = λ n least small. let big = f n (least_last r k m s.least n least) in absurd (omega arith);
}
