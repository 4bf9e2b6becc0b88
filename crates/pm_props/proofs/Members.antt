-- What is in a set that is made of others, and that sets with the same members are equal.
use Rattle.std.proofs.Common.{◌≡◌, ℕ, zero, suc, ◌+◌, ◌*◌, ◌/◌, ◌%◌, ◌^◌, ◌<◌, ◌≤◌, min, max, Bool, true, false, true≢false, not, ◌&&◌, ◌||◌, eqb, List, [], ◌∷◌, length, map, Some, refl, subst, sym, ap, ◌∙◌, inl, inr, arith}
use Rattle.std.specs.Prelude.{bit_and}
use Rattle.std.specs.Int.{bit_at, trailing_zeros, w128}
use Rattle.std.specs.List.{range_with_len}
use Rattle.std.proofs.lemmas.Nat.{or_lt, xor_lt, and_le_l, pow_below, one_shl}
use Rattle.std.proofs.lemmas.Nat.Bits.{shr_and_one, bit_at_and, bit_at_or, bit_at_xor, bit_at-lt, bit_at-zero, bit_at-pow_same, bit_at-pow_other, bit_at-trailing_zeros, bit_at_above, same_from_bits_below}
use Rattle.std.proofs.lemmas.Bool.{cases_eq, cases_lt, eq-eqb, ne_eqb, and_parts}
use Rattle.pm_props.specs.declared.property.PropId.{PropId}
use Rattle.pm_props.specs.Properties.{count, every_property, number, property_at}
use Rattle.pm_props.proofs.Numbers.{property_at-number}
use Rattle.pm_props.specs.Sets.{has, only, union, intersection, difference, IsSubset}

-- ---- one bit
max_is_or : (a b : ℕ) → a < 2 → b < 2 → eqb (max a b) 1 ≡ (eqb a 1 || eqb b 1)
max_is_or zero zero h k = refl
max_is_or zero (suc zero) h k = refl
max_is_or (suc zero) zero h k = refl
max_is_or (suc zero) (suc zero) h k = refl
max_is_or (suc (suc a)) b h k = absurd (omega arith)
max_is_or zero (suc (suc b)) h k = absurd (omega arith)
max_is_or (suc zero) (suc (suc b)) h k = absurd (omega arith)

min_is_and : (a b : ℕ) → a < 2 → b < 2 → eqb (min a b) 1 ≡ (eqb a 1 && eqb b 1)
min_is_and zero zero h k = refl
min_is_and zero (suc zero) h k = refl
min_is_and (suc zero) zero h k = refl
min_is_and (suc zero) (suc zero) h k = refl
min_is_and (suc (suc a)) b h k = absurd (omega arith)
min_is_and zero (suc (suc b)) h k = absurd (omega arith)
min_is_and (suc zero) (suc (suc b)) h k = absurd (omega arith)

without_is : (a b : ℕ) → a < 2 → b < 2 → eqb ((a + min a b) % 2) 1 ≡ (eqb a 1 && not (eqb b 1))
without_is zero zero h k = refl
without_is zero (suc zero) h k = refl
without_is (suc zero) zero h k = refl
without_is (suc zero) (suc zero) h k = refl
without_is (suc (suc a)) b h k = absurd (omega arith)
without_is zero (suc (suc b)) h k = absurd (omega arith)
without_is (suc zero) (suc (suc b)) h k = absurd (omega arith)

same_bit : (a b : ℕ) → a < 2 → b < 2 → eqb a 1 ≡ eqb b 1 → a ≡ b
same_bit zero zero h k e = refl
same_bit zero (suc zero) h k e = cc
same_bit (suc zero) zero h k e = cc
same_bit (suc zero) (suc zero) h k e = refl
same_bit (suc (suc a)) b h k e = absurd (omega arith)
same_bit zero (suc (suc b)) h k e = absurd (omega arith)
same_bit (suc zero) (suc (suc b)) h k e = absurd (omega arith)

-- ---- what is in them
pub has-empty : (p : PropId) → has 0 p ≡ false
unfolding has
has-empty p = rw (bit_at-zero (number p)) refl

pub has-only : (p q : PropId) → has (only p) q ≡ eqb (number p) (number q)
unfolding has only
has-only p q = elim (cases_eq (number q) (number p)) [
  | inl e ↦ rw (e, bit_at-pow_same (number p), eq-eqb (number p) (number p) refl) refl
  | inr n ↦ rw (bit_at-pow_other (number p) (number q) n, ne_eqb (number p) (number q) (λ e. n (sym e))) refl
]

pub has-union : (s t : ℕ) (p : PropId) → has (union s t) p ≡ (has s p || has t p)
unfolding has union
has-union s t p = rw (bit_at_or s t (number p)) (max_is_or (bit_at s (number p)) (bit_at t (number p)) (bit_at-lt s (number p)) (bit_at-lt t (number p)))

pub has-intersection : (s t : ℕ) (p : PropId) → has (intersection s t) p ≡ (has s p && has t p)
unfolding has intersection
has-intersection s t p = rw (bit_at_and s t (number p)) (min_is_and (bit_at s (number p)) (bit_at t (number p)) (bit_at-lt s (number p)) (bit_at-lt t (number p)))

pub has-difference : (s t : ℕ) (p : PropId) → has (difference s t) p ≡ (has s p && not (has t p))
unfolding has difference
has-difference s t p = rw (bit_at_xor s (bit_and s t) (number p), bit_at_and s t (number p)) (without_is (bit_at s (number p)) (bit_at t (number p)) (bit_at-lt s (number p)) (bit_at-lt t (number p)))

-- ---- they stay below 2 ^ count
pub number_below : (p : PropId) → number p < count
number_below p = grind arith

pub only_below : (p : PropId) → only p < 2 ^ count
unfolding only
only_below p = pow_below (number p) count (number_below p)

pub union_below : (s t : ℕ) → s < 2 ^ count → t < 2 ^ count → union s t < 2 ^ count
unfolding union
union_below s t h k = or_lt count s t h k

pub intersection_below : (s t : ℕ) → s < 2 ^ count → intersection s t < 2 ^ count
unfolding intersection
intersection_below s t h = omega (arith, and_le_l s t)

pub difference_below : (s t : ℕ) → s < 2 ^ count → difference s t < 2 ^ count
unfolding difference intersection
difference_below s t h = xor_lt count s (bit_and s t) h (intersection_below s t h)

-- ---- equal sets
numbered : (ps : List PropId) (from i : ℕ) → map number ps ≡ range_with_len from (length ps) → from ≤ i → i < from + length ps → (p : PropId) × (number p ≡ i)
numbered [] from i e low high = absurd (omega arith)
numbered (p ∷ ps) from i e low high = elim (cases_eq from i) [
  | inl same ↦ (p, (let head : number p ≡ from = cc in head ∙ same))
  | inr other ↦ numbered ps (from + 1) i (let tail : map number ps ≡ range_with_len (from + 1) (length ps) = cc in tail) (omega arith) (omega arith)
]

pub property_of : (i : ℕ) → i < count → (p : PropId) × (number p ≡ i)
property_of i h = numbered every_property 0 i refl (omega arith) h

pub same_members : (s t : ℕ) → s < 2 ^ count → t < 2 ^ count → ((p : PropId) → has s p ≡ has t p) → s ≡ t
unfolding has
same_members s t h k e = same_from_bits_below count s t h k (λ i within.
    let p = property_of i within in
    let at_p : eqb (bit_at s (number p.0)) 1 ≡ eqb (bit_at t (number p.0)) 1 = e p.0 in
    same_bit (bit_at s i) (bit_at t i) (bit_at-lt s i) (bit_at-lt t i) ((rw p.1 at at_p)))

-- ---- what the code computes
pub only_shifted : (p : PropId) (n : ℕ) → n ≡ number p → 1 * 2 ^ n % 2 ^ 128 ≡ only p
unfolding only
only_shifted p n e = let below : n < 128 = omega (arith, number_below p) in one_shl n 128 below ∙ ap (λ k. 2 ^ k) e

pub has_shifted : (s : ℕ) (p : PropId) (n : ℕ) → n ≡ number p → eqb (bit_and (s / 2 ^ n) 1) 1 ≡ has s p
unfolding has
has_shifted s p n e = rw (shr_and_one s n, e) refl

-- t has what s has exactly where s is what both have
pub subset_from_both : (s t : ℕ) → intersection s t ≡ s → IsSubset s t
subset_from_both s t e = λ p h.
    let both : (has s p && has t p) ≡ true = sym (has-intersection s t p) ∙ ap (λ n. has n p) e ∙ h in
    (and_parts (has s p) (has t p) both).1

only_first : (a b : Bool) → (a ≡ true → b ≡ true) → (a && b) ≡ a
only_first true b h = h refl
only_first false b h = refl

pub both_from_subset : (s t : ℕ) → s < 2 ^ count → IsSubset s t → intersection s t ≡ s
both_from_subset s t below h = same_members (intersection s t) s (intersection_below s t below) below
    (λ p. has-intersection s t p ∙ only_first (has s p) (has t p) (h p))

pub empty_from_none : (s : ℕ) → s < 2 ^ count → ((p : PropId) → has s p ≡ false) → s ≡ 0
empty_from_none s below none = same_members s 0 below (omega arith) (λ p. none p ∙ sym (has-empty p))

-- what is taken away leaves a number that is not greater, and a lesser one where a property is gone
pub difference_most : (s t : ℕ) → s < 2 ^ count → difference s t ≤ s
unfolding intersection
difference_most s t below =
    let r = difference s t in
    let both : intersection s r ≡ r = same_members (intersection s r) r (intersection_below s r below) (difference_below s t below)
    (λ q. has-intersection s r q ∙ ap (λ b. has s q && b) (has-difference s t q) ∙ twice (has s q) (not (has t q)) ∙ sym (has-difference s t q)) in
    subst (λ n. n ≤ s) both (and_le_l s r)
  where
    twice : (a b : Bool) → (a && (a && b)) ≡ (a && b)
    twice true b = refl
    twice false b = refl

pub gone_less : (s r : ℕ) (p : PropId) → r ≤ s → has s p ≡ true → has r p ≡ false → r < s
gone_less s r p most there gone = elim (cases_eq r s) [
  | inl same ↦ absurd (true≢false (sym there ∙ ap (λ n. has n p) (sym same) ∙ gone))
  | inr other ↦ omega arith
]

-- ---- the least number of a set
-- the property whose number is the place of the lowest 1
pub record IsFirst (s : ℕ) (p : PropId) : Type 0 where
  pub inside : has s p ≡ true
  pub least : (q : PropId) → number q < number p → has s q ≡ false

pub first_of : (s : ℕ) → s < 2 ^ count → 0 < s → (p : PropId) × (property_at (trailing_zeros w128 s) ≡ Some p) × IsFirst s p
unfolding has
first_of s below some =
    let t = trailing_zeros w128 s in
    let low = bit_at-trailing_zeros w128 s some (omega (arith, wide_enough)) in
    let within : t < count = elim (cases_lt t count) [
      | inl l ↦ l
      | inr l ↦ absurd (let e = bit_at_above s count t below l in let f = low.1 in omega arith)
    ] in
    let found = property_of t within in (
      found.0,
      ap property_at (sym found.1) ∙ property_at-number found.0,
      record {
        inside = rw (found.1, low.1) refl;
        least = λ q l. ap (λ b. eqb b 1) (low.2 (number q) (rw found.1 at l));
      },
    )
  where
    wide_enough : 2 ^ count ≤ 2 ^ 128
    wide_enough = omega arith
