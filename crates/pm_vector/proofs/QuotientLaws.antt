-- The quotients so far, and what a row divided by its greatest common divisor is.
use Rattle.pm_vector.proofs.DivisorLaws.{IsPrimitiveOf-zero, IsPrimitiveOf-from_one, IsZero-from_gcd, gcd_below_bound, times-quotients, quotients}
use Rattle.pm_vector.proofs.Ring.{one_mul}
use Rattle.pm_vector.proofs.RowLaws.{entry-times, length-times, row_equal}
use Rattle.pm_vector.specs.Divisors.{IsGcdOf, IsPrimitiveOf}
use Rattle.pm_vector.specs.Numbers.{InRange}
use Rattle.pm_vector.specs.Rows.{Row, entry, times}
use Rattle.pm_vector.specs.Quotients.{IsQuotientByGcd}
use Rattle.std.proofs.Common.{add-one, ap, arith, drop, get_or, inl, inr, length, map, refl, set, suc, sym, take, to_z, zero, ◌++◌, ◌+◌, ◌<◌, ◌^◌, ◌≡◌, ◌≤◌, ℕ}
use Rattle.std.proofs.Math.Nat.{div-le_self, one-dvd}
use Rattle.std.proofs.lemmas.Bool.{cases_eq, cases_lt}
use Rattle.std.proofs.lemmas.Int.{to_z_pos}
use Rattle.std.proofs.lemmas.List.{get_or-map, get_or-take, get_or_past, length-map, length-take}
use Rattle.std.proofs.lemmas.Nat.Gcd.{dvd-zero, dvd_trans}
use Rattle.std.specs.Int.{w128}
use Rattle.std.specs.Prelude.{All, [], int_div, unsigned_abs, ◌∷◌}
use lib.IntN.{neg_ℤ, negsuc, pos, ℤ}

-- the first n entries are divided, and the others as they were
abbrev pub partly_divided : Row → ℤ → ℕ → Row
partly_divided x d n = map (λ z. int_div z d) (take n x) ++ drop n x

divided_suc : (x : Row) (d : ℤ) (i : ℕ) → i < length x → set (partly_divided x d i) i (int_div (entry (partly_divided x d i) i) d) ≡ partly_divided x d (suc i)
divided_suc [] d i h = absurd (omega arith)
divided_suc (a ∷ x) d zero h = refl
divided_suc (a ∷ x) d (suc i) h = ap (λ (t : Row). int_div a d ∷ t) (divided_suc x d i (omega arith))

pub divided_more : (x row : Row) (d : ℤ) (i : ℕ) → i < length x → row ≡ partly_divided x d i → set row i (int_div (entry row i) d) ≡ partly_divided x d (i + 1)
divided_more x row d i h e = rw (e, add-one) (divided_suc x d i h)

abs-neg : (n : ℕ) → unsigned_abs (neg_ℤ (pos n)) ≡ n
abs-neg zero = refl
abs-neg (suc n) = refl

abs-quotient : (z : ℤ) (g : ℕ) → unsigned_abs (int_div z (pos g)) ≤ unsigned_abs z
abs-quotient (pos n) g = div-le_self n g
abs-quotient (negsuc n) g = rw abs-neg (div-le_self (suc n) g)

-- where only 1 divides the first entries, only 1 divides all
pub IsGcdOf-one : (x : Row) (n : ℕ) → IsGcdOf (take n x) 1 → IsGcdOf x 1
IsGcdOf-one x n h = record {
  divides = λ d. (
    λ one i. dvd_trans d one (one-dvd (unsigned_abs (entry x i))),
    λ all. (h.divides d).1 (λ i. elim (cases_lt i n) [
      | inl below ↦ rw (get_or-take n x i (pos 0) below) (all i)
      | inr past ↦ rw (get_or_past (take n x) i (pos 0) (omega (arith, length-take n x))) (dvd-zero d)
    ]),
  );
}

-- ---- the whole row
module _ (x : Row) (g : ℕ) (h : IsGcdOf x g) where
  pub IsQuotient-quotients : IsQuotientByGcd x (quotients x g)
  IsQuotient-quotients = record { g = g; divisor = h; multiple = times-quotients x g h }

  pub IsPrimitiveOf-same : g ≤ 1 → IsPrimitiveOf x x
  IsPrimitiveOf-same small = elim (cases_eq g 0) [
    | inl none ↦ IsPrimitiveOf-zero x (IsZero-from_gcd x (rw none at h))
    | inr some ↦ let one : g ≡ 1 = omega arith in IsPrimitiveOf-from_one x (rw one at h)
  ]

  pub IsQuotient-same : g ≤ 1 → IsQuotientByGcd x x
  IsQuotient-same small = record {
    g = g;
    divisor = h;
    multiple = row_equal x (times (pos g) x) (sym (length-times (pos g) x)) (record {
      at = λ i. rw entry-times (elim (cases_eq g 0) [
        | inl none ↦ let z = IsZero-from_gcd x (rw none at h) i in rw (z, none) refl
        | inr some ↦ let one : g ≡ 1 = omega arith in rw one (sym (one_mul (entry x i)))
      ]);
    });
  }

  pub All-quotients : All InRange x → All InRange (quotients x g)
  All-quotients all k d within =
      let in_x : k < length x = rw length-map at within in
      let a = abs-quotient (get_or x k (pos 0)) g in
      let b = all k (pos 0) in_x in
      rw (get_or-map (λ z. int_div z (pos g)) x k (pos 0) d in_x) (omega arith)

  pub gcd_in_range : All InRange x → g < 2 ^ 127
  gcd_in_range all = gcd_below_bound x g (2 ^ 127) h (omega arith) (λ i. elim (cases_lt i (length x)) [
    | inl within ↦ all i (pos 0) within
    | inr past ↦ rw get_or_past (omega arith)
  ])

  -- the divisor goes through 128 bits unchanged
  pub quotients_is : All InRange x → (row : Row) → row ≡ map (λ z. int_div z (to_z w128 g)) x → row ≡ quotients x g
  quotients_is all row e = let small = gcd_in_range all in rw (to_z_pos w128 g small) at e
