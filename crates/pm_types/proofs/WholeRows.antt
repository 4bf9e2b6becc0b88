-- Whole rows in the range are rows of fractions over 1 in their form.
use Rattle.pm_vector.proofs.Ring.{mul_one}
use Rattle.pm_vector.specs.Numbers.{InRange}
use Rattle.pm_vector.specs.Rows.{HasCols, Row, entry, ratio_at}
use Rattle.pm_fraction.specs.FractionRows.{IsLeastDenominator, numerator_over}
use Rattle.pm_fraction.specs.Matrices.{IsFraction}
use Rattle.pm_types.specs.Forms.{HasPrimitiveRow, is_row_of_entries}
use Rattle.pm_types.specs.Views.{over_one, ratios}
use Rattle.std.proofs.Common.{ap, arith, refl, suc, sym, true, zero, ◌∙◌}
use Rattle.std.proofs.Math.Nat.{eq-one_of_dvd-one, one-dvd}
use Rattle.std.proofs.lemmas.Bool.{eq-eqb}
use Rattle.std.proofs.lemmas.Int.{ints}
use Rattle.std.proofs.lemmas.List.Elements.{All-map}
use Rattle.std.proofs.lemmas.Nat.Gcd.{dvd_refl}
use Rattle.std.specs.List.{All, list_all}
use Rattle.std.specs.Prelude.{List, [], length, map, unsigned_abs, ℕ, ◌∷◌, ◌≡◌}
use lib.IntN.{pos, ℤ}

-- ---- whole numbers over 1
pub ratio_at_ratios : (x : Row) (i : ℕ) → ratio_at (ratios x) i ≡ over_one (entry x i)
ratio_at_ratios [] i = refl
ratio_at_ratios (a ∷ x) zero = refl
ratio_at_ratios (a ∷ x) (suc i) = ratio_at_ratios x i

pub length_ratios : (x : Row) → length x ≡ length (ratios x)
length_ratios [] = refl
length_ratios (a ∷ x) = ap suc (length_ratios x)

-- ---- a whole row over 1
-- all denominators are 1, and so is their least common multiple
one_denominator : (x : Row) (i m : ℕ) → IsLeastDenominator (ratios x) i m → m ≡ 1
one_denominator x i m least = eq-one_of_dvd-one ((least.multiples 1).1 (λ k below. rw (ratio_at_ratios x k) (dvd_refl 1)))

numerator_one : (z : ℤ) → numerator_over 1 (over_one z) ≡ z
numerator_one z = mul_one z

numerator_in_range : (m : ℕ) (z : ℤ) → m ≡ 1 → InRange z → InRange (numerator_over m (over_one z))
numerator_in_range m z e h = rw (e, numerator_one z) h

one_in_range : (m : ℕ) → m ≡ 1 → InRange (pos m)
one_in_range m e = rw e (omega arith)

pub ratios_primitive : (x : Row) → All InRange x → HasPrimitiveRow (ratios x)
ratios_primitive x h = record {
  denominators = record { stay = λ i m below least. one_in_range m (one_denominator x i m least) };
  numerators = λ m least. record { stay = λ i below. rw (ratio_at_ratios x i) (numerator_in_range m (entry x i) (one_denominator x (length (ratios x)) m least) (h i (pos 0) (let l = length_ratios x in omega arith))) };
}

over_one_fraction : (z : ℤ) → InRange z → IsFraction (over_one z)
over_one_fraction z h = record {
  reduced = record { positive = omega (arith, ints); coprime = (one-dvd (unsigned_abs z), dvd_refl 1, λ d p q. q) };
  in_range = (h, one_in_range 1 refl);
}

pub ratios_fractions : (x : Row) → All InRange x → All IsFraction (ratios x)
ratios_fractions x h = All-map IsFraction over_one x (λ i d below. over_one_fraction _ (h i d below))

-- ---- a list of them
pub ratios_rows_of_entries : (n : ℕ) (N : List Row) → HasCols n N → list_all (is_row_of_entries n) (map ratios N) ≡ true
ratios_rows_of_entries n [] h = refl
ratios_rows_of_entries n (x ∷ N) h = rw (eq-eqb (length (ratios x)) n (sym (length_ratios x) ∙ h.0)) (ratios_rows_of_entries n N h.1)

pub ratios_rows_primitive : (N : List Row) → All (All InRange) N → All HasPrimitiveRow (map ratios N)
ratios_rows_primitive N h = All-map HasPrimitiveRow ratios N (λ i d below. ratios_primitive _ (h i d below))

pub ratios_rows_fractions : (N : List Row) → All (All InRange) N → All (All IsFraction) (map ratios N)
ratios_rows_fractions N h = All-map (All IsFraction) ratios N (λ i d below. ratios_fractions _ (h i d below))
