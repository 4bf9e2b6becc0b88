-- The numerators over the least common denominator, and the row that they make.
use Rattle.pm_vector.proofs.Ring.{mul_assoc, ring}
use Rattle.pm_vector.proofs.RowLaws.{entry-times}
use Rattle.pm_vector.proofs.Signs.{times_both}
use Rattle.pm_vector.specs.Divisors.{IsPrimitive, IsPrimitiveOf}
use Rattle.pm_vector.specs.Numbers.{InRange, IsReduced, Ratio}
use Rattle.pm_vector.specs.Rows.{IsZero, Row, Same, Stands, entry, ratio_at, times}
use Rattle.pm_fraction.specs.FractionRows.{IsLeastDenominator, numerator_over, numerators_over}
use Rattle.pm_fraction.specs.Wideness.{DenominatorsStay, IsFirstWideNumerator, NumeratorsStay}
use Rattle.pm_vector.proofs.Kept.{kept}
use Rattle.std.proofs.Common.{ap, arith, below_more, inl, inr, length, map, of_z, pos, refl, sym, take, to_z, ◌++◌, ◌+◌, ◌/◌, ◌<◌, ◌≡◌, ◌∙◌, ◌⊎◌, ℕ, List, [], ◌∷◌}
use Rattle.std.proofs.Math.Nat.{div-mul_cancel}
use Rattle.std.proofs.lemmas.Int.{fits_signed_from_abs, ints, to_z_pos}
use Rattle.std.proofs.lemmas.List.{get_or-map, length-map, map_more}
use Rattle.std.proofs.lemmas.Nat.Gcd.{dvd_refl}
use Rattle.std.specs.Int.{w128, ◌∣◌}
use Rattle.std.specs.Prelude.{FitsSigned, unsigned_abs, ◌^◌}
use lib.IntN.{*ℤ_comm, negsuc, ℤ, ◌*ℤ◌}
use lib.Signed.{lt_z_yes, ◌<ℤ◌}

-- the first k numerators, all of them in the range
pub record NumeratorsSoFar (r : List Ratio) (m k : ℕ) (x : Row) : Type 0 where
  pub x_is : x ≡ map (numerator_over m) (take k r)
  pub stay : NumeratorsStay r m k

pub NumeratorsSoFar-more : (r : List Ratio) (m k : ℕ) (x : Row) (n : ℤ) → k < length r → NumeratorsSoFar r m k x → n ≡ numerator_over m (ratio_at r k) → InRange n → NumeratorsSoFar r m (k + 1) (x ++ n ∷ [])
NumeratorsSoFar-more r m k x n within s e small = record {
  x_is = rw (s.x_is, e) (sym (map_more (numerator_over m) r k (record { num = pos 0; den = pos 1 }) within));
  stay = record { stay = below_more (λ i. InRange (numerator_over m (ratio_at r i))) k s.stay.stay (rw e at small) };
}

pub first_wide_numerator : (r : List Ratio) (m k : ℕ) → k < length r → IsLeastDenominator r (length r) m → DenominatorsStay r (length r) → NumeratorsStay r m k → (InRange (numerator_over m (ratio_at r k)) → ⊥) → IsFirstWideNumerator r (ratio_at r k).num (pos (m / unsigned_abs (ratio_at r k).den))
first_wide_numerator r m k within least denominators before wide = record {
  k = k;
  m = m;
  within = within;
  least = least;
  a_is = refl;
  b_is = refl;
  denominators = denominators;
  before = before;
  wide = wide;
}

-- ---- a factor goes through 128 bits unchanged
factor_small : (m d : ℕ) → m < 2 ^ 127 → m / d < 2 ^ 127
factor_small m d small = grind arith

pub factor_fits : (m d : ℕ) → m < 2 ^ 127 → FitsSigned w128 (pos (m / d))
factor_fits m d small = fits_signed_from_abs w128 (pos (m / d)) (factor_small m d small)

pub factor_is : (m : ℕ) (f : Ratio) (den : ℤ) (size : ℕ) → m < 2 ^ 127 → den ≡ f.den → InRange f.den → size ≡ unsigned_abs (to_z w128 (of_z w128 den)) → to_z w128 (m / size) ≡ pos (m / unsigned_abs f.den)
factor_is m f den size small den_is in_range size_is = rw (size_is, den_is, kept f.den in_range) (to_z_pos w128 (m / unsigned_abs f.den) (factor_small m (unsigned_abs f.den) small))

-- ---- the direction of the row
-- a denominator times the quotient by it
den_times_quotient : (m : ℕ) (d : ℤ) → pos 0 <ℤ d → unsigned_abs d ∣ m → pos (m / unsigned_abs d) *ℤ d ≡ pos m
den_times_quotient m (pos d) positive h = ap pos (div-mul_cancel d h)
den_times_quotient m (negsuc d) positive h = absurd (omega (arith, ints))

balanced : (m : ℕ) (f : Ratio) → pos 0 <ℤ f.den → unsigned_abs f.den ∣ m → numerator_over m f *ℤ f.den ≡ pos m *ℤ f.num
balanced m f positive h = mul_assoc f.num (pos (m / unsigned_abs f.den)) f.den ∙ times_both f.num (den_times_quotient m f.den positive h) ∙ *ℤ_comm f.num (pos m)

module _ (r : List Ratio) (m : ℕ) (least : IsLeastDenominator r (length r) m) (some : 0 < m) (reduced : (i : ℕ) → i < length r → IsReduced (ratio_at r i)) where
  entry_is : (i : ℕ) → i < length r → entry (numerators_over m r) i ≡ numerator_over m (ratio_at r i)
  entry_is i within = get_or-map (numerator_over m) r i (record { num = pos 0; den = pos 1 }) (pos 0) within

  entry_balanced : (i : ℕ) → i < length r → entry (numerators_over m r) i *ℤ (ratio_at r i).den ≡ pos m *ℤ (ratio_at r i).num
  entry_balanced i within =
      rw (entry_is i within) (balanced m (ratio_at r i) (reduced i within).positive ((least.multiples m).0 (dvd_refl m) i within))

  denominator_positive : pos 0 <ℤ pos m
  denominator_positive = omega (arith, ints)

  module _ (x : Row) (primitive : IsPrimitiveOf (numerators_over m r) x) where
    cols : length x ≡ length r
    cols = primitive.cols ∙ length-map r (numerator_over m)

    of_zero : IsZero (numerators_over m r) → IsZero x → Stands r x
    of_zero z zx = record {
      p = pos 1;
      q = pos m;
      p_positive = lt_z_yes tt;
      q_positive = denominator_positive;
      cols = cols;
      denominators = λ i within. (reduced i within).positive;
      same = λ i within. let e = entry_balanced i within in let f : pos 0 *ℤ (ratio_at r i).den ≡ pos m *ℤ (ratio_at r i).num = rw (z i) at e in rw (zx i) (simp ring (simp ring at f));
    }

    of_primitive : (g : ℤ) → pos 0 <ℤ g → Same (numerators_over m r) (times g x) → Stands r x
    of_primitive g positive same = record {
      p = g;
      q = pos m;
      p_positive = positive;
      q_positive = denominator_positive;
      cols = cols;
      denominators = λ i within. (reduced i within).positive;
      same = λ i within. sym (mul_assoc g (entry x i) (ratio_at r i).den) ∙ (rw (← entry-times g x i, ← same.at i) (entry_balanced i within));
    }

    pub Stands-from_primitive : Stands r x
    Stands-from_primitive = elim primitive.divided [
      | inl z ↦ of_zero z.0 z.1
      | inr w ↦ of_primitive w.0 w.1 w.2
    ]

pub zero_or_primitive : (v x : Row) → IsPrimitiveOf v x → IsZero x ⊎ IsPrimitive x
zero_or_primitive v x h = elim h.divided [ inl z ↦ inl z.1 | inr w ↦ inr w.3 ]
