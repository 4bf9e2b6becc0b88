-- The primitive row of a row without its first entry is made within the range where that of the row is.
use Rattle.pm_vector.proofs.DivisorLaws.{common_divisor}
use Rattle.pm_vector.specs.Numbers.{InRange, Ratio}
use Rattle.pm_vector.specs.Rows.{ratio_at}
use Rattle.pm_fraction.proofs.MultipleLaws.{IsLcm-from_gcd, gcd_positive}
use Rattle.pm_fraction.specs.FractionRows.{IsLeastDenominator, numerator_over}
use Rattle.pm_fraction.specs.Multiples.{IsLcm}
use Rattle.pm_types.specs.Forms.{HasPrimitiveRow}
use Rattle.std.proofs.Common.{arith, inl, inr}
use Rattle.std.proofs.Math.Nat.{div-mul-le_self, dvd-mul_left, dvd-mul_right, mul-le-mul, mul-le-mul_left}
use Rattle.std.proofs.lemmas.Bool.{cases_lt}
use Rattle.std.proofs.lemmas.Int.{unsigned_abs-mul}
use Rattle.std.proofs.lemmas.Nat.{le-div}
use Rattle.std.proofs.lemmas.Nat.Gcd.{dvd-zero, dvd_antisymm, dvd_refl, le_of_dvd}
use Rattle.std.specs.Int.{◌∣◌}
use Rattle.std.specs.Prelude.{List, length, suc, unsigned_abs, zero, ℕ, ◌*◌, ◌/◌, ◌<◌, ◌^◌, ◌∷◌, ◌≡◌, ◌≤◌, ◌⊎◌}
use lib.IntN.{pos}

has_lcm : (a b : ℕ) → 0 < a → (m : ℕ) × IsLcm a b m
has_lcm a b some = let w = common_divisor a b in (a / w.0 * b, IsLcm-from_gcd a b w.0 (gcd_positive a b w.0 some w.1) w.1)

positive_product : (a b : ℕ) → 0 < a → 0 < b → a * b ≡ 0 → ⊥
positive_product a b p q e = let l = mul-le-mul p q in omega arith

-- a least common multiple of numbers that are not 0 is at least each
at_least : (a b n : ℕ) → 0 < a → IsLcm a b n → (b ≡ 0) ⊎ (b ≤ n)
at_least a b n some h = elim (cases_lt 0 b) [
  | inl other ↦ inr (elim (cases_lt 0 n) [
    | inl positive ↦ le_of_dvd positive ((h.multiples n).0 (dvd_refl n)).1
    | inr none ↦
        let product : n ∣ a * b = (h.multiples (a * b)).1 (dvd-mul_right a b, dvd-mul_left b a) in
        let zero : n ≡ 0 = omega arith in
        let from_zero : 0 ∣ a * b = rw zero at product in
        absurd (positive_product a b some other (dvd_antisymm (dvd-zero (a * b)) from_zero))
  ])
  | inr none ↦ inl (omega arith)
]

module _ (q : Ratio) (r : List Ratio) where
  -- with the first denominator
  with_first : (i m n : ℕ) → IsLeastDenominator r i m → IsLcm (unsigned_abs q.den) m n → IsLeastDenominator (q ∷ r) (suc i) n
  with_first i m n least both = record {
    multiples = λ c. (
      λ h. each c ((both.multiples c).0 h),
      λ f. (both.multiples c).1 (f 0 (omega arith), (least.multiples c).1 (λ a l. f (suc a) (omega arith))),
    );
  }
    where
      each : (c : ℕ) → (unsigned_abs q.den ∣ c) × (m ∣ c) → (a : ℕ) → a < suc i → unsigned_abs (ratio_at (q ∷ r) a).den ∣ c
      each c w zero l = w.0
      each c w (suc a) l = (least.multiples c).0 w.1 a (omega arith)

  module _ (positive : 0 < unsigned_abs q.den) (h : HasPrimitiveRow (q ∷ r)) where
    denominator_stays : (i m : ℕ) → i ≤ length r → IsLeastDenominator r i m → InRange (pos m)
    denominator_stays i m l least =
        let w = has_lcm (unsigned_abs q.den) m positive in
        let stays : w.0 < 2 ^ 127 = h.denominators.stay (suc i) w.0 (omega arith) (with_first i m w.0 least w.1) in
        elim (at_least (unsigned_abs q.den) m w.0 positive w.1) [ inl none ↦ small m none | inr few ↦ omega arith ]
      where
        small : (m : ℕ) → m ≡ 0 → m < 2 ^ 127
        small m e = omega arith

    quotient_up : (m n d : ℕ) → m ≤ n → 0 < d → m / d ≤ n / d
    quotient_up m n d l some = le-div (m / d) n d some (let e = div-mul-le_self m d in omega arith)

    numerator_up : (m n : ℕ) (f : Ratio) → (m ≡ 0) ⊎ (m ≤ n) → 0 < unsigned_abs f.den → InRange (numerator_over n f) → InRange (numerator_over m f)
    numerator_up m n f l some stays =
        let few : m / unsigned_abs f.den ≤ n / unsigned_abs f.den = elim l [ inl none ↦ quotient_up m n (unsigned_abs f.den) (omega arith) some | inr few ↦ quotient_up m n (unsigned_abs f.den) few some ] in
        let p = unsigned_abs-mul f.num (pos (m / unsigned_abs f.den)) in
        let q = unsigned_abs-mul f.num (pos (n / unsigned_abs f.den)) in
        let x = mul-le-mul_left (unsigned_abs f.num) few in
        omega arith

    pub primitive_behind : ((i : ℕ) → i < length r → 0 < unsigned_abs (ratio_at r i).den) → HasPrimitiveRow r
    primitive_behind dens = record {
      denominators = record { stay = denominator_stays };
      numerators = λ m least. record {
        stay = λ i l.
            let w = has_lcm (unsigned_abs q.den) m positive in
            let whole = with_first (length r) m w.0 least w.1 in
            numerator_up m w.0 (ratio_at r i) (at_least (unsigned_abs q.den) m w.0 positive w.1) (dens i l) ((h.numerators w.0 whole).stay (suc i) (omega arith));
      };
    }
