-- Texts that write fractions.
use Rattle.pm_vector.proofs.DivisorLaws.{common_divisor}
use Rattle.pm_vector.specs.Numbers.{Ratio}
use Rattle.pm_fraction.proofs.Digits.{own_digits}
use Rattle.pm_fraction.proofs.Quotients.{same_through, sizes_lowest}
use Rattle.pm_fraction.proofs.Reduced.{same_reduced}
use Rattle.pm_fraction.specs.Fractions.{IsLowestTermsOf, ratio_of, signed}
use Rattle.pm_fraction.specs.Text.{AreLiteralsInRange, CannotBeRead, IsFractionText, IsReadAs, bottom_text, top_text}
use Rattle.pm_fraction.specs.declared.error.NumError.TheVariants.{DivideByZero, NotANumber, Wide, ZeroDenominator}
use Rattle.pm_fraction.specs.declared.error.NumError.{NumError}
use Rattle.pm_json.specs.Readings.{Read, divides_both, divisor_up_to, is_fraction_text, is_literal, lowest_terms, ratio_of_text}
use Rattle.pm_json.specs.declared.fail.ValueFail.TheVariants.{Number}
use Rattle.std.proofs.Common.{ap, arith, cond, eqb, inl, inr, length, ltb, refl, subst, sym, ◌&&◌, ◌<◌, ◌^◌, ◌≡◌, ◌≤◌, ◌∙◌, ℕ, zero, suc, Bool, true, false, List, Ok, Err}
use Rattle.std.proofs.lemmas.Bool.{and_from, and_parts, cases_Bool, cases_lt, cond-false, cond-true, eq-eqb, eqb-true, lt-ltb, ltb-true, true≢false}
use Rattle.std.proofs.lemmas.Nat.Gcd.{dvd-zero, dvd_antisymm, dvd_of_mod-eq-zero, le_of_dvd, mod-eq-zero_of_dvd}
use Rattle.std.proofs.Math.Nat.{one-dvd}
use Rattle.std.specs.Char.{is_ascii_digit}
use Rattle.std.specs.Int.{IsGcd, ◌∣◌}
use Rattle.std.specs.List.{list_all}
use Rattle.std.specs.Prelude.{◌%◌}
use Rattle.std.specs.Str.Parse.{IsNumeral, digits_value, starts_with_minus}
use lib.IntN.{pos}

-- ---- the greatest common divisor
record IsDivisorUpTo (k a b d : ℕ) : Type 0 where
  in_left : 0 < d → d ∣ a
  in_right : 0 < d → d ∣ b
  most : (e : ℕ) → 0 < e → e ≤ k → e ∣ a → e ∣ b → e ≤ d

both_divided : (m a b : ℕ) → m ∣ a → m ∣ b → divides_both m a b ≡ true
both_divided m a b h g = and_from (eqb (a % m) 0) (eqb (b % m) 0) (eq-eqb (a % m) 0 (mod-eq-zero_of_dvd m h)) (eq-eqb (b % m) 0 (mod-eq-zero_of_dvd m g))

divisor_next : (k a b d : ℕ) (t : Bool) → divides_both (suc k) a b ≡ t → IsDivisorUpTo k a b d → IsDivisorUpTo (suc k) a b (cond t (suc k) d)
divisor_next k a b d true e h =
    let p = and_parts (eqb (a % suc k) 0) (eqb (b % suc k) 0) e in
    record {
      in_left = λ _. dvd_of_mod-eq-zero (suc k) (eqb-true (a % suc k) 0 p.0);
      in_right = λ _. dvd_of_mod-eq-zero (suc k) (eqb-true (b % suc k) 0 p.1);
      most = λ n some few l r. few;
    }
divisor_next k a b d false e h = record {
  in_left = h.in_left;
  in_right = h.in_right;
  most = λ n some few l r. elim (cases_lt n (suc k)) [
    | inl less ↦ h.most n some (omega arith) l r
    | inr last ↦
        let same : n ≡ suc k = omega arith in
        let both : divides_both n a b ≡ true = both_divided n a b l r in
        absurd (true≢false (sym both ∙ (ap (λ m. divides_both m a b) same ∙ e)))
  ];
}

divisor_is : (k a b : ℕ) → IsDivisorUpTo k a b (divisor_up_to k a b)
divisor_is zero a b = record { in_left = λ h. absurd (omega arith); in_right = λ h. absurd (omega arith); most = λ n some few l r. absurd (omega arith) }
divisor_is (suc k) a b = divisor_next k a b (divisor_up_to k a b) (divides_both (suc k) a b) refl (divisor_is k a b)

greatest : (a b : ℕ) → 0 < b → (0 < divisor_up_to b a b) × IsGcd a b (divisor_up_to b a b)
greatest a b some =
    let d = divisor_up_to b a b in
    let h = divisor_is b a b in
    let (g, w) = common_divisor a b in
    let positive : 0 < d = (let one = h.most 1 (omega arith) (omega arith) (one-dvd a) (one-dvd b) in omega arith) in
    let g_some : 0 < g = elim (cases_lt 0 g) [
      | inl above ↦ above
      | inr nothing ↦
          let z : g ≡ 0 = omega arith in
          let from_zero : 0 ∣ b = rw z at w.1 in
          let e : b ≡ 0 = dvd_antisymm (dvd-zero b) from_zero in
          absurd (omega arith)
    ] in
    let up : g ≤ d = h.most g g_some (le_of_dvd some w.1) w.0 w.1 in
    let down : d ≤ g = le_of_dvd g_some (w.2 d (h.in_left positive) (h.in_right positive)) in
    let same : g ≡ d = omega arith in
    (positive, subst (IsGcd a b) same w)

-- ---- lowest terms are unique
same_lowest : (x p q : Ratio) → IsLowestTermsOf x p → IsLowestTermsOf x q → p ≡ q
same_lowest x p q h g = same_reduced p q h.reduced g.reduced (same_through x.num x.den q.num q.den p.num p.den h.divisible h.same (sym g.same))

lowest_is : (b : Bool) (top bottom : ℕ) (r : Ratio) → 0 < bottom → IsLowestTermsOf (ratio_of (signed b top) (pos bottom)) r → lowest_terms b top bottom ≡ r
lowest_is b top bottom r some h =
    let g = greatest top bottom some in
    same_lowest (ratio_of (signed b top) (pos bottom)) (lowest_terms b top bottom) r (sizes_lowest b top bottom (divisor_up_to bottom top bottom) some g.0 g.1) h

-- ---- texts
literal : (ds : List ℕ) → IsNumeral 10 ds → digits_value 10 ds < 2 ^ 127 → is_literal ds ≡ true
literal ds n small =
    and_from (ltb 0 (length ds) && list_all is_ascii_digit ds) (ltb (digits_value 10 ds) (2 ^ 127))
    (and_from (ltb 0 (length ds)) (list_all is_ascii_digit ds) (lt-ltb 0 (length ds) n.0) (own_digits.from ds n.1))
    (lt-ltb (digits_value 10 ds) (2 ^ 127) small)

literal_parts : (ds : List ℕ) → is_literal ds ≡ true → IsNumeral 10 ds × (digits_value 10 ds < 2 ^ 127)
literal_parts ds e =
    let p = and_parts (ltb 0 (length ds) && list_all is_ascii_digit ds) (ltb (digits_value 10 ds) (2 ^ 127)) e in
    let q = and_parts (ltb 0 (length ds)) (list_all is_ascii_digit ds) p.0 in
    ((ltb-true 0 (length ds) q.0, own_digits.to ds q.1), ltb-true (digits_value 10 ds) (2 ^ 127) p.1)

pub text_read : (bs : List ℕ) (r : Ratio) → IsReadAs bs r → (let z : Read Ratio = Ok r in z) ≡ ratio_of_text bs
text_read bs r h =
    let positive : 0 < digits_value 10 (bottom_text bs) = elim (cases_lt 0 (digits_value 10 (bottom_text bs))) [
      | inl some ↦ some
      | inr none ↦ let z : digits_value 10 (bottom_text bs) ≡ 0 = omega arith in absurd (h.number.divisible (ap pos z))
    ] in
    let test : is_fraction_text bs ≡ true =
    and_from (is_literal (top_text bs) && is_literal (bottom_text bs)) (ltb 0 (digits_value 10 (bottom_text bs)))
    (and_from (is_literal (top_text bs)) (is_literal (bottom_text bs)) (literal (top_text bs) h.text.top h.literals.top) (literal (bottom_text bs) h.text.bottom h.literals.bottom))
    (lt-ltb 0 (digits_value 10 (bottom_text bs)) positive) in
    let is = lowest_is (starts_with_minus bs) (digits_value 10 (top_text bs)) (digits_value 10 (bottom_text bs)) r positive h.number in
    ok is ∙ sym (cond-true (is_fraction_text bs) (Ok (lowest_terms (starts_with_minus bs) (digits_value 10 (top_text bs)) (digits_value 10 (bottom_text bs)))) (Err Number) test)
  where
    ok : {p : Ratio} → p ≡ r → (let z : Read Ratio = Ok r in z) ≡ Ok p
    ok e = ap (λ (q : Ratio). Ok q) (sym e)

record Parts (bs : List ℕ) : Type 0 where
  text : IsFractionText bs
  literals : AreLiteralsInRange bs
  some : 0 < digits_value 10 (bottom_text bs)

parts_of : (bs : List ℕ) → is_fraction_text bs ≡ true → Parts bs
parts_of bs e =
    let p = and_parts (is_literal (top_text bs) && is_literal (bottom_text bs)) (ltb 0 (digits_value 10 (bottom_text bs))) e in
    let q = and_parts (is_literal (top_text bs)) (is_literal (bottom_text bs)) p.0 in
    let top = literal_parts (top_text bs) q.0 in
    let bottom = literal_parts (bottom_text bs) q.1 in
    record {
      text = record { top = top.0; bottom = bottom.0 };
      literals = record { top = top.1; bottom = bottom.1 };
      some = ltb-true 0 (digits_value 10 (bottom_text bs)) p.1;
    }

not_read : (bs : List ℕ) (e : NumError) → CannotBeRead bs e → is_fraction_text bs ≡ true → ⊥
not_read bs NotANumber h t = h (parts_of bs t).text
not_read bs Wide h t = h.1 (parts_of bs t).literals
not_read bs ZeroDenominator h t = let some = (parts_of bs t).some in let z = h.2 in absurd (omega arith)
not_read bs DivideByZero h t = h

pub text_refused : (bs : List ℕ) (e : NumError) → CannotBeRead bs e → (let r : Read Ratio = Err Number in r) ≡ ratio_of_text bs
text_refused bs e h = elim (cases_Bool (is_fraction_text bs)) [
  | inl t ↦ absurd (not_read bs e h t)
  | inr f ↦ sym (cond-false (is_fraction_text bs) (Ok (lowest_terms (starts_with_minus bs) (digits_value 10 (top_text bs)) (digits_value 10 (bottom_text bs)))) (Err Number) f)
]
