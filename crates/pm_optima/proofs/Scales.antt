-- The fraction by which the primitive row of an objective is multiplied, found at a place where that row is not 0.
use Rattle.pm_vector.proofs.Ring.{mul_assoc, ring}
use Rattle.pm_vector.proofs.RowLaws.{entry-times}
use Rattle.pm_vector.proofs.Signs.{mul_cancel, mul_pos, pos_cancel, times_both}
use Rattle.pm_vector.specs.Numbers.{InRange, Ratio}
use Rattle.pm_vector.specs.Rows.{Row, Stands, entry, ratio_at}
use Rattle.pm_fraction.proofs.Quotients.{wide_same}
use Rattle.pm_fraction.specs.Arithmetic.{quotient_of}
use Rattle.pm_fraction.specs.Fractions.{IsLowestTermsOf, IsTooWide, ratio_of}
use Rattle.pm_fraction.specs.declared.error.NumError.TheVariants.{DivideByZero, Wide}
use Rattle.pm_fraction.specs.declared.error.NumError.{NumError}
use Rattle.pm_fraction.specs.FractionRows.{IsPrimitiveRowOf, numerator_over, numerators_over}
use Rattle.pm_types.proofs.OverFirst.{factor_in_range, not_too_wide}
use Rattle.pm_optima.specs.Objectives.{IsScaleOf}
use Rattle.pm_types.specs.Forms.{HasPrimitiveRow}
use Rattle.std.proofs.Common.{ap, arith, inl, inr, refl, subst, suc, sym, zero, ◌∙◌}
use Rattle.std.proofs.Math.Nat.{div-mul_cancel}
use Rattle.std.proofs.lemmas.Int.{ints}
use Rattle.std.proofs.lemmas.List.{get_or-map}
use Rattle.std.proofs.lemmas.Nat.Gcd.{dvd_refl}
use Rattle.std.specs.Int.{◌∣◌}
use Rattle.std.specs.Prelude.{List, length, unsigned_abs, ℕ, ◌/◌, ◌<◌, ◌≡◌, ◌≢◌, ◌⊎◌}
use lib.IntN.{neg_ℤ, negsuc, pos, ℤ, ◌*ℤ◌}
use lib.Signed.{◌<ℤ◌}

cancel_some : (a b c : ℤ) → a ≢ pos 0 → a *ℤ b ≡ a *ℤ c → b ≡ c
cancel_some (pos zero) b c h e = absurd (h refl)
cancel_some (pos (suc n)) b c h e = mul_cancel {a = pos (suc n)} (omega (arith, ints)) e
cancel_some (negsuc n) b c h e = mul_cancel {a = pos (suc n)} (omega (arith, ints)) (turned b c e)
  where
    turned : (b c : ℤ) → negsuc n *ℤ b ≡ negsuc n *ℤ c → pos (suc n) *ℤ b ≡ pos (suc n) *ℤ c
    turned b c e =
        let m : negsuc n ≡ neg_ℤ (pos (suc n)) = refl in
        let f = simp ring at (rw m at e) in
        omega (arith, ints)

-- ---- the fraction scales the row
module _ (c : List Ratio) (w : Row) (st : Stands c w) (i : ℕ) (l : i < length w) (some : entry w i ≢ pos 0) (r : Ratio) (lowest : IsLowestTermsOf (quotient_of (ratio_at c i) (ratio_of (entry w i) (pos 1))) r) where
  within : i < length c
  within = let e = st.cols in omega arith

  den_some : (a d : ℤ) → pos 0 <ℤ d → a ≢ pos 0 → d *ℤ a ≢ pos 0
  den_some a d hd h e = h (mul_cancel hd (e ∙ (simp ring)))

  -- q num = p den
  same_scale : (n d a m p q : ℤ) → pos 0 <ℤ d → a ≢ pos 0 → n *ℤ (d *ℤ a) ≡ (m *ℤ pos 1) *ℤ r.den → p *ℤ (a *ℤ d) ≡ q *ℤ m → q *ℤ n ≡ p *ℤ r.den
  same_scale n d a m p q hd ha e f =
      cancel_some (d *ℤ a) (q *ℤ n) (p *ℤ r.den) (den_some a d hd ha)
      (let u = simp ring at (ap (λ z. q *ℤ z) e) in
      let v = simp ring at (ap (λ z. r.den *ℤ z) f) in
      simp ring (omega (arith, ints)))

  scaled : st.q *ℤ r.num ≡ st.p *ℤ r.den
  scaled = same_scale r.num (ratio_at c i).den (entry w i) (ratio_at c i).num st.p st.q (st.denominators i within) some lowest.same (st.same i within)

  at : (x d m p q n e : ℤ) → pos 0 <ℤ q → q *ℤ n ≡ p *ℤ e → p *ℤ (x *ℤ d) ≡ q *ℤ m → n *ℤ (x *ℤ d) ≡ e *ℤ m
  at x d m p q n e hq f g =
      mul_cancel hq
      (let u = simp ring at (ap (λ z. (x *ℤ d) *ℤ z) f) in
      let v = simp ring at (ap (λ z. e *ℤ z) g) in
      simp ring (omega (arith, ints)))

  pub is_scale : IsScaleOf c w r
  is_scale = record {
    num = pos_cancel st.q_positive (subst (λ (z : ℤ). pos 0 <ℤ z) (sym scaled) (mul_pos st.p_positive lowest.reduced.positive));
    den = lowest.reduced.positive;
    cols = st.cols;
    denominators = st.denominators;
    same = λ j k. at (entry w j) (ratio_at c j).den (ratio_at c j).num st.p st.q r.num r.den st.q_positive scaled (st.same j k);
  }

-- ---- the fraction is in the range: it is the divisor of the numerators over their common denominator
den_times_quotient : (m : ℕ) (d : ℤ) → pos 0 <ℤ d → unsigned_abs d ∣ m → pos (m / unsigned_abs d) *ℤ d ≡ pos m
den_times_quotient m (pos d) positive h = ap pos (div-mul_cancel d h)
den_times_quotient m (negsuc d) positive h = absurd (omega (arith, ints))

module _ (c : List Ratio) (w : Row) (primitive : IsPrimitiveRowOf c w) (st : Stands c w) (stays : HasPrimitiveRow c) (i : ℕ) (l : i < length w) (some : entry w i ≢ pos 0) where
  below : i < length c
  below = let e = st.cols in omega arith

  abbrev pub m : ℕ
  m = primitive.denominator

  abbrev pub f : Ratio
  f = ratio_at c i

  over : entry (numerators_over m c) i ≡ numerator_over m f
  over = get_or-map (numerator_over m) c i (record { num = pos 0; den = pos 1 }) (pos 0) below

  balanced : numerator_over m f *ℤ f.den ≡ f.num *ℤ pos m
  balanced = mul_assoc f.num (pos (m / unsigned_abs f.den)) f.den ∙ times_both f.num (den_times_quotient m f.den (st.denominators i below) ((primitive.least.multiples m).0 (dvd_refl m) i below))

  fits : (g : ℤ) → pos 0 <ℤ g → entry (numerators_over m c) i ≡ g *ℤ entry w i → IsTooWide (quotient_of f (ratio_of (entry w i) (pos 1))) → ⊥
  fits g hg e wide =
      let n : numerator_over m f ≡ g *ℤ entry w i = sym over ∙ e in
      let small : InRange (numerator_over m f) = (stays.numerators m primitive.least).stay i below in
      let some_m : pos 0 <ℤ pos m = above m (dividing g (entry w i) f.num f.den m hg some (st.denominators i below) (sym (ap (λ z. z *ℤ f.den) n) ∙ balanced)) in
      not_too_wide g (pos m) some_m (divisor_in_range g (entry w i) hg some (subst InRange n small)) (stays.denominators.stay (length c) m (omega arith) primitive.least)
      (wide_same (quotient_of f (ratio_of (entry w i) (pos 1))) (ratio_of g (pos m)) (λ z. absurd (omega (arith, ints)))
      (crossed f.num f.den (entry w i) g (pos m) (sym (ap (λ z. z *ℤ f.den) n) ∙ balanced)) wide)
    where
      crossed : (n d a g m : ℤ) → (g *ℤ a) *ℤ d ≡ n *ℤ m → (n *ℤ pos 1) *ℤ m ≡ g *ℤ (d *ℤ a)
      crossed n d a g m e = simp ring (let u = simp ring at e in omega (arith, ints))

      above : (k : ℕ) → ¬ (k ≡ 0) → pos 0 <ℤ pos k
      above zero h = absurd (h refl)
      above (suc k) h = omega (arith, ints)

      dividing : (g a n d : ℤ) (k : ℕ) → pos 0 <ℤ g → a ≢ pos 0 → pos 0 <ℤ d → (g *ℤ a) *ℤ d ≡ n *ℤ pos k → ¬ (k ≡ 0)
      dividing g a n d k hg ha hd e z =
          ha (mul_cancel hg (mul_cancel hd (let u : n *ℤ pos k ≡ pos 0 = ap (λ j. n *ℤ pos j) z ∙ (simp ring) in let v = simp ring at (e ∙ u) in simp ring v)))

      turned : (g : ℤ) (k : ℕ) → g *ℤ negsuc k ≡ pos (suc k) *ℤ neg_ℤ g
      turned g k = let e : negsuc k ≡ neg_ℤ (pos (suc k)) = refl in rw e (simp ring)

      opposite_in_range : (g : ℤ) → InRange (neg_ℤ g) → InRange g
      opposite_in_range (pos zero) h = h
      opposite_in_range (pos (suc k)) h = h
      opposite_in_range (negsuc k) h = h

      divisor_in_range : (g a : ℤ) → pos 0 <ℤ g → a ≢ pos 0 → InRange (g *ℤ a) → InRange g
      divisor_in_range g (pos zero) hg ha h = absurd (ha refl)
      divisor_in_range g (pos (suc k)) hg ha h = factor_in_range (g *ℤ pos (suc k)) (pos (suc k)) g (omega (arith, ints)) (simp ring) h
      divisor_in_range g (negsuc k) hg ha h = opposite_in_range g (factor_in_range (g *ℤ negsuc k) (pos (suc k)) (neg_ℤ g) (omega (arith, ints)) (turned g k) h)

  pub scale_fits : IsTooWide (quotient_of f (ratio_of (entry w i) (pos 1))) → ⊥
  scale_fits wide = elim primitive.primitive.divided [
    | inl none ↦ absurd (some (none.1 i))
    | inr d ↦ fits d.0 d.1 (d.2.at i ∙ entry-times d.0 w i) wide
  ]

  pub no_error : (e : NumError) → (e ≡ DivideByZero) ⊎ (e ≡ Wide) → (e ≡ DivideByZero → entry w i ≡ pos 0) → (e ≡ Wide → IsTooWide (quotient_of f (ratio_of (entry w i) (pos 1)))) → ⊥
  no_error e (inl z) none wide = some (none z)
  no_error e (inr h) none wide = scale_fits (wide h)

-- the zero row is scaled by 1
pub scale_of_zero : (c : List Ratio) (w : Row) → Stands c w → ((i : ℕ) → i < length w → entry w i ≡ pos 0) → IsScaleOf c w (ratio_of (pos 1) (pos 1))
scale_of_zero c w st none = record {
  num = omega (arith, ints);
  den = omega (arith, ints);
  cols = st.cols;
  denominators = st.denominators;
  same = λ i l. let z = none i (let e = st.cols in omega arith) in zero_both (entry w i) (ratio_at c i).den (ratio_at c i).num st.p st.q z st.q_positive (st.same i l);
}
  where
    zero_both : (x d m p q : ℤ) → x ≡ pos 0 → pos 0 <ℤ q → p *ℤ (x *ℤ d) ≡ q *ℤ m → pos 1 *ℤ (x *ℤ d) ≡ pos 1 *ℤ m
    zero_both x d m p q e hq f =
        let g : p *ℤ (x *ℤ d) ≡ pos 0 = ap (λ z. p *ℤ (z *ℤ d)) e ∙ (simp ring) in
        let h : m ≡ pos 0 = mul_cancel hq (sym f ∙ g ∙ (simp ring)) in
        rw (e, h) (simp ring)
