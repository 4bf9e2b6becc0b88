-- A row that is divided by its first entry: its fractions stay in the range, and it stands for the row.
use Rattle.pm_vector.proofs.Ring.{ring}
use Rattle.pm_vector.proofs.Signs.{mul_cancel, pos_cancel}
use Rattle.pm_vector.specs.Numbers.{InRange, InRangeRatio, IsReduced, Ratio}
use Rattle.pm_vector.specs.Rows.{Row, Stands, entry, ratio_at}
use Rattle.pm_types.specs.OverFirst.{IsOverFirst}
use Rattle.pm_fraction.proofs.Bezout.{divides_product, quotient_of}
use Rattle.pm_fraction.proofs.Quotients.{whole_reduced}
use Rattle.pm_fraction.proofs.Reduced.{bezout_of, same_reduced}
use Rattle.pm_fraction.specs.declared.error.NumError.TheVariants.{Wide, ZeroDenominator}
use Rattle.pm_fraction.specs.declared.error.NumError.{NumError}
use Rattle.pm_fraction.specs.Fractions.{IsLowestTermsOf, IsTooWide, ratio_of}
use Rattle.pm_fraction.specs.FractionRows.{IsLeastDenominator, numerator_over}
use Rattle.pm_fraction.specs.Matrices.{IsFraction}
use Rattle.pm_types.specs.Forms.{HasPrimitiveRow}
use Rattle.pm_types.specs.Views.{over_one}
use Rattle.std.proofs.Common.{ap, arith, below_more, inl, inr, refl, subst, suc, sym, zero, ◌∙◌}
use Rattle.std.proofs.lemmas.Int.{ints, unsigned_abs-mul}
use Rattle.std.proofs.lemmas.List.{get_or_append_left, get_or_default, get_or_push, length_push}
use Rattle.std.proofs.lemmas.Nat.Gcd.{dvd_refl}
use Rattle.std.specs.Int.{◌∣◌}
use Rattle.std.specs.List.{All}
use Rattle.std.specs.Prelude.{List, [], length, unsigned_abs, ℕ, ◌*◌, ◌+◌, ◌/◌, ◌++◌, ◌<◌, ◌^◌, ◌∷◌, ◌≡◌, ◌≤◌, ◌⊎◌}
use lib.IntN.{negsuc, pos, ℤ, ◌*ℤ◌, ◌+ℤ◌}
use lib.Signed.{◌<ℤ◌, ◌≤ℤ◌}
use native.Mathlib.Nat.{le_of_dvd, mul-div_cancel'}

-- ---- x / d in lowest terms: both parts of r times one positive number
-- d divides e, where n / d = m / e
multiple : (n d m e x y : ℤ) → n *ℤ x +ℤ d *ℤ y ≡ pos 1 → n *ℤ e ≡ m *ℤ d → e ≡ d *ℤ (m *ℤ x +ℤ e *ℤ y)
multiple n d m e x y w s =
    let scaled = ap (λ (z : ℤ). e *ℤ z) w in
    let other = ap (λ (z : ℤ). x *ℤ z) s in
    let a = simp ring at scaled in
    let b = simp ring at other in
    simp ring (omega (arith, ints))

pub record AreTimes (x d n e : ℤ) : Type 0 where
  pub g : ℤ
  pub positive : pos 0 <ℤ g
  pub first : x ≡ g *ℤ n
  pub second : d ≡ g *ℤ e

turned : (x d n e k : ℤ) → pos 0 <ℤ e → d ≡ e *ℤ k → n *ℤ d ≡ x *ℤ e → x ≡ k *ℤ n
turned x d n e k he f s = mul_cancel he (let t : n *ℤ (e *ℤ k) ≡ x *ℤ e = subst (λ (z : ℤ). n *ℤ z ≡ x *ℤ e) f s in simp ring (omega (arith, ints)))

pub lowest_parts : (x d : ℤ) (r : Ratio) → pos 0 <ℤ d → IsLowestTermsOf (ratio_of x d) r → AreTimes x d r.num r.den
lowest_parts x d r hd h =
    let b = bezout_of r h.reduced in
    let k : ℤ = x *ℤ b.x +ℤ d *ℤ b.y in
    let e : d ≡ r.den *ℤ k = multiple r.num r.den x d b.x b.y b.sum h.same in
    record {
      g = k;
      positive = pos_cancel h.reduced.positive (subst (λ (z : ℤ). pos 0 <ℤ z) e hd);
      first = turned x d r.num r.den k h.reduced.positive e h.same;
      second = e ∙ (simp ring);
    }

-- ---- parts of numbers in the range
factor_small : (a b n : ℕ) → 1 ≤ a → a * b < n → b < n
factor_small zero b n some h = absurd (omega arith)
factor_small (suc a) b n some h = let e : suc a * b ≡ b + a * b = omega arith in omega arith

some_size : (g : ℤ) → pos 0 <ℤ g → 1 ≤ unsigned_abs g
some_size (pos n) h = omega (arith, ints)
some_size (negsuc n) h = absurd h.lt

pub factor_in_range : (x g n : ℤ) → pos 0 <ℤ g → x ≡ g *ℤ n → InRange x → InRange n
factor_in_range x g n hg e h = factor_small (unsigned_abs g) (unsigned_abs n) (2 ^ 127) (some_size g hg) (subst (λ k. k < 2 ^ 127) (unsigned_abs-mul g n) (subst InRange e h))

pub lowest_in_range : (x d : ℤ) (r : Ratio) → pos 0 <ℤ d → InRange x → InRange d → IsLowestTermsOf (ratio_of x d) r → InRangeRatio r
lowest_in_range x d r hd hx hr h =
    let t = lowest_parts x d r hd h in
    (factor_in_range x t.g r.num t.positive t.first hx, factor_in_range d t.g r.den t.positive t.second hr)

pub not_too_wide : (x d : ℤ) → pos 0 <ℤ d → InRange x → InRange d → IsTooWide (ratio_of x d) → ⊥
not_too_wide x d hd hx hr w = w.leaves (lowest_in_range x d w.lowest hd hx hr w.is_lowest)

-- ---- the row
-- a nonzero number of g * num, where g * den = m * q and den divides m
scaled : (x num den g k q : ℤ) → pos 0 <ℤ den → g *ℤ den ≡ (den *ℤ k) *ℤ q → x ≡ g *ℤ num → x ≡ q *ℤ (num *ℤ k)
scaled x num den g k q hd e f = let c : g ≡ k *ℤ q = mul_cancel hd (let u = simp ring at e in omega (arith, ints)) in f ∙ ap (λ z. z *ℤ num) c ∙ (simp ring)

positive_other : (d m q : ℤ) → pos 0 <ℤ d → pos 0 ≤ℤ m → d ≡ m *ℤ q → pos 0 <ℤ q
positive_other d (pos zero) q hd hm e = absurd (let u = simp ring at e in omega (arith, ints))
positive_other d (pos (suc m)) q hd hm e = pos_cancel {a = pos (suc m)} (omega (arith, ints)) (subst (λ (z : ℤ). pos 0 <ℤ z) e hd)
positive_other d (negsuc m) q hd hm e = absurd hm.le

pos_abs : (d : ℤ) → pos 0 <ℤ d → pos (unsigned_abs d) ≡ d
pos_abs (pos n) h = refl
pos_abs (negsuc n) h = absurd h.lt

module _ (x : Row) (r : List Ratio) (over : IsOverFirst x r) (some : 0 < length x) (first : pos 0 <ℤ entry x 0) (range : All InRange x) where
  in_range_at : (i : ℕ) → i < length x → InRange (entry x i)
  in_range_at i l = range i (pos 0) l

  first_in_range : InRange (entry x 0)
  first_in_range = in_range_at 0 some

  within : (i : ℕ) → i < length r → i < length x
  within i l = let c = over.cols in omega arith

  parts_at : (i : ℕ) → i < length r → AreTimes (entry x i) (entry x 0) (ratio_at r i).num (ratio_at r i).den
  parts_at i l = lowest_parts (entry x i) (entry x 0) (ratio_at r i) first (over.each i (within i l))

  reduced_at : (i : ℕ) → i < length r → IsReduced (ratio_at r i)
  reduced_at i l = (over.each i (within i l)).reduced

  fraction_at : (i : ℕ) → i < length r → IsFraction (ratio_at r i)
  fraction_at i l = record { reduced = reduced_at i l; in_range = lowest_in_range (entry x i) (entry x 0) (ratio_at r i) first (in_range_at i (within i l)) first_in_range (over.each i (within i l)) }

  pub over_fractions : All IsFraction r
  over_fractions i d l = rw (get_or_default r i d (record { num = pos 0; den = pos 1 }) l) (fraction_at i l)

  den_divides : (i : ℕ) → i < length r → unsigned_abs (ratio_at r i).den ∣ unsigned_abs (entry x 0)
  den_divides i l =
      let t = parts_at i l in
      divides_product (unsigned_abs (ratio_at r i).den) (entry x 0) t.g
      (t.second ∙ ap (λ z. t.g *ℤ z) (sym (pos_abs (ratio_at r i).den (reduced_at i l).positive)) ∙ (simp ring))

  least_divides : (k m : ℕ) → k ≤ length r → IsLeastDenominator r k m → m ∣ unsigned_abs (entry x 0)
  least_divides k m l least = (least.multiples (unsigned_abs (entry x 0))).1 (λ i below. den_divides i (omega arith))

  denominator_small : (k m : ℕ) → k ≤ length r → IsLeastDenominator r k m → InRange (pos m)
  denominator_small k m l least =
      let a = some_size (entry x 0) first in
      let le = le_of_dvd {m = m} {n = unsigned_abs (entry x 0)} (omega arith) (least_divides k m l least) in
      let s = first_in_range in
      omega arith

  numerator_small : (m i : ℕ) → IsLeastDenominator r (length r) m → i < length r → InRange (numerator_over m (ratio_at r i))
  numerator_small m i least l =
      let t = parts_at i l in
      let den : ℤ = (ratio_at r i).den in
      let (q, e) = quotient_of m (entry x 0) (least_divides (length r) m (omega arith) least) in
      let divides : unsigned_abs den ∣ m = (least.multiples m).0 (dvd_refl m) i l in
      let k : ℕ = m / unsigned_abs den in
      let whole : pos m ≡ den *ℤ pos k = sym (ap pos (mul-div_cancel' (unsigned_abs den) divides)) ∙ ap (λ z. z *ℤ pos k) (pos_abs den (reduced_at i l).positive) in
      let both : t.g *ℤ den ≡ (den *ℤ pos k) *ℤ q = sym t.second ∙ e ∙ ap (λ z. z *ℤ q) whole in
      factor_in_range (entry x i) q ((ratio_at r i).num *ℤ pos k) (positive_other (entry x 0) (pos m) q first (omega (arith, ints)) e)
      (scaled (entry x i) (ratio_at r i).num den t.g (pos k) q (reduced_at i l).positive both t.first) (in_range_at i (within i l))

  pub over_primitive : HasPrimitiveRow r
  over_primitive = record {
    denominators = record { stay = λ k m l least. denominator_small k m l least };
    numerators = λ m least. record { stay = λ i l. numerator_small m i least l };
  }

  balanced : (n e a d : ℤ) → n *ℤ d ≡ a *ℤ e → pos 1 *ℤ (a *ℤ e) ≡ d *ℤ n
  balanced n e a d h = simp ring (let u = simp ring at h in omega (arith, ints))

  pub over_stands : Stands r x
  over_stands = record {
    p = pos 1;
    q = entry x 0;
    p_positive = omega (arith, ints);
    q_positive = first;
    cols = sym over.cols;
    denominators = λ i l. (reduced_at i l).positive;
    same = λ i l. balanced (ratio_at r i).num (ratio_at r i).den (entry x i) (entry x 0) (over.each i (within i l)).same;
  }

  one_over : (n e d : ℤ) → pos 0 <ℤ d → n *ℤ d ≡ d *ℤ e → n *ℤ pos 1 ≡ pos 1 *ℤ e
  one_over n e d hd h = let c : n ≡ e = mul_cancel hd (simp ring (let u = simp ring at h in omega (arith, ints))) in simp ring (omega (arith, ints))

  pub over_one_first : ratio_at r 0 ≡ over_one (pos 1)
  over_one_first =
      let h = over.each 0 some in
      same_reduced (ratio_at r 0) (over_one (pos 1)) h.reduced (whole_reduced (pos 1)) (one_over (ratio_at r 0).num (ratio_at r 0).den (entry x 0) first h.same)

-- ---- row by row
-- where both parts are in the range and the divisor is positive, there is a fraction
pub makes_fraction : (n d : ℤ) (e : NumError) → pos 0 <ℤ d → InRange n → InRange d → (e ≡ ZeroDenominator) ⊎ (e ≡ Wide) → (e ≡ ZeroDenominator → d ≡ pos 0) → (e ≡ Wide → IsTooWide (ratio_of n d)) → ⊥
makes_fraction n d e hd hn hr (inl z) none wide = let f = none z in omega (arith, ints)
makes_fraction n d e hd hn hr (inr w) none wide = not_too_wide n d hd hn hr (wide w)

-- one entry more
pub over_more : (x : Row) (d : ℤ) (r more : List Ratio) (k : ℕ) (q : Ratio) → more ≡ r ++ q ∷ [] → length r ≡ k → ((i : ℕ) → i < k → IsLowestTermsOf (ratio_of (entry x i) d) (ratio_at r i)) → IsLowestTermsOf (ratio_of (entry x k) d) q
    → (length more ≡ k + 1) × ((i : ℕ) → i < k + 1 → IsLowestTermsOf (ratio_of (entry x i) d) (ratio_at more i))
over_more x d r more k q is e h last = (
  ap length is ∙ length_push r q ∙ ap (λ (j : ℕ). j + 1) e,
  below_more (λ (i : ℕ). IsLowestTermsOf (ratio_of (entry x i) d) (ratio_at more i)) k
      (λ i l. subst (λ s. IsLowestTermsOf (ratio_of (entry x i) d) s) (sym (ap (λ (s : List Ratio). ratio_at s i) is ∙ get_or_append_left r (q ∷ []) (record { num = pos 0; den = pos 1 }) i (omega arith))) (h i l))
      (subst (λ s. IsLowestTermsOf (ratio_of (entry x k) d) s) (sym (ap (λ (s : List Ratio). ratio_at s k) is ∙ get_or_push r q (record { num = pos 0; den = pos 1 }) k e)) last),
)
