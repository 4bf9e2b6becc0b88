-- Opposites, inverses and quotients of whole numbers in lowest terms.
use Rattle.pm_vector.proofs.Ring.{neg-mul, ring}
use Rattle.pm_vector.proofs.Signs.{mul_cancel}
use Rattle.pm_vector.specs.Numbers.{IsReduced, Ratio, SameRatio}
use Rattle.pm_fraction.proofs.Bezout.{Bezout, cancel, from_gcd, swap}
use Rattle.pm_fraction.proofs.Products.{not_zero}
use Rattle.pm_fraction.proofs.Reduced.{bezout_of, reduced_from}
use Rattle.pm_fraction.specs.Arithmetic.{inverse_of, product_of, quotient_of}
use Rattle.pm_fraction.specs.Fractions.{IsLowestTermsOf, IsTooWide, is_quotient_negative, ratio_of, signed}
use Rattle.std.proofs.Common.{Bool, ap, arith, false, refl, subst, sym, true, ◌∙◌}
use Rattle.std.proofs.lemmas.Int.{ints}
use Rattle.std.specs.Int.{IsGcd}
use Rattle.std.specs.Prelude.{if◌then◌else◌, int_lt, suc, unsigned_abs, zero, ℕ, ◌*◌, ◌/◌, ◌<◌, ◌≡◌, ◌≢◌}
use lib.IntN.{neg_ℤ, negsuc, pos, ℤ, ◌*ℤ◌}
use lib.Signed.{◌<ℤ◌, ◌≤ℤ◌}
use native.Mathlib.Nat.{mul-div_cancel'}

-- ---- opposites and inverses
negated : (a b : ℤ) → Bezout a b (pos 1) → Bezout (neg_ℤ a) b (pos 1)
negated a b w = record { x = neg_ℤ w.x; y = w.y; sum = let s = w.sum in simp ring (omega (arith, ints)) }

pub reduced_opposite : (n d : ℤ) → IsReduced (ratio_of n d) → IsReduced (ratio_of (neg_ℤ n) d)
reduced_opposite n d h = reduced_from (neg_ℤ n) d h.positive (negated n d (bezout_of (ratio_of n d) h))

pub reduced_inverse : (n d : ℤ) → IsReduced (ratio_of n d) → pos 0 ≤ℤ n → n ≢ pos 0 → IsReduced (ratio_of d n)
reduced_inverse n d h k e = reduced_from d n (positive n k e) (swap (bezout_of (ratio_of n d) h))
  where
    positive : (n : ℤ) → pos 0 ≤ℤ n → n ≢ pos 0 → pos 0 <ℤ n
    positive (pos zero) k e = absurd (e refl)
    positive (pos (suc n)) k e = omega (arith, ints)
    positive (negsuc n) k e = absurd k.le

pub reduced_negative_inverse : (n d : ℤ) → IsReduced (ratio_of n d) → n <ℤ pos 0 → IsReduced (ratio_of (neg_ℤ d) (neg_ℤ n))
reduced_negative_inverse n d h k =
    reduced_from (neg_ℤ d) (neg_ℤ n) (omega (arith, ints)) (negated d (neg_ℤ n) (swap (negated n d (bezout_of (ratio_of n d) h))))

pub whole_reduced : (n : ℤ) → IsReduced (ratio_of n (pos 1))
whole_reduced n = reduced_from n (pos 1) (omega (arith, ints)) (record { x = pos 0; y = pos 1; sum = simp ring (omega (arith, ints)) })

-- ---- one number under two names
cancel_nonzero : (a b c : ℤ) → a ≢ pos 0 → a *ℤ b ≡ a *ℤ c → b ≡ c
cancel_nonzero (pos zero) b c h e = absurd (h refl)
cancel_nonzero (pos (suc n)) b c h e = mul_cancel {a = pos (suc n)} (omega (arith, ints)) e
cancel_nonzero (negsuc n) b c h e =
    mul_cancel {a = pos (suc n)} (omega (arith, ints)) (same_opposites (sym (neg-mul (pos (suc n)) b) ∙ e ∙ neg-mul (pos (suc n)) c))
  where
    same_opposites : {x y : ℤ} → neg_ℤ x ≡ neg_ℤ y → x ≡ y
    same_opposites {x} {y} f = omega (arith, ints)

pub same_through : (n d m e r s : ℤ) → d ≢ pos 0 → r *ℤ d ≡ n *ℤ s → n *ℤ e ≡ m *ℤ d → r *ℤ e ≡ m *ℤ s
same_through n d m e r s h f g =
    let a = simp ring at (ap (λ (z : ℤ). e *ℤ z) f) in
    let b = simp ring at (ap (λ (z : ℤ). s *ℤ z) g) in
    cancel_nonzero d (r *ℤ e) (m *ℤ s) h (simp ring (omega (arith, ints)))

pub lowest_same : (x y r : Ratio) → y.den ≢ pos 0 → SameRatio x y → IsLowestTermsOf x r → IsLowestTermsOf y r
lowest_same x y r e s l = record {
  divisible = e;
  reduced = l.reduced;
  same = same_through x.num x.den y.num y.den r.num r.den l.divisible l.same s;
}

pub wide_same : (x y : Ratio) → y.den ≢ pos 0 → SameRatio x y → IsTooWide x → IsTooWide y
wide_same x y e s w = record { lowest = w.lowest; is_lowest = lowest_same x y w.lowest e s w.is_lowest; leaves = w.leaves }

-- ---- a quotient by its sign and its sizes
pub abs-signed : (b : Bool) (n : ℕ) → unsigned_abs (signed b n) ≡ n
abs-signed true zero = refl
abs-signed true (suc n) = refl
abs-signed false n = refl

signed_factor : (b : Bool) (g n : ℕ) → signed b (g * n) ≡ pos g *ℤ signed b n
signed_factor true g n = let e : pos (g * n) ≡ pos g *ℤ pos n = refl in simp ring (omega (arith, ints))
signed_factor false g n = refl

pub sizes_lowest : (b : Bool) (top bottom g : ℕ) → 0 < bottom → 0 < g → IsGcd top bottom g
    → IsLowestTermsOf (ratio_of (signed b top) (pos bottom)) (ratio_of (signed b (top / g)) (pos (bottom / g)))
sizes_lowest b top bottom g h k w =
    let top_is : signed b top ≡ pos g *ℤ signed b (top / g) = ap (signed b) (sym (mul-div_cancel' g w.0)) ∙ signed_factor b g (top / g) in
    let bottom_is : pos bottom ≡ pos g *ℤ pos (bottom / g) = ap pos (sym (mul-div_cancel' g w.1)) in
    let some : pos 0 <ℤ pos (bottom / g) = let e = mul-div_cancel' g w.1 in by_cases (bottom / g) e in
    let abs_is : IsGcd (unsigned_abs (signed b top)) bottom g = subst (λ (n : ℕ). IsGcd n bottom g) (sym (abs-signed b top)) w in
    record {
      divisible = not_zero (pos bottom) (omega (arith, ints));
      reduced = reduced_from (signed b (top / g)) (pos (bottom / g)) some (cancel (pos g) (signed b (top / g)) (pos (bottom / g)) (signed b top) (pos bottom) (omega (arith, ints)) top_is bottom_is (from_gcd (signed b top) (pos bottom) g abs_is));
      same = crossed (signed b top) (pos bottom) (pos g) (signed b (top / g)) (pos (bottom / g)) top_is bottom_is;
    }
  where
    by_cases : (m : ℕ) → g * m ≡ bottom → pos 0 <ℤ pos m
    by_cases zero e = absurd (omega arith)
    by_cases (suc m) e = omega (arith, ints)

    crossed : (n d g u v : ℤ) → n ≡ g *ℤ u → d ≡ g *ℤ v → u *ℤ d ≡ n *ℤ v
    crossed n d g u v e f = rw (e, f) (simp ring)

-- n / d, by its sign and its sizes
nat_not_below : (m : ℕ) → int_lt (pos m) (pos 0) ≡ false
nat_not_below m = grind (arith, ints)

suc_above : (m : ℕ) → int_lt (pos 0) (pos (suc m)) ≡ true
suc_above m = grind (arith, ints)

pub sizes_same : (n d : ℤ) → SameRatio (ratio_of (signed (is_quotient_negative n d) (unsigned_abs n)) (pos (unsigned_abs d))) (ratio_of n d)
sizes_same (pos n) (pos m) = rw (nat_not_below m, nat_not_below n) refl
sizes_same (negsuc n) (pos m) = rw (nat_not_below m) refl
sizes_same (pos zero) (negsuc m) = simp ring
sizes_same (pos (suc n)) (negsuc m) = rw (suc_above n) refl
sizes_same (negsuc n) (negsuc m) = refl

-- ---- p / q is p times the inverse of q
pub quotient_same : (p q : Ratio) → SameRatio (product_of p (inverse_of q)) (quotient_of p q)
quotient_same p q = by_sign (int_lt q.num (pos 0)) p.num p.den q.num q.den
  where
    swapped : (n d m e : ℤ) → (n *ℤ neg_ℤ e) *ℤ (d *ℤ m) ≡ (n *ℤ e) *ℤ (d *ℤ neg_ℤ m)
    swapped n d m e = simp ring

    by_sign : (b : Bool) (n d m e : ℤ) → SameRatio (product_of (ratio_of n d) (if b then ratio_of (neg_ℤ e) (neg_ℤ m) else ratio_of e m)) (quotient_of (ratio_of n d) (ratio_of m e))
    by_sign true n d m e = swapped n d m e
    by_sign false n d m e = refl

-- the quotient has a divisor, where the product with the inverse has one and q is not 0
pub quotient_divisible : (p q : Ratio) → (product_of p (inverse_of q)).den ≢ pos 0 → q.num ≢ pos 0 → (quotient_of p q).den ≢ pos 0
quotient_divisible p q h k e =
    let none : p.den ≡ pos 0 = cancel_nonzero q.num p.den (pos 0) k (simp ring (let f = e in omega (arith, ints))) in
    h (rw none (simp ring))
