-- Common divisors by Bézout's equation a x + b y = g, which products, sums and quotients keep.
use Rattle.pm_vector.proofs.Ring.{ring}
use Rattle.pm_vector.proofs.Signs.{mul_cancel}
use Rattle.std.proofs.Common.{ap, arith, refl, subst, sym, ◌∙◌}
use Rattle.std.proofs.lemmas.Int.{ints, unsigned_abs-mul}
use Rattle.std.proofs.lemmas.Nat.Gcd.{IsGcd-from_mod, IsGcd-from_zero, same_from_IsGcd}
use Rattle.std.specs.Int.{IsGcd, ◌∣◌}
use Rattle.std.specs.Prelude.{suc, unsigned_abs, zero, ℕ, ◌%◌, ◌/◌, ◌≡◌, ◌≤◌}
use lib.IntN.{neg_ℤ, negsuc, pos, ℤ, ◌*ℤ◌, ◌+ℤ◌, ◌-ℤ◌}
use lib.Signed.{◌<ℤ◌}
use native.Mathlib.Nat.{dvd-mul_right, mul-div_cancel', one-dvd}

pub record Bezout (a b g : ℤ) : Type 0 where
  pub x : ℤ
  pub y : ℤ
  pub sum : a *ℤ x +ℤ b *ℤ y ≡ g

-- ---- Euclid's algorithm gives one
euclid_step : (a b q r g : ℤ) → a ≡ b *ℤ q +ℤ r → Bezout b r g → Bezout a b g
euclid_step a b q r g e w = record {
  x = w.y;
  y = w.x -ℤ q *ℤ w.y;
  sum = let s = w.sum in rw e (simp ring (omega (arith, ints)));
}

bezout_with_zero : (a b : ℤ) → Bezout a b a
bezout_with_zero a b = record { x = pos 1; y = pos 0; sum = simp ring (omega (arith, ints)) }

division : (a b : ℕ) → pos a ≡ pos b *ℤ pos (a / b) +ℤ pos (a % b)
division a b = omega (arith, ints)

pub euclid : (f a b : ℕ) → b ≤ f → (g : ℕ) × IsGcd a b g × Bezout (pos a) (pos b) (pos g)
euclid zero a b h = (a, IsGcd-from_zero a b (omega arith), bezout_with_zero (pos a) (pos b))
euclid (suc f) a zero h = (a, IsGcd-from_zero a 0 refl, bezout_with_zero (pos a) (pos 0))
euclid (suc f) a (suc b) h =
    let again = euclid f (suc b) (a % suc b) (omega arith) in
    (again.0, IsGcd-from_mod a (suc b) again.0 again.1, euclid_step (pos a) (pos (suc b)) (pos (a / suc b)) (pos (a % suc b)) (pos again.0) (division a (suc b)) again.2)

pub swap : {a b g : ℤ} → Bezout a b g → Bezout b a g
swap w = record { x = w.y; y = w.x; sum = let s = w.sum in omega (arith, ints) }

signed : (a b g : ℤ) → Bezout (pos (unsigned_abs a)) b g → Bezout a b g
signed (pos a) b g w = w
signed (negsuc a) b g w = record { x = neg_ℤ w.x; y = w.y; sum = let s = w.sum in simp ring (omega (arith, ints)) }

pub from_gcd : (a b : ℤ) (g : ℕ) → IsGcd (unsigned_abs a) (unsigned_abs b) g → Bezout a b (pos g)
from_gcd a b g h =
    let w = euclid (unsigned_abs b) (unsigned_abs a) (unsigned_abs b) (omega arith) in
    let e : pos w.0 ≡ pos g = ap pos (same_from_IsGcd (unsigned_abs a) (unsigned_abs b) w.0 g w.1 h) in
    signed a b (pos g) (swap (signed b (pos (unsigned_abs a)) (pos g) (swap (subst (λ (z : ℤ). Bezout (pos (unsigned_abs a)) (pos (unsigned_abs b)) z) e w.2))))

-- ---- a divisor as a factor
pub quotient_of : (d : ℕ) (a : ℤ) → d ∣ unsigned_abs a → (k : ℤ) × (a ≡ pos d *ℤ k)
quotient_of d (pos n) h = (pos (n / d), ap pos (sym (mul-div_cancel' d h)))
quotient_of d (negsuc n) h =
    (neg_ℤ (pos (suc n / d)), (let e : pos d *ℤ pos (suc n / d) ≡ pos (suc n) = ap pos (mul-div_cancel' d h) in simp ring (omega (arith, ints))))

pub divides_product : (d : ℕ) (a k : ℤ) → a ≡ pos d *ℤ k → d ∣ unsigned_abs a
divides_product d a k e =
    subst (λ (n : ℕ). d ∣ n) (sym (ap unsigned_abs e ∙ unsigned_abs-mul (pos d) k)) (dvd-mul_right d (unsigned_abs k))

factored : (d a b x y k m : ℤ) → a ≡ d *ℤ k → b ≡ d *ℤ m → a *ℤ x +ℤ b *ℤ y ≡ d *ℤ (k *ℤ x +ℤ m *ℤ y)
factored d a b x y k m e f = rw (e, f) (simp ring)

divides_bezout : (a b : ℤ) (g d : ℕ) → Bezout a b (pos g) → d ∣ unsigned_abs a → d ∣ unsigned_abs b → d ∣ g
divides_bezout a b g d w h k =
    let u = quotient_of d a h in
    let v = quotient_of d b k in
    divides_product d (pos g) (u.0 *ℤ w.x +ℤ v.0 *ℤ w.y) (sym w.sum ∙ factored (pos d) a b w.x w.y u.0 v.0 u.1 v.1)

pub coprime : (a b : ℤ) → Bezout a b (pos 1) → IsGcd (unsigned_abs a) (unsigned_abs b) 1
coprime a b w = (one-dvd (unsigned_abs a), one-dvd (unsigned_abs b), λ d h k. divides_bezout a b 1 d w h k)

-- ---- what keeps it
pub divide : (g h u v a b : ℤ) → a ≡ g *ℤ u → b ≡ h *ℤ v → Bezout a b (pos 1) → Bezout u v (pos 1)
divide g h u v a b e f w = record {
  x = g *ℤ w.x;
  y = h *ℤ w.y;
  sum = let s = simp ring at (rw (e, f) at w.sum) in simp ring (omega (arith, ints));
}

pub cancel : (g u v a b : ℤ) → pos 0 <ℤ g → a ≡ g *ℤ u → b ≡ g *ℤ v → Bezout a b g → Bezout u v (pos 1)
cancel g u v a b h e f w = record {
  x = w.x;
  y = w.y;
  sum = mul_cancel h (sym (factored g a b w.x w.y u v e f) ∙ w.sum ∙ (simp ring));
}

product_sum : (t a b x y u v : ℤ) → t *ℤ x +ℤ a *ℤ y ≡ pos 1 → t *ℤ u +ℤ b *ℤ v ≡ pos 1
    → t *ℤ (x *ℤ (t *ℤ u +ℤ b *ℤ v) +ℤ a *ℤ y *ℤ u) +ℤ (a *ℤ b) *ℤ (y *ℤ v) ≡ pos 1
product_sum t a b x y u v e f =
    let both : (t *ℤ x +ℤ a *ℤ y) *ℤ (t *ℤ u +ℤ b *ℤ v) ≡ pos 1 = rw (e, f) refl in
    let s = simp ring at both in
    simp ring (omega (arith, ints))

pub product : {t a b : ℤ} → Bezout t a (pos 1) → Bezout t b (pos 1) → Bezout t (a *ℤ b) (pos 1)
product {t} {a} {b} w k = record {
  x = w.x *ℤ (t *ℤ k.x +ℤ b *ℤ k.y) +ℤ a *ℤ w.y *ℤ k.x;
  y = w.y *ℤ k.y;
  sum = product_sum t a b w.x w.y k.x k.y w.sum k.sum;
}

pub add_multiple : (t a m : ℤ) → Bezout t a (pos 1) → Bezout (t +ℤ m *ℤ a) a (pos 1)
add_multiple t a m w = record {
  x = w.x;
  y = w.y -ℤ m *ℤ w.x;
  sum = let s = w.sum in simp ring (omega (arith, ints));
}
