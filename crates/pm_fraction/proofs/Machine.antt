-- Products and exact quotients of numbers of 128 bits, as the code computes them.
use Rattle.pm_vector.proofs.Ring.{ring}
use Rattle.pm_vector.specs.Numbers.{InRange}
use Rattle.std.proofs.Common.{ap, arith, refl, sym}
use Rattle.std.proofs.lemmas.Int.{fits_signed_from_abs, fits_signed_mul, ints, quot_fits, to_z-of_z, unsigned_abs-mul}
use Rattle.std.specs.Int.{IsGcd, cast_signed, cast_unsigned, w128, ◌∣◌}
use Rattle.std.specs.Prelude.{FitsSigned, int_div, suc, unsigned_abs, ℕ, ◌*◌, ◌/◌, ◌<◌, ◌^◌, ◌≡◌}
use lib.IntN.{negsuc, pos, ℤ, ◌*ℤ◌}
use lib.Signed.{◌<ℤ◌}
use native.Mathlib.Nat.{le_of_dvd, mul-div_cancel', pos_of_dvd_of_pos}

pub small_fits : (a b : ℤ) → unsigned_abs a < 2 ^ 63 → unsigned_abs b < 2 ^ 63 → FitsSigned w128 (a *ℤ b)
small_fits a b h k = fits_signed_mul w128 a b (2 ^ 63) (2 ^ 63) (omega arith) (omega arith) (omega arith)

small_product : (m n : ℕ) → m < 2 ^ 63 → n < 2 ^ 63 → m * n < 2 ^ 127
small_product m n h k = grind arith

pub small_in_range : (a b : ℤ) → unsigned_abs a < 2 ^ 63 → unsigned_abs b < 2 ^ 63 → InRange (a *ℤ b)
small_in_range a b h k = rw (unsigned_abs-mul a b) (small_product (unsigned_abs a) (unsigned_abs b) h k)

-- a number in the range is its own code
pub decoded : (x z : ℤ) → x ≡ z → InRange z → cast_signed w128 (cast_unsigned w128 x) ≡ z
decoded x z e h = rw e (to_z-of_z w128 z (fits_signed_from_abs w128 z h))

pub decoded_product : (x y a b : ℤ) → cast_signed w128 (cast_unsigned w128 x) ≡ a → cast_signed w128 (cast_unsigned w128 y) ≡ b → InRange (a *ℤ b)
    → cast_signed w128 (cast_unsigned w128 (cast_signed w128 (cast_unsigned w128 x) *ℤ cast_signed w128 (cast_unsigned w128 y))) ≡ a *ℤ b
decoded_product x y a b e f h = rw (e, f) (decoded (a *ℤ b) (a *ℤ b) refl h)

pub decoded_quotient : (x y n g : ℤ) → cast_signed w128 (cast_unsigned w128 x) ≡ n → cast_signed w128 (cast_unsigned w128 y) ≡ g → InRange n → pos 0 <ℤ g
    → cast_signed w128 (cast_unsigned w128 (int_div (cast_signed w128 (cast_unsigned w128 x)) (cast_signed w128 (cast_unsigned w128 y)))) ≡ int_div n g
decoded_quotient x y n g e f h k =
    rw (e, f) (to_z-of_z w128 (int_div n g) (quot_fits w128 n g (fits_signed_from_abs w128 n h) k))

pub exact_quotient : (n g : ℤ) → pos 0 <ℤ g → unsigned_abs g ∣ unsigned_abs n → n ≡ g *ℤ int_div n g
exact_quotient (pos n) (pos g) h d = ap pos (sym (mul-div_cancel' g d))
exact_quotient (negsuc n) (pos g) h d =
    let e : pos g *ℤ pos (suc n / g) ≡ pos (suc n) = ap pos (mul-div_cancel' g d) in
    simp ring (omega (arith, ints))
exact_quotient n (negsuc g) h d = absurd h.lt

-- a divisor of a positive number
pub gcd_positive : (a b : ℤ) (g : ℕ) → pos 0 <ℤ b → IsGcd (unsigned_abs a) (unsigned_abs b) g → 0 < g
gcd_positive a (pos n) g h w = pos_of_dvd_of_pos w.1 (omega (arith, ints))
gcd_positive a (negsuc n) g h w = absurd h.lt

pub gcd_in_range : (a b : ℤ) (g : ℕ) → pos 0 <ℤ b → InRange b → IsGcd (unsigned_abs a) (unsigned_abs b) g → g < 2 ^ 127
gcd_in_range a (pos n) g h k w = let le = le_of_dvd {m = g} {n = n} (omega (arith, ints)) w.1 in omega arith
gcd_in_range a (negsuc n) g h k w = absurd h.lt
