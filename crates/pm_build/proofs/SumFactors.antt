-- The factors of two rows: the quotients of their first entries by the greatest common divisor of these.
use Rattle.pm_vector.specs.Numbers.{InRange}
use Rattle.std.proofs.Common.{ap, arith, sym, to_z, zero}
use Rattle.std.proofs.Math.Nat.{div-mul_cancel, eq-zero_of_zero-dvd}
use Rattle.std.proofs.lemmas.Int.{ints, to_z_pos}
use Rattle.std.specs.Int.{w128, ◌∣◌}
use Rattle.std.specs.Prelude.{suc, unsigned_abs, ℕ, ◌*◌, ◌+◌, ◌/◌, ◌<◌, ◌^◌, ◌≡◌, ◌≤◌}
use lib.IntN.{negsuc, pos, ℤ, ◌*ℤ◌}
use lib.Signed.{◌<ℤ◌}

positive_abs : (z : ℤ) → pos 0 <ℤ z → ¬ (unsigned_abs z ≡ 0)
positive_abs (pos n) h e = omega (arith, ints)
positive_abs (negsuc n) h e = absurd h.lt

pub divisor_some : (z : ℤ) (d : ℕ) → pos 0 <ℤ z → d ∣ unsigned_abs z → 0 < d
divisor_some z zero h w = absurd (positive_abs z h (eq-zero_of_zero-dvd w))
divisor_some z (suc d) h w = omega arith

at_most : (a d : ℕ) → 0 < d → a ≤ a * d
at_most a zero h = absurd (omega arith)
at_most a (suc d) h = let e : a * suc d ≡ a + a * d = omega arith in omega arith

quotient_small : (n d : ℕ) → 0 < d → n < 2 ^ 127 → d ∣ n → n / d < 2 ^ 127
quotient_small n d some r w =
    let e : (n / d) * d ≡ n = div-mul_cancel d w in
    let le : n / d ≤ (n / d) * d = at_most (n / d) d some in
    omega arith

pub part_is : (z : ℤ) (d : ℕ) → pos 0 <ℤ z → InRange z → d ∣ unsigned_abs z → z ≡ to_z w128 (unsigned_abs z / d) *ℤ pos d
part_is (pos n) d h r w = rw (to_z_pos w128 (n / d) (quotient_small n d (divisor_some (pos n) d h w) r w)) (ap pos (sym (div-mul_cancel d w)))
part_is (negsuc n) d h r w = absurd h.lt

pub part_small : (z : ℤ) (d : ℕ) → pos 0 <ℤ z → InRange z → d ∣ unsigned_abs z → InRange (to_z w128 (unsigned_abs z / d))
part_small z d h r w = let s = quotient_small (unsigned_abs z) d (divisor_some z d h w) r w in rw (to_z_pos w128 (unsigned_abs z / d) s) s
