-- Numbers of 128 bits as the code holds them, and differences of their products.
use Rattle.pm_vector.specs.WideInts.{IsFactor, IsWithin}
use Rattle.std.proofs.Common.{FitsSigned, arith, of_z, to_z, ◌≡◌}
use Rattle.std.proofs.lemmas.Int.{ints, to_z-of_z, unsigned_abs-mul}
use Rattle.std.proofs.lemmas.Nat.{mul-le}
use Rattle.std.specs.Int.{w128}
use Rattle.std.specs.Prelude.{unsigned_abs, ◌^◌, ◌≤◌}
use lib.IntN.{negsuc, pos, ℤ, ◌*ℤ◌, ◌-ℤ◌}

-- what 128 bits hold of z
abbrev pub held : ℤ → ℤ
held z = to_z w128 (of_z w128 z)

pub kept : (z : ℤ) → FitsSigned w128 z → held z ≡ z
kept z h = to_z-of_z w128 z h

abs_fits : (z : ℤ) → FitsSigned w128 z → unsigned_abs z ≤ 2 ^ 127
abs_fits (pos n) h = let k = h.sfits in omega arith
abs_fits (negsuc n) h = let k = h.sfits in omega arith

pub abs_product : (a b : ℤ) → FitsSigned w128 a → FitsSigned w128 b → unsigned_abs (a *ℤ b) ≤ 2 ^ 254
abs_product a b h k = rw (unsigned_abs-mul a b) (mul-le (unsigned_abs a) (unsigned_abs b) (2 ^ 127) (2 ^ 127) (abs_fits a h) (abs_fits b k))

-- a number of 128 bits may be a factor
pub narrow_factor : (z : ℤ) → FitsSigned w128 z → IsFactor z
narrow_factor z h = let k = abs_fits z h in omega arith

pub factor_small : (p x : ℤ) → IsFactor p → FitsSigned w128 x → unsigned_abs (p *ℤ x) ≤ 2 ^ 447
factor_small p x h k = rw (unsigned_abs-mul p x) (mul-le (unsigned_abs p) (unsigned_abs x) (2 ^ 320) (2 ^ 127) (omega arith) (abs_fits x k))

pub factor_within : (p x : ℤ) → IsFactor p → FitsSigned w128 x → IsWithin (p *ℤ x)
factor_within p x h k = let a = factor_small p x h k in omega arith

pub difference_within : (p x q y : ℤ) → IsFactor p → FitsSigned w128 x → IsFactor q → FitsSigned w128 y → IsWithin (p *ℤ x -ℤ q *ℤ y)
difference_within p x q y hp hx hq hy = let a = factor_small p x hp hx in let b = factor_small q y hq hy in omega (arith, ints)
