-- Two numbers divided by their greatest common divisor.
use Rattle.pm_vector.proofs.DivisorLaws.{quotient_is}
use Rattle.pm_vector.specs.Numbers.{InRange}
use Rattle.pm_vector.specs.Steps.{IsFactors}
use Rattle.std.proofs.Common.{arith, ◌<◌, ◌^◌, ◌∙◌}
use Rattle.std.proofs.lemmas.Int.{ints}
use Rattle.std.proofs.lemmas.Nat.Gcd.{dvd-zero, dvd_antisymm, le_of_dvd}
use Rattle.std.specs.Int.{IsGcd}
use Rattle.std.specs.Prelude.{int_div, unsigned_abs, suc, zero, ℕ, ◌≤◌}
use lib.IntN.{*ℤ_comm, pos, ℤ}
use lib.Signed.{◌<ℤ◌}

module _ (x y : ℤ) (g : ℕ) (h : IsGcd (unsigned_abs x) (unsigned_abs y) g) (up : pos 0 <ℤ y) where
  abs_positive : 0 < unsigned_abs y
  abs_positive = omega (arith, ints)

  at_most : g ≤ unsigned_abs y
  at_most = le_of_dvd abs_positive h.1

  pub divisor_in_range : InRange y → g < 2 ^ 127
  divisor_in_range r = let l = at_most in omega arith

  pub divisor_not_zero : 0 < g
  divisor_not_zero = positive g h
    where
      positive : (k : ℕ) → IsGcd (unsigned_abs x) (unsigned_abs y) k → 0 < k
      positive zero d = let z = dvd_antisymm d.1 (dvd-zero (unsigned_abs y)) in let a = abs_positive in absurd (omega arith)
      positive (suc k) d = omega arith

  pub quotients_are_factors : IsFactors x y (int_div y (pos g)) (int_div x (pos g))
  quotients_are_factors = record {
    g = g;
    greatest = h;
    first = quotient_is y g h.1 ∙ *ℤ_comm (pos g) (int_div y (pos g));
    second = quotient_is x g h.0 ∙ *ℤ_comm (pos g) (int_div x (pos g));
    positive = up;
  }
