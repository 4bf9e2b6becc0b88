-- The product of two fractions is in lowest terms, once each numerator and the other's denominator are cancelled.
use Rattle.pm_vector.proofs.Signs.{mul_pos, pos_cancel}
use Rattle.pm_vector.specs.Numbers.{IsReduced, Ratio}
use Rattle.pm_fraction.proofs.Bezout.{Bezout, from_gcd}
use Rattle.pm_fraction.proofs.Reduced.{bezout_of, product_reduced, product_same, reduced_from}
use Rattle.pm_fraction.specs.Arithmetic.{product_of}
use Rattle.pm_fraction.specs.Divisors.{IsCancelled}
use Rattle.pm_fraction.specs.Fractions.{IsLowestTermsOf, ratio_of}
use Rattle.std.proofs.Common.{arith, refl, subst}
use Rattle.std.proofs.lemmas.Int.{ints}
use Rattle.std.specs.Int.{IsGcd}
use Rattle.std.specs.Prelude.{unsigned_abs, ◌≡◌, ◌≢◌}
use lib.IntN.{negsuc, pos, ℤ, ◌*ℤ◌}
use lib.Signed.{◌<ℤ◌}

pub positive_abs : (g : ℤ) → pos 0 <ℤ g → pos (unsigned_abs g) ≡ g
positive_abs (pos n) h = refl
positive_abs (negsuc n) h = absurd h.lt

pub bezout_from : (a b g : ℤ) → pos 0 <ℤ g → IsGcd (unsigned_abs a) (unsigned_abs b) (unsigned_abs g) → Bezout a b g
bezout_from a b g h w = subst (λ (z : ℤ). Bezout a b z) (positive_abs g h) (from_gcd a b (unsigned_abs g) w)

pub positive_factor : (d g v : ℤ) → pos 0 <ℤ d → pos 0 <ℤ g → d ≡ g *ℤ v → pos 0 <ℤ v
positive_factor d g v h k e = pos_cancel k (subst (λ (z : ℤ). pos 0 <ℤ z) e h)

pub not_zero : (d : ℤ) → pos 0 <ℤ d → d ≢ pos 0
not_zero d h e = omega (arith, ints)

lowest : (p q : Ratio) (u1 v2 u2 v1 : ℤ) → IsReduced p → IsReduced q → IsCancelled p.num q.den u1 v2 → IsCancelled q.num p.den u2 v1
    → IsLowestTermsOf (product_of p q) (ratio_of (u1 *ℤ u2) (v1 *ℤ v2))
lowest p q u1 v2 u2 v1 hp hq c d = record {
  divisible = not_zero (p.den *ℤ q.den) (mul_pos hp.positive hq.positive);
  reduced =
      reduced_from (u1 *ℤ u2) (v1 *ℤ v2)
      (mul_pos (positive_factor p.den d.g v1 hp.positive d.positive d.second) (positive_factor q.den c.g v2 hq.positive c.positive c.second))
      (product_reduced p.num p.den q.num q.den c.g d.g u1 v1 u2 v2 c.positive d.positive c.first c.second d.first d.second
      (bezout_of p hp) (bezout_of q hq) (bezout_from p.num q.den c.g c.positive c.greatest) (bezout_from q.num p.den d.g d.positive d.greatest));
  same = product_same p.num p.den q.num q.den c.g d.g u1 v1 u2 v2 c.first c.second d.first d.second;
}

-- the same of the numbers that the code computes
pub product_lowest : (p q : Ratio) (n d m e u1 v2 u2 v1 : ℤ) → n ≡ p.num → d ≡ p.den → m ≡ q.num → e ≡ q.den → IsReduced p → IsReduced q
    → IsCancelled n e u1 v2 → IsCancelled m d u2 v1 → IsLowestTermsOf (product_of p q) (ratio_of (u1 *ℤ u2) (v1 *ℤ v2))
product_lowest p q n d m e u1 v2 u2 v1 n_is d_is m_is e_is hp hq c k =
    lowest p q u1 v2 u2 v1 hp hq (rw (← n_is, ← e_is) c) (rw (← m_is, ← d_is) k)
