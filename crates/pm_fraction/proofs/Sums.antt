-- The sum of two fractions over the least common denominator, in lowest terms.
use Rattle.pm_vector.proofs.Ring.{ring}
use Rattle.pm_vector.proofs.Signs.{mul_cancel, mul_pos}
use Rattle.pm_vector.specs.Numbers.{IsReduced, Ratio}
use Rattle.pm_fraction.proofs.Bezout.{euclid}
use Rattle.pm_fraction.proofs.Machine.{exact_quotient, gcd_positive}
use Rattle.pm_fraction.proofs.Products.{bezout_from, not_zero, positive_factor}
use Rattle.pm_fraction.proofs.Reduced.{bezout_of, reduced_from, sum_reduced, sum_same}
use Rattle.pm_fraction.specs.Arithmetic.{AreTermsInRange, SumGcds, SumLeaves, sum_den, sum_of, terms}
use Rattle.pm_fraction.specs.Fractions.{IsLowestTermsOf, ratio_of}
use Rattle.std.proofs.Common.{arith, refl, sym, ◌∙◌}
use Rattle.std.proofs.lemmas.Int.{ints}
use Rattle.std.proofs.lemmas.Nat.Gcd.{dvd_trans}
use Rattle.std.specs.Int.{IsGcd, ◌∣◌}
use Rattle.std.specs.Prelude.{int_div, unsigned_abs, ◌≡◌}
use lib.IntN.{pos, ℤ, ◌*ℤ◌}
use lib.Signed.{◌<ℤ◌}

-- ---- the gcd of the terms' sum and g is there, whether or not the sum is in the range
record Greatest (a b : ℤ) : Type 0 where
  h : ℤ
  positive : pos 0 <ℤ h
  is : IsGcd (unsigned_abs a) (unsigned_abs b) (unsigned_abs h)

greatest : (a b : ℤ) → pos 0 <ℤ b → Greatest a b
greatest a b hb =
    let w = euclid (unsigned_abs b) (unsigned_abs a) (unsigned_abs b) (omega arith) in
    record { h = pos w.0; positive = (let p = gcd_positive a b w.0 hb w.1 in omega (arith, ints)); is = w.1 }

pub leaves_by_terms : (p q : Ratio) (g : ℤ) → pos 0 <ℤ g → IsGcd (unsigned_abs p.den) (unsigned_abs q.den) (unsigned_abs g)
    → ¬ (AreTermsInRange p q g) → SumLeaves p q
leaves_by_terms p q g hg w leaves =
    let k = greatest (terms p q g) g hg in
    record {
      g = g;
      h = k.h;
      gcds = record { g_positive = hg; h_positive = k.positive; of_dens = w; of_terms = k.is };
      leaves = λ s. leaves s.terms;
    }

-- ---- the sum
-- h divides g, and g the second denominator: e / h is (e / g) (g / h)
quotient_of_quotient : (e g h : ℤ) → pos 0 <ℤ g → pos 0 <ℤ h → unsigned_abs g ∣ unsigned_abs e → unsigned_abs h ∣ unsigned_abs g
    → int_div e h ≡ int_div e g *ℤ int_div g h
quotient_of_quotient e g h hg hh d f =
    let whole = exact_quotient e h hh (dvd_trans (unsigned_abs h) f d) in
    let parts : e ≡ h *ℤ (int_div e g *ℤ int_div g h) = in_parts e g h (int_div e g) (int_div g h) (exact_quotient e g hg d) (exact_quotient g h hh f) in
    mul_cancel hh (sym whole ∙ parts)
  where
    in_parts : (e g h b k : ℤ) → e ≡ g *ℤ b → g ≡ h *ℤ k → e ≡ h *ℤ (b *ℤ k)
    in_parts e g h b k u v = rw (u, v) (simp ring)

pub sum_lowest : (p q : Ratio) (g h : ℤ) → IsReduced p → IsReduced q → SumGcds p q g h
    → IsLowestTermsOf (sum_of p q) (ratio_of (int_div (terms p q g) h) (sum_den p q g h))
sum_lowest p q g h hp hq c =
    let a = int_div p.den g in
    let b = int_div q.den g in
    let s = int_div (terms p q g) h in
    let k = int_div g h in
    let a_is = exact_quotient p.den g c.g_positive c.of_dens.0 in
    let b_is = exact_quotient q.den g c.g_positive c.of_dens.1 in
    let s_is = exact_quotient (terms p q g) h c.h_positive c.of_terms.0 in
    let k_is = exact_quotient g h c.h_positive c.of_terms.1 in
    let den_is = quotient_of_quotient q.den g h c.g_positive c.h_positive c.of_dens.1 c.of_terms.1 in
    let a_positive = positive_factor p.den g a hp.positive c.g_positive a_is in
    let b_positive = positive_factor q.den g b hq.positive c.g_positive b_is in
    let k_positive = positive_factor g h k c.g_positive c.h_positive k_is in
    record {
      divisible = not_zero (p.den *ℤ q.den) (mul_pos hp.positive hq.positive);
      reduced =
          rw den_is (reduced_from s (a *ℤ (b *ℤ k)) (mul_pos a_positive (mul_pos b_positive k_positive))
          (sum_reduced p.num p.den q.num q.den g a b (terms p q g) h s k c.g_positive c.h_positive a_is b_is refl s_is k_is
          (bezout_of p hp) (bezout_of q hq) (bezout_from p.den q.den g c.g_positive c.of_dens) (bezout_from (terms p q g) g h c.h_positive c.of_terms)));
      same = rw den_is (sum_same p.num p.den q.num q.den g a b (terms p q g) h s k a_is b_is refl s_is k_is);
    }
