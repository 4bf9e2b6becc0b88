-- Fractions of multiples of two numbers.
use Rattle.pm_dual.specs.Quotients.{AreQuotients}
use Rattle.pm_fraction.specs.Fractions.{IsLowestTermsOf, ratio_of}
use Rattle.pm_vector.proofs.Ring.{ring}
use Rattle.pm_vector.proofs.RowLaws.{entry-times, length-times}
use Rattle.pm_vector.specs.Numbers.{Ratio}
use Rattle.pm_vector.specs.Rows.{Row, entry, ratio_at, times}
use Rattle.std.proofs.Common.{ap, arith, subst, sym, ◌∙◌}
use Rattle.std.proofs.lemmas.Int.{ints}
use Rattle.std.proofs.lemmas.Nat.Gcd.{IsGcd-from_zero, IsGcd-swap, same_from_IsGcd}
use Rattle.std.specs.Int.{IsGcd}
use Rattle.std.specs.Prelude.{List, ℕ, ◌≡◌, ◌≢◌}
use lib.IntN.{pos, ℤ, ◌*ℤ◌}
use lib.Signed.{◌<ℤ◌}

-- ---- divisors
pub size_is : (z n r : ℕ) → z ≡ 0 → IsGcd z n r → r ≡ n
size_is z n r e h = same_from_IsGcd n z r n (IsGcd-swap z n r h) (IsGcd-from_zero n z e)

-- ---- fractions
not_zero : {d : ℤ} → pos 0 <ℤ d → d ≢ pos 0
not_zero h e = omega (arith, ints)

pub lowest_times : (t n d : ℤ) (r : Ratio) → pos 0 <ℤ (t *ℤ d) → IsLowestTermsOf (ratio_of n d) r → IsLowestTermsOf (ratio_of (t *ℤ n) (t *ℤ d)) r
lowest_times t n d r h l = record { divisible = not_zero h; reduced = l.reduced; same = more r.num r.den l.same }
  where
    more : (p q : ℤ) → p *ℤ d ≡ n *ℤ q → p *ℤ (t *ℤ d) ≡ (t *ℤ n) *ℤ q
    more p q e = left ∙ ap (λ z. t *ℤ z) e ∙ right
      where
        left : p *ℤ (t *ℤ d) ≡ t *ℤ (p *ℤ d)
        left = simp ring

        right : t *ℤ (n *ℤ q) ≡ (t *ℤ n) *ℤ q
        right = simp ring

pub quotients_times : (t d : ℤ) (x : Row) (v : List Ratio) → pos 0 <ℤ (t *ℤ d) → AreQuotients x d v → AreQuotients (times t x) (t *ℤ d) v
quotients_times t d x v h q = record {
  count = q.count ∙ sym (length-times t x);
  each = λ i l. subst (λ z. IsLowestTermsOf (ratio_of z (t *ℤ d)) (ratio_at v i)) (sym (entry-times t x i)) (lowest_times t (entry x i) d (ratio_at v i) h (q.each i (let e = length-times t x in omega arith)));
}

-- numbers that are divided by a common divisor
pub lowest_divided : (g : ℕ) (n d n' d' a b : ℤ) (r : Ratio) → n ≡ pos g *ℤ n' → d ≡ pos g *ℤ d' → a ≡ n' → b ≡ d' → pos 0 <ℤ d → IsLowestTermsOf (ratio_of a b) r → IsLowestTermsOf (ratio_of n d) r
lowest_divided g n d n' d' a b r en ed ea eb hd l =
    subst (λ z. IsLowestTermsOf (ratio_of z d) r) (sym en) (subst (λ z. IsLowestTermsOf (ratio_of (pos g *ℤ n') z) r) (sym ed)
    (lowest_times (pos g) n' d' r (subst (λ z. pos 0 <ℤ z) ed hd) (subst (λ z. IsLowestTermsOf (ratio_of z d') r) ea (subst (λ z. IsLowestTermsOf (ratio_of a z) r) eb l))))
