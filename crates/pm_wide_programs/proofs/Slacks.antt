-- Slacks as they are made.
use Rattle.pm_fraction.specs.Fractions.{IsLowestTermsOf, ratio_of}
use Rattle.pm_vector.proofs.Ring.{ring}
use Rattle.pm_vector.specs.Numbers.{Ratio}
use Rattle.pm_vector.specs.Rows.{Row, dot, entry}
use Rattle.pm_wide_programs.specs.Slacks.{StandsAt, slack_of}
use Rattle.std.proofs.Common.{ap, ap₂, arith, subst, sym, true≢false, ◌∙◌}
use Rattle.std.proofs.lemmas.Int.{ints}
use Rattle.std.specs.Prelude.{IsTrue, false, ◌≡◌}
use lib.IntN.{negsuc, pos, ℤ, ◌*ℤ◌, ◌-ℤ◌}
use lib.Signed.{◌<ℤ◌, ◌≤ℤ◌}

pub slack_made : (k : ℤ) (w : Row) (v : Ratio) (x : Row) (r a b s y d p n t : ℤ) → r ≡ a -ℤ b → a ≡ s *ℤ y → s ≡ n *ℤ t → n ≡ v.num → t ≡ k → y ≡ entry x 0 → b ≡ d *ℤ p → d ≡ v.den → p ≡ dot w x → r ≡ slack_of k w v x
slack_made k w v x r a b s y d p n t er ea es en et ey eb ed ep =
    er
    ∙ ap₂ (λ m o. m -ℤ o) (ea ∙ ap₂ (λ m o. m *ℤ o) (es ∙ ap₂ (λ m o. m *ℤ o) en et) ey) (eb ∙ ap₂ (λ m o. m *ℤ o) ed ep)

pub stands_made : (k : ℤ) (w x : Row) (v : Ratio) (p d : ℤ) → pos 0 <ℤ entry x 0 → p ≡ dot w x → d ≡ entry x 0 *ℤ k → IsLowestTermsOf (ratio_of p d) v → StandsAt k w x v
stands_made k w x v p d up ep ed l = record { first = up; positive = l.reduced.positive; level = level (dot w x) (entry x 0) v.num v.den (ap (λ z. v.num *ℤ z) (sym ed) ∙ l.same ∙ ap (λ z. z *ℤ v.den) ep) }
  where
    level : (p y n d : ℤ) → n *ℤ (y *ℤ k) ≡ p *ℤ d → (n *ℤ k) *ℤ y -ℤ d *ℤ p ≡ pos 0
    level p y n d e = let a : (n *ℤ k) *ℤ y ≡ d *ℤ p = (simp ring) ∙ e ∙ (simp ring) in omega (arith, ints)

-- a slack that is read at a place, and is not negative
pub read_up : (k : ℤ) (w : Row) (v : Ratio) (x y : Row) (s : ℤ) → y ≡ x → s ≡ slack_of k w v y → (s <ℤ pos 0 → IsTrue false) → pos 0 ≤ℤ slack_of k w v x
read_up k w v x y s e f h = subst (λ (r : Row). pos 0 ≤ℤ slack_of k w v r) e (subst (λ z. pos 0 ≤ℤ z) f (up s h))
  where
    up : (z : ℤ) → (z <ℤ pos 0 → IsTrue false) → pos 0 ≤ℤ z
    up (pos n) g = omega (arith, ints)
    up (negsuc n) g = absurd (true≢false (sym (g (omega (arith, ints)))))
