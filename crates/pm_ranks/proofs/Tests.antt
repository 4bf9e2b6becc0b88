-- Tests on places and on numbers, and what they mean.
use Rattle.pm_geom.proofs.Holds.{or_cases, or_left, or_right}
use Rattle.pm_geom.specs.Graphs.{pair_of}
use Rattle.std.proofs.Common.{inl, inr, refl, subst, sym}
use Rattle.std.proofs.lemmas.Bool.{eq-eqb, eqb-true}
use Rattle.std.specs.Prelude.{Bool, IsTrue, false, suc, true, zero, ℕ, ◌&&◌, ◌==◌, ◌≡◌, ◌⊎◌}
use lib.IntN.{negsuc, pos, ℤ}

pub pair_at : (i j x : ℕ) → (x ≡ i) ⊎ (x ≡ j) → IsTrue (pair_of i j x)
pair_at i j x (inl e) = or_left (x == i) (x == j) (eq-eqb x i e)
pair_at i j x (inr e) = or_right (x == i) (x == j) (eq-eqb x j e)

pub at_pair : (i j x : ℕ) → IsTrue (pair_of i j x) → (x ≡ i) ⊎ (x ≡ j)
at_pair i j x t = elim (or_cases (x == i) (x == j) t) [ inl e ↦ inl (eqb-true x i e) | inr e ↦ inr (eqb-true x j e) ]

unfoldable pub is_zero : ℤ → Bool
is_zero (pos zero) = true
is_zero (pos (suc k)) = false
is_zero (negsuc k) = false

pub is_zero_to : (z : ℤ) → IsTrue (is_zero z) → z ≡ pos 0
unfolding is_zero
is_zero_to (pos zero) h = refl
is_zero_to (pos (suc k)) h = absurd cc
is_zero_to (negsuc k) h = absurd cc

pub is_zero_from : (z : ℤ) → z ≡ pos 0 → IsTrue (is_zero z)
unfolding is_zero
is_zero_from z e = subst (λ x. IsTrue (is_zero x)) (sym e) refl

pub and_both : (a b : Bool) → IsTrue a → IsTrue b → IsTrue (a && b)
and_both true b h k = k
and_both false b h k = h

pub and_first : (a b : Bool) → IsTrue (a && b) → IsTrue a
and_first true b h = refl
and_first false b h = h

pub and_second : (a b : Bool) → IsTrue (a && b) → IsTrue b
and_second true b h = h
and_second false b h = absurd cc
