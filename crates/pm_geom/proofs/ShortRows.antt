-- Rows of two and of three entries, taken apart and compared by their entries.
use Rattle.pm_vector.proofs.ConeLaws.{dot_in}
use Rattle.pm_vector.proofs.Ring.{ring}
use Rattle.pm_vector.specs.Cones.{InCone}
use Rattle.pm_vector.specs.Rows.{Row, Same, dot, entry}
use Rattle.pm_geom.proofs.Apart.{not_below, not_below_at, null, null_at, products}
use Rattle.std.proofs.Common.{T, arith, refl}
use Rattle.std.proofs.lemmas.Int.{ints}
use Rattle.std.specs.Prelude.{List, [], length, suc, zero, ℕ, ◌∷◌, ◌≡◌}
use lib.IntN.{pos, ℤ}
use lib.Signed.{◌≤ℤ◌}

pub by_two : (P : Row → Type 0) → ((a b : ℤ) → P (a ∷ b ∷ [])) → (x : Row) → length x ≡ 2 → P x
by_two P f [] l = absurd (omega arith)
by_two P f (a ∷ []) l = absurd (omega arith)
by_two P f (a ∷ b ∷ []) l = f a b
by_two P f (a ∷ b ∷ c ∷ x) l = absurd (omega arith)

pub by_three : (P : Row → Type 0) → ((a b c : ℤ) → P (a ∷ b ∷ c ∷ [])) → (x : Row) → length x ≡ 3 → P x
by_three P f [] l = absurd (omega arith)
by_three P f (a ∷ []) l = absurd (omega arith)
by_three P f (a ∷ b ∷ []) l = absurd (omega arith)
by_three P f (a ∷ b ∷ c ∷ []) l = f a b c
by_three P f (a ∷ b ∷ c ∷ d ∷ x) l = absurd (omega arith)

pub at_two : (a b a' b' : ℤ) → a ≡ a' → b ≡ b' → Same (a ∷ b ∷ []) (a' ∷ b' ∷ [])
at_two a b a' b' e f = record { at = go }
  where
    go : (i : ℕ) → entry (a ∷ b ∷ []) i ≡ entry (a' ∷ b' ∷ []) i
    go zero = e
    go (suc zero) = f
    go (suc (suc i)) = refl

pub at_three : (a b c a' b' c' : ℤ) → a ≡ a' → b ≡ b' → c ≡ c' → Same (a ∷ b ∷ c ∷ []) (a' ∷ b' ∷ c' ∷ [])
at_three a b c a' b' c' e f g = record { at = go }
  where
    go : (i : ℕ) → entry (a ∷ b ∷ c ∷ []) i ≡ entry (a' ∷ b' ∷ c' ∷ []) i
    go zero = e
    go (suc zero) = f
    go (suc (suc zero)) = g
    go (suc (suc (suc i))) = refl

-- the first entry of a row of a cone, where it is computed at the generators and the lines
first_product : (x : Row) → dot (pos 1 ∷ []) x ≡ entry x 0
first_product [] = refl
first_product (a ∷ x) = simp ring (omega (arith, ints))

pub first_entry : (G L : List Row) → T (products not_below (pos 1 ∷ []) G) → T (products null (pos 1 ∷ []) L) → (x : Row) → InCone G L x → pos 0 ≤ℤ entry x 0
first_entry G L rows lines x h = rw first_product at (dot_in (pos 1 ∷ []) G L (λ g i. not_below_at (pos 1 ∷ []) i rows) (λ l i. null_at (pos 1 ∷ []) i lines) h)
