-- A row with an entry 1 is a basis.
use Rattle.pm_vector.proofs.BasisExamples.{primitive_by_one}
use Rattle.pm_vector.specs.Bases.{IsReducedBasis, column, row_at}
use Rattle.pm_vector.specs.Divisors.{IsPrimitive}
use Rattle.pm_vector.specs.Rows.{Row, entry}
use Rattle.std.proofs.Common.{arith, refl, suc, zero}
use Rattle.std.specs.Prelude.{[], length, ℕ, ◌<◌, ◌∷◌, ◌≡◌}
use lib.IntN.{pos}
use lib.Signed.{lt_z_yes, ◌<ℤ◌}

pub one_row : (n : ℕ) (x : Row) (c : ℕ) → length x ≡ n → entry x c ≡ pos 1 → IsReducedBasis n (x ∷ []) (c ∷ [])
one_row n x c l one = record { cols = (l, tt); as_many = refl; positive = positive; reduced = reduced; primitive = primitive }
  where
    positive : (i : ℕ) → i < 1 → pos 0 <ℤ entry (row_at (x ∷ []) i) (column (c ∷ []) i)
    positive zero b = rw one (lt_z_yes tt)
    positive (suc i) b = absurd (omega arith)

    reduced : (i j : ℕ) → i < 1 → j < 1 → ¬ (i ≡ j) → entry (row_at (x ∷ []) i) (column (c ∷ []) j) ≡ pos 0
    reduced zero zero b d ne = absurd (ne refl)
    reduced zero (suc j) b d ne = absurd (omega arith)
    reduced (suc i) j b d ne = absurd (omega arith)

    primitive : (i : ℕ) → i < 1 → IsPrimitive (row_at (x ∷ []) i)
    primitive zero b = primitive_by_one x c one
    primitive (suc i) b = absurd (omega arith)
