-- Echelon bases of one row.
use Rattle.pm_vector.proofs.BasisExamples.{primitive_by_one}
use Rattle.pm_vector.proofs.Columns.{basis_is_independent}
use Rattle.pm_vector.specs.Bases.{IsEchelonBasis, column, row_at}
use Rattle.pm_vector.specs.Cones.{IsIndependent}
use Rattle.pm_vector.specs.Rows.{Row, entry}
use Rattle.pm_vector.specs.Divisors.{IsPrimitive}
use Rattle.std.proofs.Common.{arith, refl}
use Rattle.std.specs.Prelude.{[], length, suc, zero, ℕ, ◌∷◌, ◌≡◌, ◌<◌}
use lib.IntN.{pos}
use lib.Signed.{lt_z_yes, ◌<ℤ◌}

module _ (n : ℕ) (x : Row) (c : ℕ) (l : length x ≡ n) (one : entry x c ≡ pos 1) (before : (d : ℕ) → d < c → entry x d ≡ pos 0) where
  positive_at : (i : ℕ) → i < 1 → pos 0 <ℤ entry (row_at (x ∷ []) i) (column (c ∷ []) i)
  positive_at zero m = rw one (lt_z_yes tt)
  positive_at (suc i) m = absurd (omega arith)

  primitive_at : (i : ℕ) → i < 1 → IsPrimitive (row_at (x ∷ []) i)
  primitive_at zero m = primitive_by_one x c one
  primitive_at (suc i) m = absurd (omega arith)

  before_at : (i d : ℕ) → i < 1 → d < column (c ∷ []) i → entry (row_at (x ∷ []) i) d ≡ pos 0
  before_at zero d m k = before d k
  before_at (suc i) d m k = absurd (omega arith)

  -- a row with the entry 1 at column c and zeros before it is an echelon basis
  pub alone : IsEchelonBasis n (x ∷ []) (c ∷ [])
  alone = record {
    basis = record { cols = (l, tt); as_many = refl; positive = positive_at; reduced = λ i j m k ne. absurd (ne (omega arith)); primitive = primitive_at };
    ascending = λ i j m k. absurd (omega arith);
    before = before_at;
  }

  pub alone_independent : IsIndependent (x ∷ [])
  alone_independent = basis_is_independent n (x ∷ []) (c ∷ []) alone.basis
