-- Pivots by the lexicographic rule (Dantzig, Orden and Wolfe; Chvatal, Linear Programming, chapter 3). The columns K
-- begin with 0 and then list the slacks: the constants are disturbed by a different small number for each inequality,
-- in a fixed order, and a basis is feasible where the disturbed constants are positive.
use Rattle.std.specs.Prelude.{Bool, ℕ, ◌≡◌, ◌<◌, IsTrue, List, length}
use Rattle.pm_vector.specs.Numbers.{Ratio}
use Rattle.pm_vector.specs.Rows.{Row, entry, ratio_at}
use Rattle.pm_vector.specs.Bases.{row_at, column}
use Rattle.pm_programs.specs.Lex.{IsLexPositive, key, keys}
use Rattle.pm_programs.specs.Tableaux.{pivot_row}
use lib.IntN.{ℤ, pos, ◌*ℤ◌}
use lib.Signed.{◌<ℤ◌}

-- each row of a variable that may not be negative is lexicographically positive in the columns K
pub record IsLexFeasible (K : List ℕ) (signed : ℕ → Bool) (P : List ℕ) (R : List Row) : Type 0 where
  pub positive : (i : ℕ) → i < length R → IsTrue (signed (column P i)) → IsLexPositive (keys K (row_at R i))

-- row l, of a variable that may not be negative, has an entry of the sign s in the column e, and is least: after the
-- pivot each other such row stays lexicographically positive
pub record IsRatioTest (K : List ℕ) (signed : ℕ → Bool) (P : List ℕ) (R : List Row) (s : ℤ) (l e : ℕ)
    : Type 0 where
  pub leaves : IsTrue (signed (column P l))
  pub bounded : pos 0 <ℤ (s *ℤ entry (row_at R l) e)
  pub least : (i : ℕ) → i < length R → ¬ (i ≡ l) → IsTrue (signed (column P i))
      → pos 0 <ℤ (s *ℤ entry (row_at R i) e)
      → IsLexPositive (keys K (pivot_row s (row_at R l) e (row_at R i)))

-- v lists the fractions key x c / d for the columns c of K
pub record Writes (K : List ℕ) (x : Row) (d : ℤ) (v : List Ratio) : Type 0 where
  pub as_many : length v ≡ length K
  pub positive : (i : ℕ) → i < length K → pos 0 <ℤ (ratio_at v i).den
  pub value : (i : ℕ) → i < length K → (ratio_at v i).num *ℤ d ≡ key x (column K i) *ℤ (ratio_at v i).den
