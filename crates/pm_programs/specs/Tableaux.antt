-- Tableaux: linear equations solved for the variables of a basis (Chvatal, Linear Programming, chapter 2). A row
-- (a_0, a_1, .., a_N) stands for the equation a_0 + a_1 x_1 + .. + a_N x_N = 0; the variable x_v has the column v,
-- and the column 0 is that of the numbers a_0.
use Rattle.std.specs.Prelude.{ℕ, ◌≡◌, ◌<◌, ◌⊎◌, List, length, map, slice_set}
use Rattle.pm_vector.specs.Rows.{Row, entry, times, difference}
use Rattle.pm_vector.specs.Bases.{row_at, column, SameSpan}
use lib.IntN.{ℤ, pos, negsuc, ◌*ℤ◌}
use lib.Signed.{◌<ℤ◌}

-- row i of R is positive in its own column P_i, in which the other rows are 0
pub record IsTableau (P : List ℕ) (R : List Row) : Type 0 where
  pub as_many : length P ≡ length R
  pub positive : (i : ℕ) → i < length R → pos 0 <ℤ entry (row_at R i) (column P i)
  pub solved : (i j : ℕ) → i < length R → j < length R → ¬ (i ≡ j) → entry (row_at R i) (column P j) ≡ pos 0

-- R is such a tableau, and its rows have the span of the rows S: they are the same equations
pub record IsTableauOf (S : List Row) (P : List ℕ) (R : List Row) : Type 0 where
  pub tableau : IsTableau P R
  pub span : SameSpan R S

-- s is 1 or -1
abbrev pub IsSign : ℤ → Type 0
IsSign s = (s ≡ pos 1) ⊎ (s ≡ negsuc 0)

-- what becomes of another row r when the row x, whose entry in the column e has the sign s, is solved for e and put
-- into it: |x_e| r - s r_e x
abbrev pub pivot_row : ℤ → Row → ℕ → Row → Row
pivot_row s x e r = difference (s *ℤ entry x e) r (s *ℤ entry r e) x

-- the rows R when row l, whose entry in the column e has the sign s, is solved for e and put into the others; row l
-- itself is taken s times
abbrev pub pivot_rows : ℤ → ℕ → ℕ → List Row → List Row
pivot_rows s l e R = slice_set (map (pivot_row s (row_at R l) e) R) l (times s (row_at R l))
