-- The laws of tableaux.
use Rattle.std.specs.Prelude.{ℕ, ◌≡◌, ◌<◌, List, length, slice_set}
use Rattle.pm_vector.specs.Rows.{Row, entry}
use Rattle.pm_vector.specs.Bases.{row_at, column}
use Rattle.pm_programs.specs.Tableaux.{IsSign, IsTableauOf, pivot_rows}
use lib.IntN.{ℤ, pos, ◌*ℤ◌}
use lib.Signed.{◌<ℤ◌}

-- a tableau is determined by its basis: the quotients of the entries of a row by its entry in its own column are the
-- same in both
abbrev pub TableauIsUnique : Type 0
TableauIsUnique = (S : List Row) (P : List ℕ) (R R' : List Row) → IsTableauOf S P R → IsTableauOf S P R'
    → (i : ℕ) → i < length R → (v : ℕ)
    → entry (row_at R i) v *ℤ entry (row_at R' i) (column P i)
    ≡ entry (row_at R' i) v *ℤ entry (row_at R i) (column P i)

-- a pivot leads to a tableau of the same equations, in whose basis the entering variable stands in the place of the
-- leaving one
abbrev pub PivotIsTableau : Type 0
PivotIsTableau = (S : List Row) (P : List ℕ) (R : List Row) (s : ℤ) (l e : ℕ) → IsTableauOf S P R → IsSign s
    → l < length R → pos 0 <ℤ (s *ℤ entry (row_at R l) e)
    → IsTableauOf S (slice_set P l e) (pivot_rows s l e R)
