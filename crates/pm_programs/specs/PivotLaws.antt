-- The laws of pivots by the lexicographic rule.
use Rattle.std.specs.Prelude.{Bool, ℕ, ◌≡◌, ◌<◌, ◌∷◌, IsTrue, List, length, slice_set}
use Rattle.pm_vector.specs.Numbers.{Ratio}
use Rattle.pm_vector.specs.Rows.{Row, entry}
use Rattle.pm_vector.specs.Bases.{row_at, column}
use Rattle.pm_programs.specs.Lex.{IsLexBelow}
use Rattle.pm_programs.specs.Pivots.{IsLexFeasible, IsRatioTest, Writes}
use Rattle.pm_programs.specs.Tableaux.{IsSign, IsTableau, pivot_rows}
use lib.IntN.{ℤ, pos, negsuc, ◌*ℤ◌}
use lib.Signed.{◌<ℤ◌}

-- a pivot by the ratio test keeps lexicographic feasibility; a variable that may not be negative enters upward
abbrev pub PivotKeepsFeasible : Type 0
PivotKeepsFeasible = (K : List ℕ) (signed : ℕ → Bool) (P : List ℕ) (R : List Row) (s : ℤ) (l e : ℕ)
    → IsTableau P R → IsSign s → l < length R → IsLexFeasible K signed P R
    → IsRatioTest K signed P R s l e → (IsTrue (signed e) → s ≡ pos 1)
    → IsLexFeasible K signed (slice_set P l e) (pivot_rows s l e R)

-- the auxiliary variable e, which helps in every row of a variable that may not be negative, enters for the least
-- row, whose constant is negative
abbrev pub PivotBeginsFeasible : Type 0
PivotBeginsFeasible = (K : List ℕ) (signed : ℕ → Bool) (P : List ℕ) (R : List Row) (l e : ℕ) → IsTableau P R
    → l < length R
    → IsRatioTest (0 ∷ K) signed P R (negsuc 0) l e → pos 0 <ℤ entry (row_at R l) 0
    → ((i : ℕ) → i < length R → IsTrue (signed (column P i)) → entry (row_at R i) e <ℤ pos 0)
    → IsLexFeasible (0 ∷ K) signed (slice_set P l e) (pivot_rows (negsuc 0) l e R)

-- such a pivot at a variable that improves the objective in the row z raises the objective's fractions in
-- lexicographic order
abbrev pub PivotRaises : Type 0
PivotRaises = (K : List ℕ) (signed : ℕ → Bool) (P : List ℕ) (R : List Row) (s : ℤ) (l e z : ℕ)
    (v w : List Ratio) → IsTableau P R → IsSign s → l < length R → z < length R → ¬ (z ≡ l)
    → IsLexFeasible K signed P R → IsRatioTest K signed P R s l e → (s *ℤ entry (row_at R z) e) <ℤ pos 0
    → Writes K (row_at R z) (entry (row_at R z) (column P z)) v
    → Writes K (row_at (pivot_rows s l e R) z) (entry (row_at (pivot_rows s l e R) z) (column P z)) w
    → IsLexBelow v w
