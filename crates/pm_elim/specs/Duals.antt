-- Dual rows.
use Rattle.pm_vector.specs.Divisors.{IsPrimitive}
use Rattle.pm_vector.specs.Rows.{Row, dot, entry}
use Rattle.pm_vector.specs.Bases.{column, row_at}
use Rattle.pm_vector.specs.NullSpaces.{IsNullBasis}
use Rattle.pm_elim.specs.declared.evidence.DualFail.{DualFail}
use Rattle.pm_elim.specs.declared.evidence.DualFail.TheVariants.{Dependent, Memory, Wide}
use Rattle.pm_vector.specs.EliminationSteps.{EliminationStep}
use Rattle.pm_elim.specs.declared.evidence.ElimFail.{ElimFail}
use Rattle.pm_elim.specs.declared.evidence.ElimFail.TheVariants.{Memory as ElimMemory, Wide as ElimWide}
use Rattle.std.specs.Prelude.{List, length, ℕ, ◌<◌, ◌≡◌}
use lib.IntN.{pos}
use lib.Signed.{◌<ℤ◌}

-- x is primitive, has product 0 with each row but the one at j, a positive product with that one, and is 0 in the
-- columns P
pub record IsDualRow (n : ℕ) (rows : List Row) (P : List ℕ) (j : ℕ) (x : Row) : Type 0 where
  pub cols : length x ≡ n
  pub primitive : IsPrimitive x
  pub others : (i : ℕ) → i < length rows → ¬ (i ≡ j) → dot (row_at rows i) x ≡ pos 0
  pub own : pos 0 <ℤ dot (row_at rows j) x
  pub reduced : (k : ℕ) → k < length P → entry x (column P k) ≡ pos 0

-- the row of D at each place is such a row for that place, with P the pivot columns of the echelon basis of the null
-- space of the rows
pub record IsDualBasis (n : ℕ) (rows D : List Row) : Type 0 where
  pub null : List Row
  pub pivots : List ℕ
  pub null_basis : IsNullBasis n rows null pivots
  pub as_many : length D ≡ length rows
  pub each : (j : ℕ) → j < length rows → IsDualRow n rows pivots j (row_at D j)

-- rows have at most one dual basis
abbrev pub DualBasisIsUnique : Type 0
DualBasisIsUnique = (n : ℕ) (rows D D' : List Row) → IsDualBasis n rows D → IsDualBasis n rows D' → D ≡ D'

-- Q holds of the evidence of a refusal, where it has some
abbrev pub IfDualWide : DualFail → (EliminationStep → Type 0) → Type 0
IfDualWide Dependent Q = Unit {0}
IfDualWide (Wide e) Q = Q e
IfDualWide Memory Q = Unit {0}

-- Q holds where a refusal is for dependent rows
abbrev pub IfDependent : DualFail → Type 0 → Type 0
IfDependent Dependent Q = Q
IfDependent (Wide e) Q = Unit {0}
IfDependent Memory Q = Unit {0}

-- the refusal of an elimination, as one of dual rows
abbrev pub dual_fail_of : ElimFail → DualFail
dual_fail_of (ElimWide e) = Wide e
dual_fail_of ElimMemory = Memory
