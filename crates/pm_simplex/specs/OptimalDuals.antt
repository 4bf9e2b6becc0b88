-- The dual of an optimal dictionary.
use Rattle.pm_vector.specs.Numbers.{Ratio}
use Rattle.pm_vector.specs.Rows.{Row}
use Rattle.pm_vector.specs.Bases.{column}
use Rattle.pm_dual.specs.declared.answer.LpAnswer.TheVariants.{Infeasible, Optimal, Unbounded}
use Rattle.pm_dual.specs.declared.answer.LpAnswer.{LpAnswer}
use Rattle.pm_programs.specs.Dictionaries.{IsDictionaryOf, at, row_of}
use Rattle.pm_simplex.specs.Evidence.{IsFeasibleAt}
use Rattle.pm_simplex.specs.Running.{IsFreeColumn, IsResidualColumn, IsSlackColumn}
use Rattle.pm_simplex.specs.States.{auxiliary, key_found, objective_column, upward}
use Rattle.pm_simplex.specs.Systems.{equations_of}
use Rattle.pm_simplex.specs.declared.layout.Layout.{Layout}
use Rattle.std.specs.Prelude.{List, length, map, ℕ, ◌+◌, ◌<◌, ◌≡◌}
use lib.IntN.{pos}
use lib.Signed.{◌≤ℤ◌}

-- D is the dictionary of the basis P for the equations S, feasible and without the auxiliary variable, residuals in
-- the basis depend on residuals alone, and no free coordinate and no slack improves the objective, which row z writes
pub record IsOptimalDictionary (y : Layout) (S : List Row) (P N : List ℕ) (D : List (List Ratio)) (z : ℕ)
    : Type 0 where
  pub dictionary : IsDictionaryOf S P N D
  pub constant : column N 0 ≡ 0
  pub within : z < length P
  pub objective : column P z ≡ objective_column y
  pub feasible : IsFeasibleAt y P D
  pub without : (i : ℕ) → i < length P → ¬ (column P i ≡ auxiliary y)
  pub settled : (i k : ℕ) → i < length P → k < length N → IsResidualColumn y (column P i)
      → ¬ (IsResidualColumn y (column N k)) → (at D i k).num ≡ pos 0
  pub free : (k : ℕ) → 0 < k → k < length N → IsFreeColumn y (column N k) → (at D z k).num ≡ pos 0
  pub slack : (k : ℕ) → 0 < k → k < length N → IsSlackColumn y (column N k) → (at D z k).num ≤ℤ pos 0

-- m is the dual of such a dictionary: for each slack and each residual the opposite of its number in the row of the
-- objective, 0 where it is in the basis
pub record IsDictionaryDual (y : Layout) (S : List Row) (m : List Ratio) : Type 0 where
  pub basis : List ℕ
  pub others : List ℕ
  pub fractions : List (List Ratio)
  pub row : ℕ
  pub optimal : IsOptimalDictionary y S basis others fractions row
  pub is : m ≡ map (λ c. key_found c others (row_of fractions row)) (upward y.cols (y.slacks + y.residuals))

-- m is the dual of an optimal dictionary of the program of A, B and c
pub record IsDualOfDictionary (A B : List Row) (c m : List Ratio) : Type 0 where
  pub layout : Layout
  pub cols : layout.cols ≡ length c
  pub slacks : layout.slacks ≡ length A
  pub residuals : layout.residuals ≡ length B
  pub dual : IsDictionaryDual layout (equations_of layout A B c) m

-- where the answer is an optimum, its dual is of a dictionary
abbrev pub IsDictionaryAnswer : Layout → List Row → LpAnswer → Type 0
IsDictionaryAnswer y S (Optimal value point dual) = IsDictionaryDual y S dual.items
IsDictionaryAnswer y S (Unbounded point direction) = Unit {0}
IsDictionaryAnswer y S (Infeasible multipliers) = Unit {0}

abbrev pub HasDictionaryDual : List Row → List Row → List Ratio → LpAnswer → Type 0
HasDictionaryDual A B c (Optimal value point dual) = IsDualOfDictionary A B c dual.items
HasDictionaryDual A B c (Unbounded point direction) = Unit {0}
HasDictionaryDual A B c (Infeasible multipliers) = Unit {0}
