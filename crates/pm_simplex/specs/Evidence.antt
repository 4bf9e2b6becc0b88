-- Evidence that a linear program leaves the range: a lawful pivot of the dictionary of a basis, in which an operation
-- for one new fraction leaves the range.
use Rattle.pm_vector.specs.Numbers.{Ratio}
use Rattle.pm_vector.specs.Rows.{Row}
use Rattle.pm_vector.specs.Bases.{column}
use Rattle.pm_geom.specs.declared.evidence.Evidence.TheVariants.{E3}
use Rattle.pm_geom.specs.declared.evidence.Evidence.{Evidence}
use Rattle.pm_programs.specs.Dictionaries.{IsDictionaryOf, IsWidePlace, at}
use Rattle.pm_simplex.specs.Comparisons.{IsLeastOf, direction, rows_of}
use Rattle.pm_simplex.specs.Running.{IsEntering, IsFreeColumn, IsResidualColumn, IsSlackColumn, IsState}
use Rattle.pm_simplex.specs.Sizes.{IsQuotientBelow}
use Rattle.pm_simplex.specs.States.{auxiliary, is_signed, objective_column, phase_column}
use Rattle.pm_simplex.specs.declared.dictionary.Dictionary.{Dictionary}
use Rattle.pm_simplex.specs.declared.entering.Entering.{Entering}
use Rattle.pm_simplex.specs.declared.layout.Layout.{Layout}
use Rattle.std.specs.Prelude.{Bool, IsTrue, List, [], length, slice_set, true, ℕ, ◌<◌, ◌≡◌, ◌⊎◌}
use lib.IntN.{pos, ◌*ℤ◌}
use lib.Signed.{◌<ℤ◌, ◌≤ℤ◌}

-- no variable that may not be negative has a negative constant
abbrev pub IsFeasibleAt : Layout → List ℕ → List (List Ratio) → Type 0
IsFeasibleAt y P D = (i : ℕ) → i < length P → IsTrue (is_signed y (column P i)) → pos 0 ≤ℤ (at D i 0).num

-- the dictionary is feasible, the variable at j improves the objective of row z, and the ratio test allows the row l:
-- no row that hinders has a lesser quotient
pub record IsByRatioTest (y : Layout) (P N : List ℕ) (D : List (List Ratio)) (z l j : ℕ) : Type 0 where
  pub feasible : IsFeasibleAt y P D
  pub objective : auxiliary y < column P z
  pub up : Bool
  pub improves : pos 0 <ℤ (direction up *ℤ (at D z j).num)
  pub may_enter : IsFreeColumn y (column N j) ⊎ (IsSlackColumn y (column N j) × (up ≡ true))
  pub leaves : IsTrue (is_signed y (column P l))
  pub falls : (direction up *ℤ (at D l j).num) <ℤ pos 0
  pub least : (i : ℕ) → i < length P → IsTrue (is_signed y (column P i))
      → (direction up *ℤ (at D i j).num) <ℤ pos 0
      → ¬ (IsQuotientBelow (at D i 0) (at D i j) (at D l 0) (at D l j))

-- the pivot's fraction is not 0, and a free coordinate enters, or a residual leaves, or the auxiliary variable enters
-- a dictionary that is not feasible, or it is by the ratio test
pub record IsLawful (y : Layout) (P N : List ℕ) (D : List (List Ratio)) (l j : ℕ) : Type 0 where
  pub not_zero : ¬ ((at D l j).num ≡ pos 0)
  pub kind : IsFreeColumn y (column N j)
      ⊎ (IsResidualColumn y (column P l) ⊎ (((column N j ≡ auxiliary y) × ¬ (IsFeasibleAt y P D))
      ⊎ ((z : ℕ) × (z < length P) × IsByRatioTest y P N D z l j)))

-- both objectives are among the basic variables P
pub record HasObjectives (y : Layout) (P : List ℕ) : Type 0 where
  pub objective : (i : ℕ) × (i < length P) × (column P i ≡ objective_column y)
  pub phase : (i : ℕ) × (i < length P) × (column P i ≡ phase_column y)

-- in the dictionary of the basis P, which is unique and writes both objectives, the variable `enter` enters for
-- `leave`, none of them a constant or an objective, by a lawful pivot, and the new fraction of the variable `row` in
-- the column `place` has an operation that leaves the range
pub record IsPivotEvidence (y : Layout) (S : List Row) (P : List ℕ) (enter leave row place : ℕ)
    : Type 0 where
  pub others : List ℕ
  pub fractions : List (List Ratio)
  pub dictionary : IsDictionaryOf S P others fractions
  pub constant : column others 0 ≡ 0
  pub l : ℕ
  pub j : ℕ
  pub i : ℕ
  pub k : ℕ
  pub l_within : l < length P
  pub j_within : j < length others
  pub i_within : i < length P
  pub k_within : k < length others
  pub leave_is : column P l ≡ leave
  pub enter_is : column others j ≡ enter
  pub row_is : column (slice_set P l enter) i ≡ row
  pub place_is : column (slice_set others j leave) k ≡ place
  pub enters : (0 < enter) × (enter < objective_column y)
  pub leaves : leave < objective_column y
  pub objectives : HasObjectives y P
  pub lawful : IsLawful y P others fractions l j
  pub wide : IsWidePlace fractions l j i k

-- the evidence shows such a pivot for the equations S
abbrev pub IsShownBy : Layout → List Row → Evidence → Type 0
IsShownBy y S (E3 P enter leave row place) = IsPivotEvidence y S P enter leave row place
IsShownBy y S e = ⊥

-- e names the pivot of d at row l and place j, and a new fraction that has an operation that leaves the range
pub record IsWidePivot (d : Dictionary) (l j : ℕ) (e : Evidence) : Type 0 where
  pub i : ℕ
  pub k : ℕ
  pub row : i < length d.basis.items
  pub place : k < length d.others.items
  pub wide : IsWidePlace (rows_of d) l j i k
  pub is : e ≡ E3 d.basis.items (column d.others.items j) (column d.basis.items l)
      (column (slice_set d.basis.items l (column d.others.items j)) i)
      (column (slice_set d.others.items j (column d.basis.items l)) k)

-- a pivot by the lexicographic rule is lawful
abbrev pub StepIsLawful : Type 0
StepIsLawful = (y : Layout) (S : List Row) (d : Dictionary) (z l : ℕ) (e : Entering) → IsState y S d z
    → IsEntering y d z e → IsLeastOf y d e.place e.up (length d.basis.items) l
    → IsLawful y d.basis.items d.others.items (rows_of d) l e.place

-- no constant enters, no objective enters or leaves, and no dictionary is without an objective
pub record PivotsHavePlaces : Type 0 where
  pub no_constant : (y : Layout) (S : List Row) (P : List ℕ) (leave row place : ℕ)
      → ¬ (IsShownBy y S (E3 P 0 leave row place))
  pub no_objective_enters : (y : Layout) (S : List Row) (P : List ℕ) (leave row place : ℕ)
      → ¬ (IsShownBy y S (E3 P (objective_column y) leave row place))
  pub no_objective_leaves : (y : Layout) (S : List Row) (P : List ℕ) (enter row place : ℕ)
      → ¬ (IsShownBy y S (E3 P enter (objective_column y) row place))
  pub none_without : (y : Layout) (S : List Row) (enter leave row place : ℕ)
      → ¬ (IsShownBy y S (E3 [] enter leave row place))
