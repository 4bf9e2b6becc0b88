-- Where an elimination by wide numbers is given up: a step of it is lost, since no row in the range is what it makes.
use Rattle.pm_vector.specs.Bases.{column, row_at}
use Rattle.pm_vector.specs.Cones.{IsIndependent}
use Rattle.pm_vector.specs.Divisors.{IsPrimitiveOf}
use Rattle.pm_vector.specs.Numbers.{InRange}
use Rattle.pm_vector.specs.Rows.{Row}
use Rattle.pm_vector.specs.Evidence.{IsBasisOf, IsExtended}
use Rattle.pm_vector.specs.Steps.{IsPivotRow, IsReducedOnce, ReducedBy}
use Rattle.pm_elim.specs.declared.wide_rounds.WideFail.{WideFail}
use Rattle.pm_elim.specs.declared.wide_rounds.WideFail.TheVariants.{Lost, Memory}
use Rattle.std.specs.Prelude.{All, List, length, remove, take, ℕ, ◌+◌, ◌<◌, ◌⊎◌}

-- no row in the range is primitive in the direction of d
abbrev pub PrimitiveIsLost : Row → Type 0
PrimitiveIsLost d = (u : Row) → IsPrimitiveOf d u → All InRange u → ⊥

-- no row in the range is r, reduced by the basis row b in the column c
abbrev pub StepIsLost : Row → Row → ℕ → Type 0
StepIsLost r b c = (m : Row) → IsReducedOnce r b c m → All InRange m → ⊥

-- the next row, reduced by the basis rows before the place `by`, is `part`, and its step by the row at that place is
-- lost
pub record IsLostOnNext (B : List Row) (P : List ℕ) (next : Row) : Type 0 where
  pub by : ℕ
  pub part : Row
  pub within : by < length B
  pub reduced : ReducedBy (take by B) (take by P) next part
  pub lost : StepIsLost part (row_at B by) (column P by)

-- the step of one of the rows of B by x in the column c is lost
pub record IsLostOnSome (B : List Row) (x : Row) (c : ℕ) : Type 0 where
  pub place : ℕ
  pub within : place < length B
  pub lost : StepIsLost (row_at B place) x c

-- the step of one of the basis rows by the next row, which is reduced by all of them and made primitive with a
-- positive pivot, is lost
pub record IsLostOnOlder (B : List Row) (P : List ℕ) (next : Row) : Type 0 where
  pub rest : Row
  pub new_column : ℕ
  pub new : Row
  pub reduced : ReducedBy B P next rest
  pub pivot : IsPivotRow rest new_column new
  pub lost : IsLostOnSome B new new_column

-- one of these two: a step of the round that takes the next row is lost
abbrev pub IsLostRound : List Row → List ℕ → Row → Type 0
IsLostRound B P next = IsLostOnNext B P next ⊎ IsLostOnOlder B P next

-- `basis` is the echelon basis of the first `front` rows of X, and with the row after them one of these two steps is
-- lost
pub record IsLost (n : ℕ) (X : List Row) : Type 0 where
  pub front : ℕ
  pub basis : List Row
  pub pivots : List ℕ
  pub within : front < length X
  pub is_basis : IsBasisOf n (take front X) basis pivots
  pub step : IsLostRound basis pivots (row_at X front)

-- so it is in the elimination of the extended list of X, by which a null space is found
pub record IsLostOnExtended (n : ℕ) (X : List Row) : Type 0 where
  pub listed : List Row
  pub extended : IsExtended n X listed
  pub lost : IsLost (length X + n) listed

-- or in that of X without one of its rows, by which a dual row is found
pub record IsLostWithoutOne (n : ℕ) (X : List Row) : Type 0 where
  pub place : ℕ
  pub within : place < length X
  pub lost : IsLostOnExtended n (remove X place)

-- dual rows are not found: the rows are dependent, or one of these eliminations is lost
abbrev pub HasNoWideDuals : ℕ → List Row → Type 0
HasNoWideDuals n X = ¬ (IsIndependent X) ⊎ (IsLostOnExtended n X ⊎ IsLostWithoutOne n X)

-- Q holds where an elimination by wide numbers is given up for a row out of the range
abbrev pub IfLost : WideFail → Type 0 → Type 0
IfLost Lost Q = Q
IfLost Memory Q = Unit {0}
