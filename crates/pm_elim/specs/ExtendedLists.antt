-- How a null space is found: in the echelon basis of the extended list of a basis B.
use Rattle.pm_vector.specs.Rows.{Row}
use Rattle.pm_vector.specs.Bases.{column}
use Rattle.pm_vector.specs.Evidence.{IsBasisOf, IsExtended, IsWideStep}
use Rattle.pm_vector.specs.EliminationSteps.{EliminationStep}
use Rattle.std.specs.Prelude.{List, drop, length, map, ℕ, ◌+◌, ◌-◌, ◌<◌, ◌≡◌, ◌≤◌}

-- the rows of E from the place h on, without their first k entries
abbrev pub tails : ℕ → ℕ → List Row → List Row
tails k h E = map (drop k) (drop h E)

-- the columns Q from the place h on, counted from the column k on
abbrev pub tail_columns : ℕ → ℕ → List ℕ → List ℕ
tail_columns k h Q = map (λ q. q - k) (drop h Q)

-- e shows a step of the extended list of B that leaves the range
pub record IsWideOnExtended (n : ℕ) (B : List Row) (e : EliminationStep) : Type 0 where
  pub listed : List Row
  pub extended : IsExtended n B listed
  pub step : IsWideStep (length B + n) listed e

-- T and R are the tails of the rows of E whose columns in Q are not before k, and these columns, counted from k
pub record AreTails (k : ℕ) (E : List Row) (Q : List ℕ) (T : List Row) (R : List ℕ) : Type 0 where
  pub h : ℕ
  pub within : h ≤ length E
  pub before : (i : ℕ) → i < h → column Q i < k
  pub first : h < length Q → k ≤ column Q h
  pub rows : T ≡ tails k h E
  pub columns : R ≡ tail_columns k h Q

-- E, with pivot columns Q, is the echelon basis of the extended list of B
pub record IsExtendedBasis (n : ℕ) (B E : List Row) (Q : List ℕ) : Type 0 where
  pub listed : List Row
  pub extended : IsExtended n B listed
  pub basis : IsBasisOf (length B + n) listed E Q
