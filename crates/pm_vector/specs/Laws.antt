-- The laws of bases that this crate proves (Hoffman and Kunze, Linear Algebra, sections 1.4 and 2.3 to 2.5).
use Rattle.std.specs.Prelude.{ℕ, ◌≡◌, ◌<◌, ◌≤◌, List, [], ◌∷◌, ◌++◌, length, slice_set}
use Rattle.pm_vector.specs.Rows.{Row, entry, times, difference, Same, IsZero}
use Rattle.pm_vector.specs.Cones.{InSpan, IsIndependent}
use Rattle.pm_vector.specs.Bases.{row_at, column, SameSpan, IsReducedBasis, IsEchelonBasis, IsRank}
use lib.IntN.{ℤ, pos}

-- two echelon bases of one span are equal, and so are their pivot columns
abbrev pub EchelonIsUnique : Type 0
EchelonIsUnique = (n : ℕ) (R R' : List Row) (P P' : List ℕ) → IsEchelonBasis n R P → IsEchelonBasis n R' P'
    → SameSpan R R' → (R ≡ R') × (P ≡ P')

-- two reduced bases of one span with the same columns are equal: a dictionary is determined by its basis (Chvatal,
-- Linear Programming, chapter 2)
abbrev pub ReducedIsUnique : Type 0
ReducedIsUnique = (n : ℕ) (R R' : List Row) (P : List ℕ) → IsReducedBasis n R P → IsReducedBasis n R' P
    → SameSpan R R' → R ≡ R'

-- the rows of a reduced basis are independent
abbrev pub BasisIsIndependent : Type 0
BasisIsIndependent = (n : ℕ) (R : List Row) (P : List ℕ) → IsReducedBasis n R P → IsIndependent R

-- a row of the span is zero if it is 0 at the pivot columns
abbrev pub ZeroByColumns : Type 0
ZeroByColumns = (n : ℕ) (R : List Row) (P : List ℕ) → IsReducedBasis n R P → (x : Row) → InSpan R x
    → ((i : ℕ) → i < length R → entry x (column P i) ≡ pos 0) → IsZero x

-- independent rows of a span are at most as many as the rows that span it
abbrev pub IndependentAreFew : Type 0
IndependentAreFew = (X Y : List Row) → IsIndependent X → ((i : ℕ) → i < length X → InSpan Y (row_at X i))
    → length X ≤ length Y

-- the rank is one number
abbrev pub RankIsDetermined : Type 0
RankIsDetermined = (X : List Row) (k m : ℕ) → IsRank X k → IsRank X m → k ≡ m

-- a reduced basis of the span has as many rows as the rank says
abbrev pub BasisGivesRank : Type 0
BasisGivesRank = (n : ℕ) (R : List Row) (P : List ℕ) (X : List Row) → IsReducedBasis n R P → SameSpan R X
    → IsRank X (length R)

-- row operations keep the span: a row of the span is appended; a row r becomes p r - q b, with b another row; a row
-- becomes another number of times a common row
pub record SpanIsKept (R : List Row) : Type 0 where
  pub appended : (x : Row) → InSpan R x → SameSpan R (R ++ x ∷ [])
  pub lowered : (i j : ℕ) (p q : ℤ) → i < length R → j < length R → ¬ (i ≡ j) → ¬ (p ≡ pos 0)
      → SameSpan R (slice_set R i (difference p (row_at R i) q (row_at R j)))
  pub multiplied : (i : ℕ) (k : ℤ) → i < length R → ¬ (k ≡ pos 0)
      → SameSpan R (slice_set R i (times k (row_at R i)))
  pub divided : (i : ℕ) (k : ℤ) (y : Row) → i < length R → ¬ (k ≡ pos 0) → Same (row_at R i) (times k y)
      → SameSpan R (slice_set R i y)
