-- The Minkowski sum of two polytopes, by rows (Ziegler, Lectures on Polytopes, section 1.1): the sums of their
-- points, the far rows of both, and the lines of both.
use Rattle.std.specs.Prelude.{ℕ, ◌≡◌, None, Some, List, [], ◌∷◌, ◌++◌}
use Rattle.std.specs.List.{All}
use Rattle.pm_vector.specs.Numbers.{Ratio}
use Rattle.pm_vector.specs.Rows.{Row}
use Rattle.pm_files.specs.Files.{SavedFile}
use Rattle.pm_fraction.specs.FractionRows.{ArePrimitiveRowsOf}
use Rattle.pm_fraction.specs.Matrices.{FractionMatrix}
use Rattle.pm_object.specs.Known.{cols_at, rows_at}
use Rattle.pm_types.specs.Parts.{value_over}
use Rattle.pm_object.specs.State.{State}
use Rattle.pm_props.specs.declared.property.PropId.TheVariants.{InputLineality, LinealitySpace, Points, Vertices}
use Rattle.pm_build.specs.Conditions.{sum_refusal}
use Rattle.pm_build.specs.Objects.{polytope_with, put_below}
use Rattle.pm_build.specs.Points.{far, pairs, points}
use Rattle.pm_build.specs.SumSteps.{IsSumRow, IsWideAt, SumStays}
use Rattle.pm_build.specs.declared.fails.SumFail.{SumFail}
use Rattle.pm_build.specs.declared.fails.SumFail.TheVariants.{Memory, NotFit, Wide}

-- one row for each pair, that of the sum of its points
abbrev pub AreSums : List (Row × Row) → List (List Ratio) → Type 0
AreSums [] [] = Unit {0}
AreSums [] (r ∷ rows) = ⊥
AreSums (p ∷ pairs) [] = ⊥
AreSums (p ∷ pairs) (r ∷ rows) = IsSumRow p.0 p.1 r × AreSums pairs rows

-- v, w is the first pair whose sum is too wide, and k its first column that is
pub record IsFirstWide (pairs : List (Row × Row)) (v w : Row) (k : ℕ) : Type 0 where
  pub before : List (Row × Row)
  pub after : List (Row × Row)
  pub place : pairs ≡ before ++ (v, w) ∷ after
  pub stay : All (λ p. SumStays p.0 p.1) before
  pub wide : IsWideAt v w k

-- V and W are the primitive rows of the points among the vertices of a and of b
pub record ArePoints (a b : State) (V W : List Row) : Type 0 where
  pub first : ArePrimitiveRowsOf (points (rows_at Vertices a)) V
  pub second : ArePrimitiveRowsOf (points (rows_at Vertices b)) W

-- the sums of the points of each vertex of a and each of b, in order, then the far rows of a, then those of b
pub record AreSumPoints (a b : State) (rows : List (List Ratio)) : Type 0 where
  pub first : List Row
  pub second : List Row
  pub points : ArePoints a b first second
  pub sums : List (List Ratio)
  pub are_sums : AreSums (pairs first second) sums
  pub all : rows ≡ sums ++ (far (rows_at Vertices a) ++ far (rows_at Vertices b))

-- the lines of a, then those of b
abbrev pub sum_lines : State → State → List (List Ratio)
sum_lines a b = rows_at LinealitySpace a ++ rows_at LinealitySpace b

-- the polytope of these points and lines
pub record IsSumFile (a b : State) (f : SavedFile) : Type 0 where
  pub rows : List (List Ratio)
  pub points : AreSumPoints a b rows
  pub file : f
      ≡ polytope_with ((Points, value_over (cols_at a) rows)
      ∷ (InputLineality, value_over (cols_at a) (sum_lines a b)) ∷ [])

-- v, w and k are the first pair of points, in order, and the first column where a number leaves the range
pub record IsFirstWideSum (a b : State) (v w : Row) (k : ℕ) : Type 0 where
  pub first : List Row
  pub second : List Row
  pub points : ArePoints a b first second
  pub wide : IsFirstWide (pairs first second) v w k

-- why there is no sum: the first condition that fails; or, where none does, a sum that is too wide; want of memory
-- may come at any time
abbrev pub IsSumRefused : State → State → SumFail → Type 0
IsSumRefused a b (NotFit c) = sum_refusal a b ≡ Some c
IsSumRefused a b (Wide v w k) = (sum_refusal a b ≡ None) × IsFirstWideSum a b v w k
IsSumRefused a b Memory = Unit {0}

-- ---- what the calls on the way answer
-- below the rows of m stand the sums of these pairs
pub record AreSumsBelow (m : FractionMatrix) (pairs : List (Row × Row)) (made : FractionMatrix)
    : Type 0 where
  pub rows : List (List Ratio)
  pub sums : AreSums pairs rows
  pub put : made ≡ put_below m rows

-- the sum of v and w is too wide
abbrev pub IsWideSum : Row → Row → SumFail → Type 0
IsWideSum v w (Wide x y k) = (x ≡ v) × (y ≡ w) × IsWideAt v w k
IsWideSum v w (NotFit c) = ⊥
IsWideSum v w Memory = Unit {0}

-- the first of these pairs whose sum is
abbrev pub IsWideAmong : List (Row × Row) → SumFail → Type 0
IsWideAmong pairs (Wide v w k) = IsFirstWide pairs v w k
IsWideAmong pairs (NotFit c) = ⊥
IsWideAmong pairs Memory = Unit {0}

-- the first pair of points of a and b whose sum is
abbrev pub IsWideSumOf : State → State → SumFail → Type 0
IsWideSumOf a b (Wide v w k) = IsFirstWideSum a b v w k
IsWideSumOf a b (NotFit c) = ⊥
IsWideSumOf a b Memory = Unit {0}
