-- Redundant rows (Ziegler, Lectures on Polytopes, lectures 1 and 2; Schrijver, Theory of Linear and Integer
-- Programming, section 8.1): those that the others generate. Where none is left, the rows outside of the lineality
-- are the extreme ones, each once.
use Rattle.pm_vector.specs.Cones.{InCone}
use Rattle.pm_vector.specs.Rows.{Row, opposite}
use Rattle.pm_vector.specs.Bases.{row_at}
use Rattle.pm_vector.specs.EliminationSteps.{EliminationStep}
use Rattle.pm_vector.specs.Evidence.{IsBasisOf, IsEvidence, unit}
use Rattle.pm_geom.specs.StatedOrder.{rows_marked}
use Rattle.pm_geom.specs.declared.evidence.Evidence.TheVariants.{E1, E5Rows}
use Rattle.pm_incidence.specs.Thinning.{AreManyFacets, half_spaces}
use Rattle.pm_incidence.specs.declared.fails.ThinFail.{ThinFail}
use Rattle.pm_incidence.specs.declared.fails.ThinFail.TheVariants.{Many, Memory, Wide}
use Rattle.pm_object_type.specs.declared.object_type.ObjectType.{ObjectType}
use Rattle.pm_object_type.specs.declared.object_type.ObjectType.TheVariants.{Polytope}
use Rattle.pm_simplex.specs.Generated.{IsWideThinning}
use Rattle.pm_simplex.specs.Lineality.{IsLinealityBasisAndRow, MarkLines, line_group}
use Rattle.std.specs.List.{All, AllPairs, Contains}
use Rattle.std.specs.Prelude.{Bool, IsTrue, List, false, get_or, length, slice_set, true, ℕ, ◌<◌, ◌≡◌, ◌⊎◌}
use Rattle.pm_limits.specs.Limits.{most_rows}

-- ---- rows that are enough, and of which none is redundant
-- the marked rows generate the cone
pub record IsEnough (G L : List Row) (marks : List Bool) : Type 0 where
  pub as_many : length marks ≡ length G
  pub all : (x : Row) → InCone G L x → InCone (rows_marked true marks G) L x

-- the row at i is marked, and is outside of the lineality
abbrev pub IsKeptRow : List Bool → List Bool → ℕ → Type 0
IsKeptRow lines marks i = IsTrue (get_or marks i false) × ¬ (IsTrue (get_or lines i false))

-- the row at i is redundant: the other marked rows generate it
abbrev pub IsRedundant : List Row → List Row → List Bool → ℕ → Type 0
IsRedundant G L marks i = InCone (rows_marked true (slice_set marks i false) G) L (row_at G i)

-- the marked rows are enough, and no kept row before place i is redundant
pub record IsThinnedTo (G L : List Row) (lines : List Bool) (i : ℕ) (marks : List Bool) : Type 0 where
  pub enough : IsEnough G L marks
  pub needed : (k : ℕ) → k < i → IsKeptRow lines marks k → ¬ (IsRedundant G L marks k)

-- the places of all kept rows, ascending
pub record AreKeptPlaces (G : List Row) (lines marks : List Bool) (ks : List ℕ) : Type 0 where
  pub each : All (λ i. (i < length G) × IsKeptRow lines marks i) ks
  pub every : (i : ℕ) → i < length G → IsKeptRow lines marks i → Contains ks i
  pub ascending : AllPairs (λ i j. i < j) ks

-- B, with pivot columns P, is the echelon basis of the lineality's rows, and ks are the places of the rows outside
-- that are left where none of these is redundant
pub record AreIrredundantPlaces (n : ℕ) (G L B : List Row) (P ks : List ℕ) : Type 0 where
  pub lines : List Bool
  pub marked : MarkLines G L lines
  pub basis : IsBasisOf n (line_group G L lines) B P
  pub marks : List Bool
  pub thinned : IsThinnedTo G L lines (length G) marks
  pub kept : AreKeptPlaces G lines marks ks

-- ---- half-spaces
-- the half-spaces A and the equations E of a polytope leave it no point: they generate the opposite of (1, 0, .., 0)
abbrev pub LeavesNoPoint : ObjectType → ℕ → List Row → List Row → Type 0
LeavesNoPoint of n A E = (of ≡ Polytope) × InCone (half_spaces of n A) E (opposite (unit n 0))

-- ---- what a refusal shows
-- a step in the elimination of these, or of the row by their basis, leaves the range
pub record IsWideRedundancy (n : ℕ) (G L : List Row) (e : EliminationStep) : Type 0 where
  pub lines : List Bool
  pub marked : MarkLines G L lines
  pub rows : List Row
  pub listed : (rows ≡ line_group G L lines) ⊎ IsLinealityBasisAndRow n G L lines rows
  pub shown : IsEvidence n rows e

-- the refusal is want of memory, or has evidence of such a step (E1) or of a program (E3)
abbrev pub IsRedundancyFail : ℕ → List Row → List Row → ThinFail → Type 0
IsRedundancyFail n G L (Wide (E1 step)) = IsWideRedundancy n G L step
IsRedundancyFail n G L (Wide e) = IsWideThinning n G L e
IsRedundancyFail n G L (Many e) = ⊥
IsRedundancyFail n G L Memory = Unit {0}

-- more than most_rows such places
pub record AreManyThinPlaces (n : ℕ) (G L : List Row) (places : List ℕ) : Type 0 where
  pub many : most_rows < length places
  pub basis : List Row
  pub pivots : List ℕ
  pub thin : AreIrredundantPlaces n G L basis pivots places

-- so too where such places are named
abbrev pub IsHalvesFail : ℕ → List Row → List Row → ThinFail → Type 0
IsHalvesFail n G L (Wide (E1 step)) = IsWideRedundancy n G L step
IsHalvesFail n G L (Wide e) = IsWideThinning n G L e
IsHalvesFail n G L (Many (E5Rows places)) = AreManyThinPlaces n G L places
IsHalvesFail n G L (Many e) = ⊥
IsHalvesFail n G L Memory = Unit {0}

-- the refusal for half-spaces A and equations E, as they are taken: the same evidence, or more than most_rows facet
-- rows among the half-spaces
abbrev pub IsRowsFail : ObjectType → ℕ → List Row → List Row → ThinFail → Type 0
IsRowsFail of n A E (Wide (E1 step)) = IsWideRedundancy n (half_spaces of n A) E step
IsRowsFail of n A E (Wide e) = IsWideThinning n (half_spaces of n A) E e
IsRowsFail of n A E (Many (E5Rows places)) = AreManyFacets of n A E places
IsRowsFail of n A E (Many e) = ⊥
IsRowsFail of n A E Memory = Unit {0}

-- ---- one row
-- the refusal is want of memory, or has evidence of a program
abbrev pub IsProgramFail : ℕ → List Row → List Row → ThinFail → Type 0
IsProgramFail n G L (Wide e) = IsWideThinning n G L e
IsProgramFail n G L (Many e) = ⊥
IsProgramFail n G L Memory = Unit {0}
