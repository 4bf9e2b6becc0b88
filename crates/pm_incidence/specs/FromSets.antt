-- The extreme rows of a cone that equations E and inequalities A cut out, from the sets of inequalities on which they
-- vanish (Ziegler, Lectures on Polytopes, lecture 2): each is, up to positive scale and lineality, the one row on
-- which the equations and these inequalities vanish.
use Rattle.std.specs.Prelude.{ℕ, suc, ◌≡◌, ◌<◌, ◌++◌, ◌⊎◌, ◌↔◌, List, [], ◌∷◌, filter, if◌then◌else◌, length, map, nat_eq, nat_lt}
use Rattle.std.specs.List.{All, Contains, list_any, range_with_len, slice_index_or}
use Rattle.pm_vector.specs.Cones.{InSpan}
use Rattle.pm_vector.specs.Divisors.{IsPrimitive}
use Rattle.pm_vector.specs.Rows.{IsZero, Row}
use Rattle.pm_vector.specs.Bases.{row_at}
use Rattle.pm_vector.specs.EliminationSteps.{EliminationStep}
use Rattle.pm_vector.specs.Evidence.{IsEvidence, unit}
use Rattle.pm_vector.specs.NullSpaces.{IsNull, IsNullBasis}
use Rattle.pm_geom.specs.Cones.{SameModulo}
use Rattle.pm_geom.specs.Evidence.{IsWideProduct}
use Rattle.pm_geom.specs.Generators.{IsLinealityBasis, VanishAt}
use Rattle.pm_geom.specs.declared.evidence.Evidence.TheVariants.{E1, E4}
use Rattle.pm_incidence.specs.declared.fails.ThinFail.{ThinFail}
use Rattle.pm_incidence.specs.declared.fails.ThinFail.TheVariants.{Many, Memory, Wide}
use Rattle.pm_types.specs.Right.{InOrder}
use Rattle.pm_types.specs.Values.{IndexSets}

-- the places, counted from i, of the sets that have j
abbrev pub holders_from : ℕ → List (List ℕ) → ℕ → List ℕ
holders_from i [] j = []
holders_from i (set ∷ sets) j = if list_any (λ k. nat_eq k j) set then i ∷ holders_from (suc i) sets j
    else holders_from (suc i) sets j

-- for each column the places of the sets that have it
abbrev pub turned : IndexSets → List (List ℕ)
turned s = map (holders_from 0 s.rows) (range_with_len 0 s.cols)

-- the rows of A at the places of a set that lie below its length
abbrev pub rows_at : List Row → List ℕ → List Row
rows_at A set = map (row_at A) (filter (λ k. nat_lt k (length A)) set)

-- the equations, the inequalities of the set, and the unit rows of the columns P
abbrev pub determining : ℕ → List Row → List Row → List ℕ → List ℕ → List Row
determining n E A set P = E ++ rows_at A set ++ map (unit n) P

-- X determines the row of a set: P are the pivot columns of the echelon basis of the lineality
pub record IsDetermining (n : ℕ) (E A : List Row) (sets : List (List ℕ)) (X : List Row) : Type 0 where
  pub lines : List Row
  pub pivots : List ℕ
  pub lineality : IsNullBasis n (E ++ A) lines pivots
  pub set : List ℕ
  pub listed : Contains sets set
  pub rows : X ≡ determining n E A set pivots

-- rows in canonical form for the extreme rows V of S, in their order
pub record AreCanonicalFor (n : ℕ) (S : Row → Type 0) (V rows : List Row) : Type 0 where
  pub order : InOrder (SameModulo n S) V rows
  pub primitive : All IsPrimitive rows
  pub reduced : (K : List Row) (P : List ℕ) → IsLinealityBasis n S K P → All (VanishAt P) rows

-- each row is 0, or its multiples are exactly the rows of n entries on which all rows that determine the row of its
-- set vanish
pub record AreDetermined (n : ℕ) (E A : List Row) (sets : List (List ℕ)) (rows : List Row) : Type 0 where
  pub each : (lines : List Row) (P : List ℕ) → IsNullBasis n (E ++ A) lines P → (j : ℕ) → j < length sets
      → IsZero (row_at rows j) ⊎ ((x : Row) → length x ≡ n → InSpan (row_at rows j ∷ []) x
      ↔ IsNull (determining n E A (slice_index_or sets j []) P) x)

-- a step in the elimination of the equations and inequalities, or of rows that determine the row of a set, leaves the
-- range
pub record IsWideOfSets (n : ℕ) (E A : List Row) (sets : List (List ℕ)) (e : EliminationStep)
    : Type 0 where
  pub rows : List Row
  pub listed : (rows ≡ E ++ A) ⊎ IsDetermining n E A sets rows
  pub shown : IsEvidence n rows e

-- the product of a row that is determined with one of the inequalities leaves the range
pub record IsWideSign (n : ℕ) (E A : List Row) (sets : List (List ℕ)) (found cut : Row) : Type 0 where
  pub rows : List Row
  pub determining : IsDetermining n E A sets rows
  pub column : List ℕ
  pub found_alone : IsNullBasis n rows (found ∷ []) column
  pub listed : Contains A cut
  pub wide : IsWideProduct found cut

-- the refusal is want of memory, or has evidence of one of these kinds, of which the second names the determined row
-- first
abbrev pub IsSetsFail : ℕ → List Row → List Row → List (List ℕ) → ThinFail → Type 0
IsSetsFail n E A sets (Wide (E1 step)) = IsWideOfSets n E A sets step
IsSetsFail n E A sets (Wide (E4 first second)) = IsWideSign n E A sets first second
IsSetsFail n E A sets (Wide e) = ⊥
IsSetsFail n E A sets (Many e) = ⊥
IsSetsFail n E A sets Memory = Unit {0}

-- the same, where the determined row comes second
abbrev pub IsTurnedSetsFail : ℕ → List Row → List Row → List (List ℕ) → ThinFail → Type 0
IsTurnedSetsFail n E A sets (Wide (E1 step)) = IsWideOfSets n E A sets step
IsTurnedSetsFail n E A sets (Wide (E4 first second)) = IsWideSign n E A sets second first
IsTurnedSetsFail n E A sets (Wide e) = ⊥
IsTurnedSetsFail n E A sets (Many e) = ⊥
IsTurnedSetsFail n E A sets Memory = Unit {0}
