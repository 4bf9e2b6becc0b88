-- Thinning (Ziegler, Lectures on Polytopes, lectures 1 and 2): of rows G that, with lines L, generate a cone, the
-- extreme ones, as inequalities A that cut it out tell them. They lie outside of the lineality, and no row outside
-- vanishes on more of the inequalities.
use Rattle.std.specs.Prelude.{ℕ, ◌↔◌, ◌≡◌, ◌++◌, ◌<◌, ◌≤◌, ◌==◌, ◌⊎◌, Bool, IsTrue, List, [], ◌∷◌, filter, length, unsigned_abs, get_or, false}
use Rattle.std.specs.List.{All, AllPairs, Any, Contains, list_all}
use lib.IntN.{pos}
use lib.Signed.{◌<ℤ◌}
use Rattle.std.specs.List.Sorted.{IsPermutation, IsSorted}
use Rattle.std.specs.Ordering.{int_cmp}
use Rattle.std.specs.Cmp.Lexicographic.{slice_cmp}
use Rattle.pm_vector.specs.Numbers.{InRange}
use Rattle.pm_vector.specs.Divisors.{IsPrimitiveOf}
use Rattle.pm_vector.specs.Rows.{HasCols, Row, dot, entry}
use Rattle.pm_vector.specs.Bases.{row_at}
use Rattle.pm_bits.specs.Sets.{IsSubset, has}
use Rattle.pm_dd.specs.Fronts.{HalfSpaces}
use Rattle.pm_dd.specs.Tables.{IsZeroSet, zero_set}
use Rattle.pm_vector.specs.EliminationSteps.{EliminationStep}
use Rattle.pm_vector.specs.Evidence.{IsBasisOf, IsEvidence, unit}
use Rattle.pm_vector.specs.Steps.{SameDirectionModulo}
use Rattle.pm_vector.specs.Cones.{InCone}
use Rattle.pm_geom.specs.Cones.{IsFacetRow, IsValid, SameModulo}
use Rattle.pm_geom.specs.Evidence.{IsWideProduct}
use Rattle.pm_geom.specs.Generators.{VanishAt}
use Rattle.pm_geom.specs.declared.evidence.Evidence.TheVariants.{E1, E4, E5Rows}
use Rattle.pm_incidence.specs.declared.fails.ThinFail.{ThinFail}
use Rattle.pm_incidence.specs.declared.fails.ThinFail.TheVariants.{Many, Memory, Wide}
use Rattle.pm_object_type.specs.declared.object_type.ObjectType.{ObjectType}
use Rattle.pm_object_type.specs.declared.object_type.ObjectType.TheVariants.{Cone, Fan, Polytope}
use Rattle.pm_types.specs.Right.{CutsOutOf}
use Rattle.pm_limits.specs.Limits.{most_rows}

-- ---- what a refusal shows
-- the product of g with each row of A is 0
abbrev pub is_flat : List Row → Row → Bool
is_flat A g = list_all (λ a. unsigned_abs (dot a g) == 0) A

-- the lines, and then the rows of G that have product 0 with each row of A: they span the lineality
abbrev pub flat_group : List Row → List Row → List Row → List Row
flat_group G L A = L ++ filter (is_flat A) G

-- the echelon basis of these, and then some row of G
pub record IsBasisAndRow (n : ℕ) (G L A X : List Row) : Type 0 where
  pub basis : List Row
  pub pivots : List ℕ
  pub is_basis : IsBasisOf n (flat_group G L A) basis pivots
  pub row : Row
  pub listed : Contains G row
  pub rows : X ≡ basis ++ row ∷ []

-- a step in the elimination of the first, or of the row by their basis, leaves the range
pub record IsWideReduction (n : ℕ) (G L A : List Row) (e : EliminationStep) : Type 0 where
  pub rows : List Row
  pub listed : (rows ≡ flat_group G L A) ⊎ IsBasisAndRow n G L A rows
  pub shown : IsEvidence n rows e

-- the product of a row of G and one of A leaves the range
pub record IsWideIncidence (G A : List Row) (g a : Row) : Type 0 where
  pub generator : Contains G g
  pub inequality : Contains A a
  pub wide : IsWideProduct g a

-- the refusal is want of memory, or names such rows
abbrev pub IsProductFail : List Row → List Row → ThinFail → Type 0
IsProductFail G A (Wide (E4 first second)) = IsWideIncidence G A first second
IsProductFail G A (Wide e) = ⊥
IsProductFail G A (Many e) = ⊥
IsProductFail G A Memory = Unit {0}

-- the refusal is want of memory, or has evidence of one of these kinds; E4 names the row of G first
abbrev pub IsThinFail : ℕ → List Row → List Row → List Row → ThinFail → Type 0
IsThinFail n G L A (Wide (E1 step)) = IsWideReduction n G L A step
IsThinFail n G L A (Wide (E4 first second)) = IsWideIncidence G A first second
IsThinFail n G L A (Wide e) = ⊥
IsThinFail n G L A (Many e) = ⊥
IsThinFail n G L A Memory = Unit {0}

-- the half-spaces of a thing as they are taken: those of a polytope end with the row (1, 0, .., 0)
abbrev pub half_spaces : ObjectType → ℕ → List Row → List Row
half_spaces Polytope n A = A ++ unit n 0 ∷ []
half_spaces Cone n A = A
half_spaces Fan n A = A

-- the rows at these places of the half-spaces are facet rows, no two alike up to positive scale and rows that vanish,
-- of the cone that the half-spaces A and the equations E describe, however it is generated
pub record AreFacetPlaces (of : ObjectType) (n : ℕ) (A E : List Row) (places : List ℕ) : Type 0 where
  pub within : All (λ p. p < length (half_spaces of n A)) places
  pub facets : (G L : List Row) → HasCols n G → HasCols n L → CutsOutOf of n (InCone G L) A E
      → All (λ p. IsFacetRow n G L (row_at (half_spaces of n A) p)) places
  pub once : (G L : List Row) → HasCols n G → HasCols n L → CutsOutOf of n (InCone G L) A E
      → AllPairs (λ p q.
      ¬ (SameModulo n (IsValid n G L) (row_at (half_spaces of n A) p)
      (row_at (half_spaces of n A) q))) places

-- there are more than most_rows such places
pub record AreManyFacets (of : ObjectType) (n : ℕ) (A E : List Row) (places : List ℕ) : Type 0 where
  pub many : most_rows < length places
  pub facets : AreFacetPlaces of n A E places

-- there are more than most_rows of them where there are at most most_rows inequalities, and among any number where the
-- rays V, with some lines, generate what is cut out
pub record AreManyFacetsBy (of : ObjectType) (n : ℕ) (A E V : List Row) (places : List ℕ) : Type 0 where
  pub count : most_rows < length places
  pub among_few : length A ≤ most_rows → AreFacetPlaces of n A E places
  pub generated : (K : List Row) → HasCols n K → CutsOutOf of n (InCone V K) A E → AreFacetPlaces of n A E places

-- so a refusal of thinned half-spaces shows: V and L generate the cone that the half-spaces A and equations E
-- describe; E4 names the row of V first
abbrev pub IsFacetsFail : ObjectType → ℕ → List Row → List Row → List Row → ThinFail → Type 0
IsFacetsFail of n A E V (Wide (E1 step)) = IsWideReduction n (half_spaces of n A) E V step
IsFacetsFail of n A E V (Wide (E4 first second)) = IsWideIncidence (A ++ E) V second first
IsFacetsFail of n A E V (Many (E5Rows places)) = AreManyFacetsBy of n A E V places
IsFacetsFail of n A E V (Wide e) = ⊥
IsFacetsFail of n A E V (Many e) = ⊥
IsFacetsFail of n A E V Memory = Unit {0}

-- ---- how the rows are found
-- Z has for each row of G the set of the rows of A on which it vanishes
pub record AreZeroSets (A G : List Row) (Z : List (List Bool)) : Type 0 where
  pub as_many : length Z ≡ length G
  pub each : (k : ℕ) → k < length G → IsZeroSet A (length A) (row_at G k) (zero_set Z k)

-- the set has each of its places
abbrev pub IsFull : List Bool → Type 0
IsFull z = (p : ℕ) → p < length z → IsTrue (has z p)

-- the marks say which sets are full
pub record MarkFull (Z : List (List Bool)) (marks : List Bool) : Type 0 where
  pub as_many : length marks ≡ length Z
  pub full : (k : ℕ) → k < length Z → IsTrue (get_or marks k false) → IsFull (zero_set Z k)
  pub not_full : (k : ℕ) → k < length Z → IsFull (zero_set Z k) → IsTrue (get_or marks k false)

-- the set at i is not marked, and each set without a mark that has all that it has has no more, and does not stand
-- before it
pub record IsKeptSet (Z : List (List Bool)) (marks : List Bool) (i : ℕ) : Type 0 where
  pub unmarked : ¬ (IsTrue (get_or marks i false))
  pub greatest : (j : ℕ) → j < length Z → ¬ (IsTrue (get_or marks j false))
      → IsSubset (zero_set Z i) (zero_set Z j) → (i ≤ j) × IsSubset (zero_set Z j) (zero_set Z i)

-- the places of all kept sets, ascending
pub record AreKept (Z : List (List Bool)) (marks : List Bool) (ks : List ℕ) : Type 0 where
  pub each : All (λ i. (i < length Z) × IsKeptSet Z marks i) ks
  pub every : (i : ℕ) → i < length Z → IsKeptSet Z marks i → Contains ks i
  pub ascending : AllPairs (λ i j. i < j) ks

-- w is the row g, reduced by an echelon basis and made primitive
pub record IsThinned (B : List Row) (P : List ℕ) (g w : Row) : Type 0 where
  pub reduced : Row
  pub cols : length reduced ≡ length g
  pub direction : SameDirectionModulo B g reduced
  pub zeros : VanishAt P reduced
  pub primitive : IsPrimitiveOf reduced w

-- B, with pivot columns P, is the echelon basis of the rows in the lineality, and ks are the places of the rows of G
-- that are kept by their zero sets
pub record AreThinPlaces (n : ℕ) (G L A B : List Row) (P ks : List ℕ) : Type 0 where
  pub basis : IsBasisOf n (flat_group G L A) B P
  pub sets : List (List Bool)
  pub zeros : AreZeroSets A G sets
  pub marks : List Bool
  pub marked : MarkFull sets marks
  pub kept : AreKept sets marks ks

-- the rows G with the lines L generate what the equations E and the inequalities A cut out
pub record Agree (n : ℕ) (G L A E : List Row) : Type 0 where
  pub equation_cols : HasCols n E
  pub same : (x : Row) → length x ≡ n → HalfSpaces E A x ↔ InCone G L x

-- W has for each place the row of G there, thinned
pub record AreThinned (B : List Row) (P : List ℕ) (G : List Row) (ks : List ℕ) (W : List Row) : Type 0 where
  pub as_many : length W ≡ length ks
  pub each : (k : ℕ) → k < length ks → IsThinned B P (row_at G (get_or ks k 0)) (row_at W k)

-- X has these rows in lexicographic order
pub record AreSortedThinned (B : List Row) (P : List ℕ) (G : List Row) (ks : List ℕ) (X : List Row)
    : Type 0 where
  pub rows : List Row
  pub thinned : AreThinned B P G ks rows
  pub permutation : IsPermutation rows X
  pub sorted : IsSorted (slice_cmp int_cmp) X

-- the refusal is want of memory, or shows that the reduction of some row of G by the basis B leaves the range
abbrev pub IsReductionFail : ℕ → List Row → List Row → ThinFail → Type 0
IsReductionFail n B G (Wide (E1 step)) = (row : Row) × Contains G row × IsEvidence n (B ++ row ∷ []) step
IsReductionFail n B G (Wide e) = ⊥
IsReductionFail n B G (Many e) = ⊥
IsReductionFail n B G Memory = Unit {0}

-- the rays V generate more than {0}, as far as first entries tell: of a polytope one is positive
abbrev pub HasPointAmong : ObjectType → List Row → Type 0
HasPointAmong Polytope V = Any (λ v. pos 0 <ℤ entry v 0) V
HasPointAmong Cone V = Unit {0}
HasPointAmong Fan V = Unit {0}

-- the refusal is want of memory, or names a ray and a half-space or equation whose product leaves the range
abbrev pub IsInsideFail : List Row → List Row → List Row → ThinFail → Type 0
IsInsideFail A E V (Wide (E4 first second)) = IsWideIncidence (A ++ E) V second first
IsInsideFail A E V (Wide e) = ⊥
IsInsideFail A E V (Many e) = ⊥
IsInsideFail A E V Memory = Unit {0}

-- the second row of E4 has its entries in the range
abbrev pub IsRanged : ThinFail → Type 0
IsRanged (Wide (E4 first second)) = All InRange second
IsRanged f = Unit {0}

-- x lies behind the points of a polytope
abbrev pub IsBehind : ObjectType → Row → Type 0
IsBehind of x = (of ≡ Polytope) × (entry x 0 <ℤ pos 0)
