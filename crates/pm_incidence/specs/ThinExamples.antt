-- The definitions of thinning and of rows from sets, read on rows of two entries and sets of three places: what
-- holds, and what does not.
use Rattle.pm_vector.specs.Cones.{InCone}
use Rattle.pm_vector.specs.Rows.{Row}
use Rattle.pm_vector.specs.Evidence.{unit}
use Rattle.pm_geom.specs.declared.evidence.Evidence.TheVariants.{E4, E5Rows}
use Rattle.pm_incidence.specs.Examples.{pair}
use Rattle.pm_incidence.specs.FromSets.{AreCanonicalFor, AreDetermined, IsDetermining, IsSetsFail, IsTurnedSetsFail, determining, holders_from, rows_at, turned}
use Rattle.pm_incidence.specs.Thinning.{AreFacetPlaces, AreKept, AreManyFacets, AreZeroSets, HasPointAmong, IsBasisAndRow, IsBehind, IsFacetsFail, IsKeptSet, IsThinFail, IsThinned, IsWideIncidence, MarkFull, flat_group, half_spaces, is_flat}
use Rattle.pm_incidence.specs.declared.fails.ThinFail.TheVariants.{Many, Memory, Wide}
use Rattle.pm_object_type.specs.declared.object_type.ObjectType.TheVariants.{Cone, Fan, Polytope}
use Rattle.std.specs.List.{range_with_len}
use Rattle.std.specs.Prelude.{ℕ, ◌-◌, ◌<◌, ◌≤◌, ◌^◌, ◌≡◌, Bool, List, [], ◌∷◌, false, map, replicate, suc, true}
use lib.IntN.{negsuc, pos}
use Rattle.pm_limits.specs.Limits.{most_rows}

-- ---- rows
abbrev pub x_axis : Row
x_axis = pair (pos 1) (pos 0)

abbrev pub y_axis : Row
y_axis = pair (pos 0) (pos 1)

-- (-1, 0)
abbrev pub x_turned : Row
x_turned = pair (negsuc 0) (pos 0)

-- (1, 1) and (1, -1)
abbrev pub diagonal : Row
diagonal = pair (pos 1) (pos 1)

abbrev pub antidiagonal : Row
antidiagonal = pair (pos 1) (negsuc 0)

-- two rows whose product is 2 ^ 128
abbrev pub large : Row
large = pair (pos (2 ^ 64)) (pos 0)

abbrev pub larger : Row
larger = pair (pos (2 ^ 64)) (pos 1)

-- its product with (a, b) is a - 2 ^ 64 b
abbrev pub steep : Row
steep = pair (pos 1) (negsuc 18446744073709551615)

-- (1, 1), (0, 1) and (2, 2)
abbrev pub generators : List Row
generators = diagonal ∷ y_axis ∷ pair (pos 2) (pos 2) ∷ []

pub record ThinningIsRead : Type 0 where
  -- a row is flat where each product is 0, and a product that is not 0 is enough against it
  pub flat : is_flat (antidiagonal ∷ pair (pos 2) (negsuc 1) ∷ []) diagonal ≡ true
  pub not_flat : is_flat (antidiagonal ∷ y_axis ∷ []) diagonal ≡ false
  -- the lines come first, and then the flat rows alone
  pub group : flat_group generators (x_axis ∷ []) (antidiagonal ∷ [])
      ≡ x_axis ∷ diagonal ∷ pair (pos 2) (pos 2) ∷ []
  -- of (1, 1) and (0, 1) the second is flat for x >= 0: it is a basis, and the first may come behind it, not before
  pub basis_and_row : IsBasisAndRow 2 (diagonal ∷ y_axis ∷ []) [] (x_axis ∷ []) (y_axis ∷ diagonal ∷ [])
  pub row_and_basis : ¬ (IsBasisAndRow 2 (diagonal ∷ y_axis ∷ []) [] (x_axis ∷ []) (diagonal ∷ y_axis ∷ []))
  -- only a polytope has its far face among its half-spaces, as the last
  pub polytope : half_spaces Polytope 2 (y_axis ∷ []) ≡ y_axis ∷ x_axis ∷ []
  pub cone : half_spaces Cone 2 (y_axis ∷ []) ≡ y_axis ∷ []
  pub fan : half_spaces Fan 2 (y_axis ∷ []) ≡ y_axis ∷ []
  -- a point has a positive first entry; a ray at infinity is none, nor is a row behind
  pub point : HasPointAmong Polytope (y_axis ∷ x_axis ∷ [])
  pub no_point : ¬ (HasPointAmong Polytope (y_axis ∷ x_turned ∷ []))
  pub cone_point : HasPointAmong Cone []
  pub behind : IsBehind Polytope x_turned
  pub far : ¬ (IsBehind Polytope (pair (pos 0) (negsuc 0)))
  pub cone_behind : ¬ (IsBehind Cone x_turned)
  -- evidence names a row of each list, the generator first, whose product leaves the range
  pub wide : IsWideIncidence (large ∷ []) (larger ∷ []) large larger
  pub wide_turned : ¬ (IsWideIncidence (large ∷ []) (larger ∷ []) larger large)
  pub in_range : ¬ (IsWideIncidence (x_axis ∷ []) (larger ∷ []) x_axis larger)
  pub fail : IsThinFail 2 (large ∷ []) [] (larger ∷ []) (Wide (E4 large larger))
  pub fail_turned : ¬ (IsThinFail 2 (large ∷ []) [] (larger ∷ []) (Wide (E4 larger large)))
  pub memory : IsThinFail 2 [] [] [] Memory
  -- of facets it names the ray first, and then a half-space or an equation
  pub facets_fail : IsFacetsFail Cone 2 (larger ∷ []) [] (large ∷ []) (Wide (E4 large larger))
  pub equation_fail : IsFacetsFail Cone 2 [] (larger ∷ []) (large ∷ []) (Wide (E4 large larger))
  pub facets_turned : ¬ (IsFacetsFail Cone 2 (larger ∷ []) [] (large ∷ []) (Wide (E4 larger large)))
  pub facets_memory : IsFacetsFail Cone 2 [] [] [] Memory
  -- (2, 4) reduced by (0, 1) and made primitive is (1, 0): not (1, 1), not (2, 0)
  pub thinned : IsThinned (y_axis ∷ []) (1 ∷ []) (pair (pos 2) (pos 4)) x_axis
  pub not_reduced : ¬ (IsThinned (y_axis ∷ []) (1 ∷ []) (pair (pos 2) (pos 4)) diagonal)
  pub not_primitive : ¬ (IsThinned (y_axis ∷ []) (1 ∷ []) (pair (pos 2) (pos 4)) (pair (pos 2) (pos 0)))

-- ---- sets of places
abbrev pub bits : Bool → Bool → Bool → List Bool
bits a b c = a ∷ b ∷ c ∷ []

-- {0, 1}, all three places, {0, 1} again, {2} and {0}
abbrev pub sets : List (List Bool)
sets = bits true true false ∷ bits true true true ∷ bits true true false ∷ bits false false true
    ∷ bits true false false ∷ []

-- the second is full
abbrev pub marks : List Bool
marks = false ∷ true ∷ false ∷ false ∷ false ∷ []

pub record KeptAreRead : Type 0 where
  -- (1, 0) vanishes on the first of (0, 1) and (1, -1), and (1, 1) on the second
  pub zeros : AreZeroSets (y_axis ∷ antidiagonal ∷ []) (x_axis ∷ diagonal ∷ [])
      ((true ∷ false ∷ []) ∷ (false ∷ true ∷ []) ∷ [])
  pub zeros_turned
      : ¬ (AreZeroSets (y_axis ∷ antidiagonal ∷ []) (x_axis ∷ diagonal ∷ [])
      ((false ∷ true ∷ []) ∷ (true ∷ false ∷ []) ∷ []))
  -- the mark of a full set, one that is left out, and one too many
  pub marked : MarkFull sets marks
  pub none_marked : ¬ (MarkFull sets (false ∷ false ∷ false ∷ false ∷ false ∷ []))
  pub too_many : ¬ (MarkFull sets (true ∷ true ∷ false ∷ false ∷ false ∷ []))
  -- of two equal sets the first is kept; a full set is not, nor one that another has; a small one that no other has is
  pub first : IsKeptSet sets marks 0
  pub second : ¬ (IsKeptSet sets marks 2)
  pub full : ¬ (IsKeptSet sets marks 1)
  pub greater : ¬ (IsKeptSet sets marks 4)
  pub small : IsKeptSet sets marks 3
  -- the places are these two, ascending
  pub kept : AreKept sets marks (0 ∷ 3 ∷ [])
  pub descending : ¬ (AreKept sets marks (3 ∷ 0 ∷ []))
  pub left_out : ¬ (AreKept sets marks (0 ∷ []))
  pub doubled : ¬ (AreKept sets marks (0 ∷ 2 ∷ 3 ∷ []))

-- ---- facets of the half line x >= 0
abbrev pub half : List Row
half = (pos 1 ∷ []) ∷ []

-- x1 >= 0, x2 >= 0 and so on, of n columns: with the far face x0 >= 0 a polytope has one half-space for each column
abbrev pub orthant : ℕ → List Row
orthant n = map (unit n) (range_with_len 1 (n - 1))

pub record FacetPlacesAreRead : Type 0 where
  -- no place past the rows, no place twice, and no row that vanishes on all of the line
  pub past : ¬ (AreFacetPlaces Cone 1 half [] (1 ∷ []))
  pub past_of_none : ¬ (AreFacetPlaces Fan 1 half [] (1 ∷ []))
  pub twice : ¬ (AreFacetPlaces Cone 1 half [] (0 ∷ 0 ∷ []))
  pub zero : ¬ (AreFacetPlaces Cone 1 ((pos 0 ∷ []) ∷ []) [] (0 ∷ []))
  -- of a polytope the far face may be named, one place past the inequalities
  pub far : AreFacetPlaces Polytope 1 [] [] (0 ∷ [])
  -- one facet is not too many, and other evidence says nothing of facets
  pub few : ¬ (AreManyFacets Polytope 1 [] [] (0 ∷ []))
  pub few_fail : ¬ (IsFacetsFail Polytope 1 [] [] half (Many (E5Rows (0 ∷ []))))
  -- nor is one facet named again and again, of a half line by one row or by many
  pub repeated_fail : (n : ℕ) (V : List Row) → most_rows < n
      → ¬ (IsFacetsFail Cone 1 half [] V (Many (E5Rows (replicate n 0))))
  pub repeated_by_many : (m n : ℕ) → most_rows < n
      → ¬ (IsFacetsFail Cone 1 (replicate (suc m) (pos 1 ∷ [])) [] half (Many (E5Rows (replicate n 0))))
  pub many_by_product : ¬ (IsFacetsFail Polytope 1 [] [] half (Many (E4 large larger)))
  -- with most_rows inequalities and the far face there are too many, with one inequality fewer there are not
  pub many : (n : ℕ) → most_rows < n → AreManyFacets Polytope n (orthant n) [] (range_with_len 0 n)
  pub many_fail : (n : ℕ) (V : List Row) → most_rows < n
      → IsFacetsFail Polytope n (orthant n) [] V (Many (E5Rows (range_with_len 0 n)))
  pub not_many : (n : ℕ) → n ≤ most_rows → ¬ (AreManyFacets Polytope n (orthant n) [] (range_with_len 0 n))

-- ---- rows from sets
pub record RowsFromSetsAreRead : Type 0 where
  -- the places, counted from 3, of the sets that have 2
  pub holders : holders_from 3 ((0 ∷ 2 ∷ []) ∷ [] ∷ (2 ∷ []) ∷ []) 2 ≡ 3 ∷ 5 ∷ []
  -- a column that no set has has no places, and an entry past the columns has no column
  pub turned : turned (record { rows = (0 ∷ 2 ∷ []) ∷ (2 ∷ 7 ∷ []) ∷ []; cols = 3 })
      ≡ (0 ∷ []) ∷ [] ∷ (0 ∷ 1 ∷ []) ∷ []
  -- the rows in the order of the set; a place past the rows has none
  pub rows : rows_at (x_axis ∷ y_axis ∷ []) (1 ∷ 7 ∷ 0 ∷ []) ≡ y_axis ∷ x_axis ∷ []
  pub determining : determining 2 (diagonal ∷ []) (x_axis ∷ antidiagonal ∷ []) (1 ∷ []) (0 ∷ [])
      ≡ diagonal ∷ antidiagonal ∷ x_axis ∷ []
  -- of the quadrant no column is a pivot: the set {1} determines by its inequality alone
  pub determines : IsDetermining 2 [] (x_axis ∷ y_axis ∷ []) ((1 ∷ []) ∷ []) (y_axis ∷ [])
  pub other_row : ¬ (IsDetermining 2 [] (x_axis ∷ y_axis ∷ []) ((1 ∷ []) ∷ []) (x_axis ∷ []))
  -- of the half plane x >= 0 the column 1 is a pivot: the set {} determines by the unit row alone
  pub determines_by_pivot : IsDetermining 2 [] (x_axis ∷ []) ([] ∷ []) (y_axis ∷ [])
  pub pivot_left_out : ¬ (IsDetermining 2 [] (x_axis ∷ []) ([] ∷ []) [])
  -- where y vanishes are the multiples of (1, 0), and not those of (0, 1); a row of zeros is no wrong answer
  pub determined : AreDetermined 2 [] (x_axis ∷ y_axis ∷ []) ((1 ∷ []) ∷ []) (x_axis ∷ [])
  pub undetermined : AreDetermined 2 [] (x_axis ∷ y_axis ∷ []) ((1 ∷ []) ∷ []) (pair (pos 0) (pos 0) ∷ [])
  pub not_determined : ¬ (AreDetermined 2 [] (x_axis ∷ y_axis ∷ []) ((1 ∷ []) ∷ []) (y_axis ∷ []))
  -- the extreme rays of the quadrant, primitive and in their order
  pub canonical : AreCanonicalFor 2 (InCone (y_axis ∷ x_axis ∷ []) []) (pair (pos 0) (pos 2) ∷ x_axis ∷ [])
      (y_axis ∷ x_axis ∷ [])
  pub not_primitive
      : ¬ (AreCanonicalFor 2 (InCone (y_axis ∷ x_axis ∷ []) []) (y_axis ∷ x_axis ∷ [])
      (pair (pos 0) (pos 2) ∷ x_axis ∷ []))
  pub other_order
      : ¬ (AreCanonicalFor 2 (InCone (y_axis ∷ x_axis ∷ []) []) (y_axis ∷ x_axis ∷ [])
      (x_axis ∷ y_axis ∷ []))
  -- modulo the line of (0, 1) the ray is (1, 0), and (1, 1) is not reduced
  pub reduced : AreCanonicalFor 2 (InCone (x_axis ∷ []) (y_axis ∷ [])) (diagonal ∷ []) (x_axis ∷ [])
  pub not_reduced
      : ¬ (AreCanonicalFor 2 (InCone (x_axis ∷ []) (y_axis ∷ [])) (diagonal ∷ []) (diagonal ∷ []))
  -- the set {0} determines (2 ^ 64, 1), whose product with the other inequality leaves the range; evidence names the
  -- determined row first, of turned sets second
  pub sign : IsSetsFail 2 [] (steep ∷ large ∷ []) ((0 ∷ []) ∷ []) (Wide (E4 larger large))
  pub sign_turned : ¬ (IsSetsFail 2 [] (steep ∷ large ∷ []) ((0 ∷ []) ∷ []) (Wide (E4 large larger)))
  pub turned_sign : IsTurnedSetsFail 2 [] (steep ∷ large ∷ []) ((0 ∷ []) ∷ []) (Wide (E4 large larger))
  pub turned_sign_turned
      : ¬ (IsTurnedSetsFail 2 [] (steep ∷ large ∷ []) ((0 ∷ []) ∷ []) (Wide (E4 larger large)))
  -- a row that no set determines shows nothing, however large the product
  pub sign_of_another : ¬ (IsSetsFail 2 [] (steep ∷ large ∷ []) ((0 ∷ []) ∷ []) (Wide (E4 large large)))
  pub memory : IsSetsFail 2 [] [] [] Memory
  pub turned_memory : IsTurnedSetsFail 2 [] [] [] Memory
