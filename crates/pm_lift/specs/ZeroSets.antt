-- On which rows a facet row vanishes, as a list of places.
use Rattle.std.specs.Prelude.{ℕ, suc, ◌==◌, List, [], ◌∷◌, ◌++◌, if◌then◌else◌, int_lt, unsigned_abs}
use Rattle.std.specs.List.{AllPairs, Contains}
use Rattle.pm_vector.specs.Rows.{Row, dot, entry}
use Rattle.pm_geom.specs.Cones.{IsOrder, IsValid}
use Rattle.pm_geom.specs.FaceCounts.{IsLexBefore}
use Rattle.pm_lift.specs.Lifting.{upwards}
use lib.IntN.{pos}

-- the places, counted from j, of the rows of X with which the product of a is 0
abbrev pub places_from : ℕ → Row → List Row → List ℕ
places_from j a [] = []
places_from j a (x ∷ X) = if unsigned_abs (dot a x) == 0 then j ∷ places_from (suc j) a X
    else places_from (suc j) a X

-- for each row of F whose entry at n is positive the places of the rows with which its product is 0
abbrev pub lower_sets : ℕ → List Row → List Row → List (List ℕ)
lower_sets n [] X = []
lower_sets n (a ∷ F) X = if int_lt (pos 0) (entry a n) then places_from 0 a X ∷ lower_sets n F X
    else lower_sets n F X

-- the sets of the rows X, of n + 1 entries, on which a facet row of the cone of X and the row upwards vanishes, for
-- each facet row with a positive last entry; in lexicographic order
pub record AreLowerSets (n : ℕ) (X : List Row) (sets : List (List ℕ)) : Type 0 where
  pub facets : List Row
  pub order : IsOrder (suc n) (IsValid (suc n) (X ++ upwards n ∷ []) []) facets
  pub each : (set : List ℕ) → Contains sets set → Contains (lower_sets n facets X) set
  pub all : (set : List ℕ) → Contains (lower_sets n facets X) set → Contains sets set
  pub ordered : AllPairs IsLexBefore sets
