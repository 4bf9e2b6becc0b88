-- Fans by lists of rows, cones by the rows that cut them out, and intersections by their rays.
use Rattle.pm_vector.specs.Rows.{HasCols, Row, dot}
use Rattle.pm_geom.specs.declared.descriptions.Facets.{Facets}
use Rattle.pm_dd.specs.Hulls.{AreFacets}
use Rattle.pm_laws_normal_fans.specs.Fans.{Fan, cone_at}
use Rattle.pm_laws_normal_fans.specs.Refinements.{Intersection}
use Rattle.pm_refine.specs.declared.refinement.Intersection.{Intersection as IntersectionFound}
use Rattle.std.specs.List.{All, Any, Contains, slice_index_or}
use Rattle.std.specs.Prelude.{Bool, List, [], false, length, suc, true, zero, ℕ, ◌&&◌, ◌∷◌, ◌<◌, ◌^◌, ◌≡◌, ◌≤◌, ◌⊎◌}
use lib.IntN.{ℤ, negsuc, pos}
use Rattle.pm_limits.specs.Limits.{most_rows}

-- the fan of these cones, with these lines
abbrev pub fan_from : List (List Row) → List Row → Fan
fan_from cones lines = record { cones = cones; lines = lines }

-- the cones and the lines have rows of n entries, and few of them
pub record IsSmallFan (n : ℕ) (f : Fan) : Type 0 where
  pub cones : All (HasCols n) f.cones
  pub lines : HasCols n f.lines
  pub few_cones : length f.cones < 2 ^ 30
  pub few_rays : All (λ G. length G < 2 ^ 30) f.cones
  pub few_lines : length f.lines < 2 ^ 30

-- an intersection that was found, by its places and its rays
abbrev pub intersection_of : IntersectionFound → Intersection
intersection_of a = record { first = a.first; second = a.second; rays = a.rays.items }

-- ---- rows that cut out a cone: half-spaces and equations
pub record CutRows : Type 0 where
  pub facets : List Row
  pub hull : List Row

abbrev pub cut_rows : Facets → CutRows
cut_rows f = record { facets = f.facets.items; hull = f.hull.items }

-- those at a place
abbrev pub cuts_at : List CutRows → ℕ → CutRows
cuts_at C k = slice_index_or C k (record { facets = []; hull = [] })

-- for each cone of the fan its facet rows in canonical form, and the echelon basis of the rows that vanish on it
pub record AreFacetsOf (n : ℕ) (f : Fan) (C : List CutRows) : Type 0 where
  pub as_many : length C ≡ length f.cones
  pub each : (k : ℕ) → k < length f.cones
      → AreFacets n (cone_at f k) f.lines (cuts_at C k).facets (cuts_at C k).hull

-- rows of n entries, and few of them
pub record IsSmall (n : ℕ) (c : CutRows) : Type 0 where
  pub facets : HasCols n c.facets
  pub hull : HasCols n c.hull
  pub few_facets : length c.facets ≤ most_rows
  pub few_equations : length c.hull ≤ n

abbrev pub AreSmall : ℕ → List CutRows → Type 0
AreSmall n C = All (IsSmall n) C

-- one of the rows
abbrev pub IsRowOf : CutRows → Row → Type 0
IsRowOf c r = Contains c.facets r ⊎ Contains c.hull r

-- one of the rows of C or of D
abbrev pub IsSomeRow : List CutRows → List CutRows → Row → Type 0
IsSomeRow C D r = Any (λ c. IsRowOf c r) C ⊎ Any (λ c. IsRowOf c r) D

-- ---- tests
-- whether no half-space is negative on x
abbrev pub is_positive : ℤ → Bool
is_positive (pos k) = true
is_positive (negsuc k) = false

abbrev pub is_zero : ℤ → Bool
is_zero (pos zero) = true
is_zero (pos (suc k)) = false
is_zero (negsuc k) = false

abbrev pub is_cut_out : List Row → Row → Bool
is_cut_out [] x = true
is_cut_out (a ∷ F) x = is_positive (dot a x) && is_cut_out F x

-- whether each equation vanishes on x
abbrev pub is_null : List Row → Row → Bool
is_null [] x = true
is_null (e ∷ E) x = is_zero (dot e x) && is_null E x

-- whether all rays are in the cone that c cuts out
abbrev pub are_inside : CutRows → List Row → Bool
are_inside c [] = true
are_inside c (x ∷ rays) = (is_cut_out c.facets x && is_null c.hull x) && are_inside c rays

-- whether they are in both of two cones
abbrev pub are_within : CutRows → CutRows → List Row → Bool
are_within c d rays = are_inside c rays && are_inside d rays
