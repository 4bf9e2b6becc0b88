-- Lists of rows that describe a cone, a polytope or a fan, and orders of its rays and facets (Ziegler, Lectures on
-- Polytopes, lectures 1, 2 and 7).
use Rattle.std.specs.Prelude.{ℕ, ◌≡◌, ◌<◌, ◌⊎◌, List, [], length}
use Rattle.std.specs.List.{All, AllPairs, Any, Contains, slice_index_or}
use Rattle.pm_vector.specs.Rows.{Row, entry, HasCols, IsZero}
use Rattle.pm_vector.specs.Cones.{InCone, InSpan}
use Rattle.pm_geom.specs.Cones.{InLineality, SameModulo, IsExtremeRay, IsOrder, IsValid}
use lib.IntN.{pos}
use lib.Signed.{◌<ℤ◌, ◌≤ℤ◌}

-- rows of n entries; the cone is cone(G) + span(L)
pub record IsConeThing (n : ℕ) (G L : List Row) : Type 0 where
  pub generators : HasCols n G
  pub lines : HasCols n L

-- moreover no row of the cone has a negative first entry, and the cone is {0} (the empty polytope) or has a row with
-- a positive one. A polytope is treated through this cone over it
pub record IsPolytopeThing (n : ℕ) (G L : List Row) : Type 0 where
  pub cone : IsConeThing n G L
  pub first : (x : Row) → length x ≡ n → InCone G L x → pos 0 ≤ℤ entry x 0
  pub proper : ((x : Row) → length x ≡ n → InCone G L x → IsZero x)
      ⊎ ((x : Row) × (length x ≡ n) × InCone G L x × (pos 0 <ℤ entry x 0))

-- cones over one span(L), which is the lineality of each, none included in another
pub record IsFanThing (n : ℕ) (Gs : List (List Row)) (L : List Row) : Type 0 where
  pub lines : HasCols n L
  pub cones : All (λ G. IsConeThing n G L) Gs
  pub lineality : All (λ G. (x : Row) → length x ≡ n → InLineality (InCone G L) x → InSpan L x) Gs
  pub apart : (i j : ℕ) → i < length Gs → j < length Gs → ¬ (i ≡ j)
      → ¬ ((x : Row) → length x ≡ n → InCone (slice_index_or Gs i []) L x
      → InCone (slice_index_or Gs j []) L x)

-- an order of the extreme rays, one of the facet rows, and for a fan one of its cones, by their places
pub record Orders : Type 0 where
  pub rays : List Row
  pub facets : List Row
  pub cones : List ℕ

-- one representative of each extreme ray up to positive scale and lineality, one of each facet row up to positive
-- scale and vanishing rows
pub record AreConeOrders (n : ℕ) (G L : List Row) (o : Orders) : Type 0 where
  pub rays : IsOrder n (InCone G L) o.rays
  pub facets : IsOrder n (IsValid n G L) o.facets
  pub cones : o.cones ≡ []

-- one representative of each extreme ray of some cone, and each cone once
pub record AreFanOrders (n : ℕ) (Gs : List (List Row)) (L : List Row) (o : Orders) : Type 0 where
  pub each : All (λ v. Any (λ G. IsExtremeRay n G L v) Gs) o.rays
  pub all : All (λ G. (r : Row) → IsExtremeRay n G L r → Any (λ v. SameModulo n (InSpan L) r v) o.rays) Gs
  pub once : AllPairs (λ v w. ¬ (SameModulo n (InSpan L) v w)) o.rays
  pub facets : o.facets ≡ []
  pub places : All (λ i. i < length Gs) o.cones
  pub every : (i : ℕ) → i < length Gs → Contains o.cones i
  pub places_once : AllPairs (λ i j. ¬ (i ≡ j)) o.cones
