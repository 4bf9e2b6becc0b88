-- The common refinement as it is answered (Ziegler, Lectures on Polytopes, section 7.1).
use Rattle.pm_vector.specs.Rows.{Row}
use Rattle.pm_geom.specs.Faces.{ray}
use Rattle.pm_geom.specs.Graphs.{IsAscending}
use Rattle.pm_laws_normal_fans.specs.Fans.{Fan}
use Rattle.pm_laws_normal_fans.specs.Refinements.{AreAllIntersections, AreKeptIntersections, Intersection, IsRefined}
use Rattle.std.specs.List.{Contains, slice_index_or}
use Rattle.std.specs.Prelude.{List, [], length, ℕ, ◌<◌, ◌↔◌, ◌≡◌}

-- of the intersections of all pairs of cones, in order, the maximal ones are kept, of equal ones the first; K is the
-- echelon basis of their lineality, without rows where there is no pair. They are the maximal cones of the common
-- refinement
pub record AreRefined (n : ℕ) (f g : Fan) (K : List Row) (kept : List Intersection) : Type 0 where
  pub listed : List Intersection
  pub all : AreAllIntersections n f g K listed
  pub maximal : AreKeptIntersections n f g listed kept
  pub lines : listed ≡ [] → K ≡ []
  pub refined : IsRefined n f g K kept

-- the set has, rising, the places of R at which a ray of the intersection stands
pub record IsRaySet (R : List Row) (a : Intersection) (set : List ℕ) : Type 0 where
  pub ascending : IsAscending (length R) set
  pub places : (j : ℕ) → j < length R → Contains set j ↔ Contains a.rays (ray R j)

-- for each intersection its set
pub record AreRaySets (R : List Row) (kept : List Intersection) (sets : List (List ℕ)) : Type 0 where
  pub as_many : length sets ≡ length kept
  pub each : (k : ℕ) (a : Intersection) → k < length kept
      → IsRaySet R (slice_index_or kept k a) (slice_index_or sets k [])
