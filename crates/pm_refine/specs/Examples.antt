-- The definitions read on two lines in the plane and on the fan of the two rays of the line: what holds, and what does
-- not.
use Rattle.pm_vector.specs.Rows.{Row}
use Rattle.pm_geom.specs.Examples.{pair}
use Rattle.pm_geom.specs.ThingExamples.{left, right}
use Rattle.pm_geom.specs.declared.evidence.Evidence.TheVariants.{E4}
use Rattle.pm_laws_normal_fans.specs.Examples.{all_four, both_rays, in_right, minus, rays_of_line}
use Rattle.pm_laws_normal_fans.specs.Refinements.{Intersection}
use Rattle.pm_refine.specs.CutRows.{CutRows, IsSmallFan, are_within, fan_from}
use Rattle.pm_refine.specs.Fails.{IsRefineFail}
use Rattle.pm_refine.specs.RaySets.{joined_rays, places_from}
use Rattle.pm_refine.specs.Refined.{AreRaySets, AreRefined, IsRaySet}
use Rattle.pm_refine.specs.Steps.{keep_all, keep_one}
use Rattle.pm_refine.specs.declared.fails.RefineFail.TheVariants.{Memory, NotMade}
use Rattle.std.specs.Prelude.{List, [], false, true, ℕ, ◌∷◌, ◌≡◌}
use lib.IntN.{pos}

-- ---- two lines in the plane, each with the half-planes on its two sides
-- the half-plane of the rows with a non-negative product with a
abbrev pub half_plane : Row → CutRows
half_plane a = record { facets = a ∷ []; hull = [] }

abbrev pub below : Row
below = pos 0 ∷ minus ∷ []

abbrev pub before : Row
before = minus ∷ pos 0 ∷ []

-- on the right and on the left of the vertical line, and above and below the horizontal one
abbrev pub sides : List CutRows
sides = half_plane (pair 1 0) ∷ half_plane before ∷ []

abbrev pub heights : List CutRows
heights = half_plane (pair 0 1) ∷ half_plane below ∷ []

-- the intersection at two places, with these rays
abbrev pub at : ℕ → ℕ → List Row → Intersection
at i j rays = record { first = i; second = j; rays = rays }

-- the four quadrants
abbrev pub quadrants : List Intersection
quadrants = at 0 0 (pair 0 1 ∷ pair 1 0 ∷ []) ∷ at 0 1 (below ∷ pair 1 0 ∷ [])
    ∷ at 1 0 (before ∷ pair 0 1 ∷ []) ∷ at 1 1 (before ∷ below ∷ []) ∷ []

-- the half-planes of one line with themselves: these, and the line twice, which has no ray
abbrev pub of_itself : List Intersection
of_itself = at 0 0 (pair 1 0 ∷ []) ∷ at 0 1 [] ∷ at 1 0 [] ∷ at 1 1 (before ∷ []) ∷ []

pub record StepsAreRead : Type 0 where
  -- the first quadrant is within the right half-plane, and not within the left one, nor on the horizontal line
  pub within : are_within (half_plane (pair 1 0)) (half_plane (pair 0 1)) (pair 0 1 ∷ pair 1 0 ∷ []) ≡ true
  pub not_within : are_within (half_plane before) (half_plane (pair 0 1)) (pair 0 1 ∷ pair 1 0 ∷ []) ≡ false
  pub off_line : are_within (half_plane (pair 1 0)) (record { facets = []; hull = pair 0 1 ∷ [] })
      (pair 0 1 ∷ pair 1 0 ∷ []) ≡ false
  -- of two lines all quadrants are kept
  pub two_lines : keep_all sides heights [] quadrants ≡ quadrants
  -- of one line with itself the half-planes alone, whichever come first
  pub one_line : keep_all sides sides [] of_itself ≡ at 0 0 (pair 1 0 ∷ []) ∷ at 1 1 (before ∷ []) ∷ []
  pub let_go : keep_one sides sides (at 0 1 [] ∷ []) (at 1 1 (before ∷ [])) ≡ at 1 1 (before ∷ []) ∷ []
  pub left_out : keep_one sides sides (at 1 1 (before ∷ []) ∷ []) (at 0 1 []) ≡ at 1 1 (before ∷ []) ∷ []
  -- of equal ones the first
  pub first_of_equal : keep_all sides sides [] (at 0 1 [] ∷ at 1 0 [] ∷ []) ≡ at 0 1 [] ∷ []
  pub not_second : ¬ (keep_all sides sides [] (at 0 1 [] ∷ at 1 0 [] ∷ []) ≡ at 1 0 [] ∷ [])

pub record RefinedAreRead : Type 0 where
  -- the two rays of the line with themselves; not with {0}, which lies in both, and not one ray alone
  pub refined : AreRefined 1 rays_of_line rays_of_line [] both_rays
  pub not_all : ¬ (AreRefined 1 rays_of_line rays_of_line [] all_four)
  pub small : IsSmallFan 1 (fan_from ((right ∷ []) ∷ (left ∷ []) ∷ []) [])
  pub columns : ¬ (IsSmallFan 2 (fan_from ((right ∷ []) ∷ (left ∷ []) ∷ []) []))
  -- the rays, one after another, and the places of some
  pub joined : joined_rays both_rays ≡ right ∷ left ∷ []
  pub places : places_from 0 (right ∷ []) (left ∷ right ∷ []) ≡ 1 ∷ []
  -- the ray to the right stands at place 1 of the two rays in order, not at place 0, and not at both
  pub set : IsRaySet (left ∷ right ∷ []) in_right (1 ∷ [])
  pub not_left : ¬ (IsRaySet (left ∷ right ∷ []) in_right (0 ∷ []))
  pub not_both : ¬ (IsRaySet (left ∷ right ∷ []) in_right (0 ∷ 1 ∷ []))
  pub sets : AreRaySets (left ∷ right ∷ []) both_rays ((1 ∷ []) ∷ (0 ∷ []) ∷ [])
  pub turned : ¬ (AreRaySets (left ∷ right ∷ []) both_rays ((0 ∷ []) ∷ (1 ∷ []) ∷ []))
  pub one_set : ¬ (AreRaySets (left ∷ right ∷ []) both_rays ((1 ∷ []) ∷ []))

pub record FailsAreRead : Type 0 where
  -- want of memory needs no evidence; there is no cone at place 2; 2 times 2 does not leave the range
  pub memory : IsRefineFail 1 rays_of_line rays_of_line Memory
  pub no_place : ¬ (IsRefineFail 1 rays_of_line rays_of_line (NotMade 0 2 (E4 (pos 2 ∷ []) (pos 2 ∷ []))))
  pub not_small : ¬ (IsRefineFail 1 rays_of_line rays_of_line (NotMade 0 0 (E4 (pos 2 ∷ []) (pos 2 ∷ []))))
