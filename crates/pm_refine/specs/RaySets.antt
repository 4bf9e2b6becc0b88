-- The places at which rays stand among all rays.
use Rattle.pm_vector.specs.Rows.{Row}
use Rattle.pm_laws_normal_fans.specs.Refinements.{Intersection}
use Rattle.std.specs.Cmp.Lexicographic.{pointwise}
use Rattle.std.specs.List.{list_any}
use Rattle.std.specs.Ordering.{int_eq}
use Rattle.std.specs.Prelude.{List, [], if◌then◌else◌, suc, ℕ, ◌++◌, ◌∷◌}

-- the places, counted from j, of the rows of R that are among the rays
abbrev pub places_from : ℕ → List Row → List Row → List ℕ
places_from j rays [] = []
places_from j rays (x ∷ R) = if list_any (λ v. pointwise int_eq v x) rays then j ∷ places_from (suc j) rays R
    else places_from (suc j) rays R

-- the rays of all intersections, one after another
abbrev pub joined_rays : List Intersection → List Row
joined_rays [] = []
joined_rays (a ∷ kept) = a.rays ++ joined_rays kept
