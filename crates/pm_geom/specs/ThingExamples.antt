-- Fans and their orders read on the two rays of the line: what holds of them, and what does not.
use Rattle.pm_vector.specs.Rows.{Row}
use Rattle.pm_geom.specs.Examples.{pair}
use Rattle.pm_geom.specs.Things.{AreFanOrders, IsFanThing}
use Rattle.std.specs.Prelude.{List, [], ℕ, ◌∷◌}
use lib.IntN.{negsuc, pos}

-- the row (1) of one entry
abbrev pub right : Row
right = pos 1 ∷ []

-- the row (-1)
abbrev pub left : Row
left = negsuc 0 ∷ []

-- the two rays of the line
abbrev pub two_rays : List (List Row)
two_rays = (right ∷ []) ∷ (left ∷ []) ∷ []

-- which cones in the line, and in the plane, are a fan
pub record FansAreRead : Type 0 where
  -- the two rays; the line itself, where it is the lineality
  pub rays : IsFanThing 1 two_rays []
  pub line : IsFanThing 1 ([] ∷ []) (right ∷ [])
  -- the line has a lineality beyond no lines
  pub more_lineality : ¬ (IsFanThing 1 ((right ∷ left ∷ []) ∷ []) [])
  -- the cone {0} lies in a ray, and a ray in itself
  pub included : ¬ (IsFanThing 1 ((right ∷ []) ∷ [] ∷ []) [])
  pub twice : ¬ (IsFanThing 1 ((right ∷ []) ∷ (right ∷ []) ∷ []) [])
  -- a row of two entries where there is one column
  pub columns : ¬ (IsFanThing 1 ((pair 1 0 ∷ []) ∷ []) [])

-- these rays, facet rows and places of cones are orders of the two rays of the line
abbrev pub OrderTwoRays : List Row → List Row → List ℕ → Type 0
OrderTwoRays R F C = AreFanOrders 1 two_rays [] (record { rays = R; facets = F; cones = C })

-- which lists are orders of the two rays of the line
pub record FanOrdersAreRead : Type 0 where
  -- each ray and each cone once, in any order
  pub order : OrderTwoRays (right ∷ left ∷ []) [] (0 ∷ 1 ∷ [])
  pub turned : OrderTwoRays (left ∷ right ∷ []) [] (1 ∷ 0 ∷ [])
  -- no ray twice, also as a multiple, none left out, and no row that is none
  pub ray_twice : ¬ (OrderTwoRays (right ∷ left ∷ (pos 2 ∷ []) ∷ []) [] (0 ∷ 1 ∷ []))
  pub lacks_ray : ¬ (OrderTwoRays (right ∷ []) [] (0 ∷ 1 ∷ []))
  pub no_ray : ¬ (OrderTwoRays (right ∷ left ∷ (pos 0 ∷ []) ∷ []) [] (0 ∷ 1 ∷ []))
  -- no facet row
  pub facet : ¬ (OrderTwoRays (right ∷ left ∷ []) (right ∷ []) (0 ∷ 1 ∷ []))
  -- no cone left out, none twice, and no place where there is none
  pub lacks_cone : ¬ (OrderTwoRays (right ∷ left ∷ []) [] (0 ∷ []))
  pub cone_twice : ¬ (OrderTwoRays (right ∷ left ∷ []) [] (0 ∷ 1 ∷ 1 ∷ []))
  pub no_cone : ¬ (OrderTwoRays (right ∷ left ∷ []) [] (0 ∷ 1 ∷ 2 ∷ []))
