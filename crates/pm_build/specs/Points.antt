-- The rows of a polytope's cone that stand for points, and the other rows (Ziegler, Lectures on Polytopes, section
-- 1.1).
-- A row r with r_0 > 0 stands for the point (r_1/r_0, .., r_d/r_0); a row with r_0 = 0 lies far off, and is a
-- direction.
use Rattle.std.specs.Prelude.{Bool, false, true, not, zero, suc, List, [], ◌∷◌, ◌++◌, filter, map}
use Rattle.pm_vector.specs.Numbers.{Ratio}
use Rattle.pm_vector.specs.Rows.{Row}
use lib.IntN.{ℤ, pos, negsuc}

abbrev pub is_positive : ℤ → Bool
is_positive (pos zero) = false
is_positive (pos (suc k)) = true
is_positive (negsuc k) = false

-- the first entry is positive
abbrev pub is_point : List Ratio → Bool
is_point [] = false
is_point (q ∷ r) = is_positive q.num

-- the rows that stand for points, in order
abbrev pub points : List (List Ratio) → List (List Ratio)
points rows = filter is_point rows

-- the other rows, in order
abbrev pub far : List (List Ratio) → List (List Ratio)
far rows = filter (λ r. not (is_point r)) rows

-- v with each row of W, in order
abbrev pub pairs_with : Row → List Row → List (Row × Row)
pairs_with v W = map (λ w. (v, w)) W

-- each row of V with each row of W, in order
abbrev pub pairs : List Row → List Row → List (Row × Row)
pairs [] W = []
pairs (v ∷ V) W = pairs_with v W ++ pairs V W
