-- The rows of standard polytopes: the cube, the simplex, the cross-polytope and the cyclic polytope (Ziegler,
-- Lectures on Polytopes, examples 0.3, 0.4 and 0.6). In d dimensions a row has d + 1 entries, of which the first is
-- 1.
use Rattle.std.specs.Prelude.{ℕ, zero, suc, ◌^◌, List, [], ◌∷◌, ◌++◌, map, replicate}
use Rattle.pm_vector.specs.Numbers.{Ratio}
use Rattle.pm_vector.specs.Rows.{Row}
use Rattle.pm_types.specs.Views.{ratios}
use lib.IntN.{ℤ, pos, negsuc}

-- ---- vectors of d entries
-- the vector with s at place i, and 0 elsewhere: for s = 1 the unit vector e_i, for s = -1 its opposite
abbrev pub unit : ℤ → ℕ → ℕ → Row
unit s i zero = []
unit s zero (suc d) = s ∷ replicate d (pos 0)
unit s (suc i) (suc d) = pos 0 ∷ unit s i d

-- the unit vectors of the first k places
abbrev pub units : ℕ → ℕ → List Row
units d zero = []
units d (suc k) = units d k ++ unit (pos 1) k d ∷ []

-- each of them, and its opposite behind it
abbrev pub opposite_units : ℕ → ℕ → List Row
opposite_units d zero = []
opposite_units d (suc k) = opposite_units d k ++ unit (pos 1) k d ∷ unit (negsuc 0) k d ∷ []

-- (t, t^2, .., t^d), the point at t of the moment curve
abbrev pub curve : ℕ → ℕ → Row
curve t zero = []
curve t (suc d) = curve t d ++ pos (t ^ suc d) ∷ []

-- the points at 1, .., n
abbrev pub curve_points : ℕ → ℕ → List Row
curve_points d zero = []
curve_points d (suc n) = curve_points d n ++ curve (suc n) d ∷ []

-- 0, and the unit vectors
abbrev pub simplex_corners : ℕ → List Row
simplex_corners d = replicate d (pos 0) ∷ units d d

-- ---- rows
-- the row (1, v) of a vector v: of a point, or of the inequality 1 + v.x >= 0
abbrev pub headed : Row → Row
headed v = pos 1 ∷ v

-- these rows, as fractions over 1
abbrev pub headed_rows : List Row → List (List Ratio)
headed_rows V = map (λ v. ratios (headed v)) V

-- (1, 0, .., 0, 1) of n + 1 entries, the apex of a pyramid
abbrev pub apex_row : ℕ → Row
apex_row zero = pos 1 ∷ []
apex_row (suc d) = pos 1 ∷ replicate d (pos 0) ++ pos 1 ∷ []
