-- The definitions of linear programs read on small programs: what holds of them, and what does not.
use Rattle.pm_vector.specs.Numbers.{Ratio}
use Rattle.pm_vector.specs.Rows.{Row}
use Rattle.pm_geom.specs.Programs.{HasNoPoint, IsDirection, IsDual, IsInfeasible, IsMaximum, IsOptimal, IsPoint, IsUnbounded, IsWithoutBound, Solves}
use Rattle.std.specs.Prelude.{List, [], map, ◌∷◌}
use lib.IntN.{ℤ, negsuc, pos}

-- n / d
abbrev pub ratio : ℤ → ℤ → Ratio
ratio n d = record { num = n; den = d }

-- whole numbers as fractions
abbrev pub wholes : Row → List Ratio
wholes x = map (λ a. ratio a (pos 1)) x

-- a row of two entries
abbrev pub row : ℤ → ℤ → Row
row a b = a ∷ b ∷ []

-- 0 <= x and x <= 1
abbrev pub segment : List Row
segment = row (pos 0) (pos 1) ∷ row (pos 1) (negsuc 0) ∷ []

-- 0 <= x
abbrev pub positive_line : List Row
positive_line = row (pos 0) (pos 1) ∷ []

-- 0 <= x and x <= -1
abbrev pub nothing : List Row
nothing = row (pos 0) (pos 1) ∷ row (negsuc 0) (negsuc 0) ∷ []

-- optima, directions and multipliers of small programs
pub record ProgramsAreRead : Type 0 where
  -- on the segment the greatest x is 1, at the point 1, since x + (1 - x) is the constant 1
  pub greatest : IsOptimal segment [] (wholes (row (pos 0) (pos 1))) (ratio (pos 1) (pos 1))
      (wholes (row (pos 1) (pos 1))) (wholes (row (pos 0) (pos 1)))
  -- no other value is the greatest
  pub not_less : (p y : List Ratio)
      → ¬ (IsOptimal segment [] (wholes (row (pos 0) (pos 1))) (ratio (pos 0) (pos 1)) p y)
  pub not_more : (p y : List Ratio)
      → ¬ (IsOptimal segment [] (wholes (row (pos 0) (pos 1))) (ratio (pos 2) (pos 1)) p y)
  -- on the half-line x is not bounded: from the point 0 in the direction 1
  pub unbounded : IsUnbounded positive_line [] (wholes (row (pos 0) (pos 1))) (wholes (row (pos 1) (pos 0)))
      (wholes (row (pos 0) (pos 1)))
  -- x + (-1 - x) is the constant -1, so nothing is at once at least 0 and at most -1
  pub infeasible : IsInfeasible nothing [] (wholes (row (pos 1) (pos 1)))
  pub no_point : (p : List Ratio) → ¬ (IsPoint nothing [] p)
  -- 2 is no point of the segment, and -1 no direction of the half-line
  pub outside : ¬ (IsPoint segment [] (wholes (row (pos 1) (pos 2))))
  pub not_along : ¬ (IsDirection positive_line [] (wholes (row (pos 0) (negsuc 0))))
  -- x - x is the constant 0, but no dual has the multiplier -1 for an inequality
  pub not_negative : (v : Ratio)
      → ¬ (IsDual (row (pos 0) (pos 1) ∷ []) [] (wholes (row (pos 0) (pos 1))) v (wholes (negsuc 0 ∷ [])))
  -- over all solutions: 1 is the greatest x on the segment, and 2 is not; x is without bound on the half-line;
  -- nothing has no point, and the segment has one
  pub maximum : IsMaximum (Solves segment []) (wholes (row (pos 0) (pos 1))) (ratio (pos 1) (pos 1))
  pub not_maximum : ¬ (IsMaximum (Solves segment []) (wholes (row (pos 0) (pos 1))) (ratio (pos 2) (pos 1)))
  pub no_bound : IsWithoutBound (Solves positive_line []) (wholes (row (pos 0) (pos 1)))
  pub empty : HasNoPoint (Solves nothing [])
  pub not_empty : ¬ (HasNoPoint (Solves segment []))
