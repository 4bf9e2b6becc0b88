-- What the answers of a linear program tell of all of its points (Chvatal, Linear Programming, chapter 5).
use Rattle.pm_vector.specs.Numbers.{Ratio}
use Rattle.pm_vector.specs.Rows.{Row}
use Rattle.pm_geom.specs.Programs.{HasNoPoint, HasValue, IsDual, IsInfeasible, IsMaximum, IsOptimal, IsPoint, IsUnbounded, IsWithoutBound, Solves}
use Rattle.std.specs.Prelude.{List}
use lib.IntN.{◌*ℤ◌}
use lib.Signed.{◌≤ℤ◌}

-- no point exceeds the value of a dual
abbrev pub WeakDuality : Type 0
WeakDuality = (A B : List Row) (c : List Ratio) (v : Ratio) (y : List Ratio) → IsDual A B c v y
    → (p : List Ratio) (w : Ratio) → IsPoint A B p → HasValue c p w → (w.num *ℤ v.den) ≤ℤ (v.num *ℤ w.den)

-- multipliers of infeasibility exclude a point
abbrev pub InfeasibleExcludes : Type 0
InfeasibleExcludes = (A B : List Row) (y p : List Ratio) → IsInfeasible A B y → ¬ (IsPoint A B p)

-- the value of an optimum is the greatest value at the solutions
abbrev pub OptimumIsMaximum : Type 0
OptimumIsMaximum = (A B : List Row) (c : List Ratio) (v : Ratio) (p y : List Ratio) → IsOptimal A B c v p y
    → IsMaximum (Solves A B) c v

-- a point and an improving direction show that there is no bound
abbrev pub DirectionIsWithoutBound : Type 0
DirectionIsWithoutBound = (A B : List Row) (c p d : List Ratio) → IsUnbounded A B c p d
    → IsWithoutBound (Solves A B) c

-- no solution has a positive first entry where multipliers show infeasibility
abbrev pub InfeasibleHasNoPoint : Type 0
InfeasibleHasNoPoint = (A B : List Row) (y : List Ratio) → IsInfeasible A B y → HasNoPoint (Solves A B)
