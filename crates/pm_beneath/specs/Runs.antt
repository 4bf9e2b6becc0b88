-- The cells of all fronts, as double description takes the rows.
use Rattle.std.specs.Prelude.{ℕ, zero, suc, ◌+◌, ◌≡◌, ◌<◌, List, [], ◌∷◌, ◌++◌, length, map, take}
use Rattle.pm_vector.specs.Rows.{Row}
use Rattle.pm_dd.specs.Fronts.{HalfSpaces}
use Rattle.pm_dd.specs.Lost.{IfWide}
use Rattle.pm_dd.specs.Refusals.{IsMemory, IsShown, IsShownOnRows}
use Rattle.pm_geom.specs.Cones.{IsOrder}
use Rattle.pm_geom.specs.FaceCounts.{IsLexBefore}
use Rattle.pm_geom.specs.Graphs.{IsAscending}
use Rattle.std.specs.List.{All, AllPairs}
use Rattle.pm_beneath.specs.CellLists.{AreNextCells}
use Rattle.pm_laws_placing.specs.PlacedCells.{HaveSameSets}
use Rattle.pm_beneath.specs.declared.run.RunFail.{RunFail}
use Rattle.pm_beneath.specs.declared.run.RunFail.TheVariants.{Engine, Crowd}
use Rattle.pm_limits.specs.Limits.{most_rows}

-- 0, 1, .., k - 1
abbrev pub below : ℕ → List ℕ
below zero = []
below (suc k) = below k ++ k ∷ []

-- T has the cells of the first start + d rows of J: the first `start` alone, and then d steps, each with the facet
-- rows of its front
abbrev pub IsRun : ℕ → List Row → List Row → ℕ → ℕ → List (List ℕ) → Type 0
IsRun n E J start zero T = T ≡ below start ∷ []
IsRun n E J start (suc d) U = (T : List (List ℕ)) × IsRun n E J start d T
    × ((V : List Row) × IsOrder n (HalfSpaces E (take (start + d) J)) V × AreNextCells J V (start + d) T U)

-- so for f rows
abbrev pub IsRunTo : ℕ → List Row → List Row → ℕ → ℕ → List (List ℕ) → Type 0
IsRunTo n E J start f T = (d : ℕ) × (f ≡ start + d) × IsRun n E J start d T

-- the refusal is want of memory, or has the sets of T, each once, and more than most_rows
abbrev pub IsCrowdOf : ℕ → List (List ℕ) → RunFail → Type 0
IsCrowdOf front T (Engine f) = IsMemory f
IsCrowdOf front T (Crowd f cells) = (f ≡ front) × HaveSameSets (map (λ s. s.items) cells.items) T
    × AllPairs IsLexBefore (map (λ s. s.items) cells.items) × (most_rows < length cells.items)

-- Q holds where a run is given up for a number out of the range
abbrev pub IfRunWide : RunFail → Type 0 → Type 0
IfRunWide (Engine f) Q = IfWide f Q
IfRunWide (Crowd f cells) Q = Unit {0}

-- T has the cells of the first f rows, each once, and more than most_rows
pub record IsCrowdedRun (n : ℕ) (E J : List Row) (start f : ℕ) (T : List (List ℕ)) : Type 0 where
  pub run : IsRunTo n E J start f T
  pub within : f < suc (length J)
  pub ordered : AllPairs IsLexBefore T
  pub ascending : All (IsAscending f) T
  pub many : most_rows < length T

-- the refusal is shown by double description, or there is a front with more than most_rows cells
abbrev pub IsRunFail : ℕ → List Row → List Row → ℕ → RunFail → Type 0
IsRunFail n E J start (Engine f) = IsShownOnRows n E J start f
IsRunFail n E J start (Crowd f cells) = IsCrowdedRun n E J start f (map (λ s. s.items) cells.items)

-- so on the list X that the rows are taken from
abbrev pub IsListFail : ℕ → List Row → List Row → List Row → ℕ → RunFail → Type 0
IsListFail n X E J start (Engine f) = IsShown n X f
IsListFail n X E J start (Crowd f cells) = IsCrowdedRun n E J start f (map (λ s. s.items) cells.items)
