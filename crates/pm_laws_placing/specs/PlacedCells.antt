-- The cells of the placing triangulation of lines and rays, by the rows of double description (De Loera, Rambau and
-- Santos, Triangulations, section 4.3).
use Rattle.std.specs.Prelude.{ℕ, ◌<◌, ◌↔◌, List, ◌++◌, length}
use Rattle.std.specs.List.{All, AllPairs, Contains}
use Rattle.pm_vector.specs.Rows.{Row}
use Rattle.pm_dd.specs.Fronts.{both_signs}
use Rattle.pm_vector.specs.Evidence.{IsBasisOf}
use Rattle.pm_geom.specs.FaceCounts.{IsLexBefore}
use Rattle.pm_geom.specs.Graphs.{IsAscending}
use Rattle.pm_laws_placing.specs.Placing.{IsPlacing}
use Rattle.pm_limits.specs.Limits.{most_rows}

-- A and B have the same sets
abbrev pub HaveSameSets : List (List ℕ) → List (List ℕ) → Type 0
HaveSameSets A B = (s : List ℕ) → Contains A s ↔ Contains B s

-- T has the cells of the first f rows of the stated order of l1, -l1, l2, -l2, .. and G, where l1, l2, .. is this
-- echelon basis of L: each once, as rising lists of places in G, in lexicographic order
pub record ArePlacedCells (n : ℕ) (L G basis : List Row) (f : ℕ) (T : List (List ℕ)) : Type 0 where
  pub pivots : List ℕ
  pub is_basis : IsBasisOf n L basis pivots
  pub cells : List (List ℕ)
  pub placing : IsPlacing n (both_signs basis) G f cells
  pub same : HaveSameSets T cells
  pub ascending : All (IsAscending (length G)) T
  pub ordered : AllPairs IsLexBefore T

-- T is the placing triangulation: the cells of all rows
abbrev pub IsPlacingTriangulation : ℕ → List Row → List Row → List (List ℕ) → Type 0
IsPlacingTriangulation n L G T = (basis : List Row)
    × ArePlacedCells n L G basis (length (both_signs basis ++ G)) T

-- T has the cells of the first f rows, and they are more than most_rows
abbrev pub AreCrowdedCells : ℕ → List Row → List Row → ℕ → List (List ℕ) → Type 0
AreCrowdedCells n L G f T = ((basis : List Row) × ArePlacedCells n L G basis f T) × (most_rows < length T)
