-- Cells by the places of the rays as they were handed in.
use Rattle.std.specs.Prelude.{ℕ, ◌+◌, ◌==◌, ◌≡◌, ◌<◌, Bool, true, List, ◌++◌, length, map}
use Rattle.std.specs.List.{All, filter, list_any, slice_index_or}
use Rattle.pm_vector.specs.Rows.{HasCols, Row}
use Rattle.pm_dd.specs.Arrangement.{alternating}
use Rattle.pm_dd.specs.Fronts.{both_signs}
use Rattle.pm_vector.specs.Enlarging.{MarkEnlarging}
use Rattle.pm_vector.specs.Evidence.{IsBasisOf}
use Rattle.pm_laws_placing.specs.Placing.{IsNextCells, IsPlacing, places_marked, stated_places}
use Rattle.pm_beneath.specs.Runs.{IsRun, below}
use Rattle.pm_geom.specs.Triangulations.{rows_at}

-- some place of s has the name j in O
abbrev pub named_by : List ℕ → List ℕ → ℕ → Bool
named_by O s j = list_any (λ k. slice_index_or O k 0 == j) s

-- the names of the places of s in O, below m and rising
abbrev pub named : ℕ → List ℕ → List ℕ → List ℕ
named m O s = filter (named_by O s) (below m)

-- no name comes twice
pub record AreNames (m : ℕ) (O : List ℕ) : Type 0 where
  pub within : (k : ℕ) → k < length O → slice_index_or O k 0 < m
  pub once : (i k : ℕ) → i < length O → k < length O → slice_index_or O i 0 ≡ slice_index_or O k 0 → i ≡ k

-- a step of the cells stays one under other names
abbrev pub NamesKeepSteps : Type 0
NamesKeepSteps = (G F : List Row) (O : List ℕ) → AreNames (length G) O → (f : ℕ) → f < length O
    → (T U : List (List ℕ)) → All (λ s. All (λ k. k < f) s) T → All (λ s. All (λ k. k < length O) s) U
    → IsNextCells (rows_at G O) F f T U →
    IsNextCells G F (slice_index_or O f 0) (map (named (length G) O) T) (map (named (length G) O) U)

-- the cells of all fronts, as double description takes the rows, are those of the placing
abbrev pub RunIsPlacing : Type 0
RunIsPlacing = (n : ℕ) (L G B : List Row) (P : List ℕ) (m : List Bool) → HasCols n L → HasCols n G
    → IsBasisOf n L B P → MarkEnlarging (both_signs B ++ G) (alternating B ++ m) → (d : ℕ)
    → length (places_marked true m 0) + d < length G + 1 → (T : List (List ℕ)) →
    IsRun n B (rows_at G (stated_places m)) (length (places_marked true m 0)) d T
    → IsPlacing n (both_signs B) G (length (both_signs B) + (length (places_marked true m 0) + d))
    (map (named (length G) (stated_places m)) T)
