-- What is known of a run before its cells are put in order.
use Rattle.std.specs.Prelude.{ℕ, ◌+◌, ◌^◌, ◌≡◌, ◌<◌, List, length, map}
use Rattle.std.specs.List.{All, AllPairs}
use Rattle.pm_vector.specs.Rows.{Row}
use Rattle.pm_beneath.specs.Names.{named}
use Rattle.pm_beneath.specs.Placed.{fail_of_engine}
use Rattle.pm_beneath.specs.Runs.{IsRunTo}
use Rattle.pm_beneath.specs.StatedLists.{IsStatedList}
use Rattle.pm_beneath.specs.declared.fails.PlaceFail.{PlaceFail}
use Rattle.pm_beneath.specs.declared.fails.PlaceFail.TheVariants.{Many, Memory, Wide}
use Rattle.pm_beneath.specs.declared.run.RunFail.{RunFail}
use Rattle.pm_beneath.specs.declared.run.RunFail.TheVariants.{Crowd, Engine}
use Rattle.pm_geom.specs.FaceCounts.{IsLexBefore}
use Rattle.pm_geom.specs.declared.evidence.Evidence.{Evidence}
use Rattle.pm_geom.specs.declared.evidence.Evidence.TheVariants.{E5Cells}
use Rattle.pm_laws_placing.specs.PlacedCells.{HaveSameSets}

-- T has the cells of all rays, as they are taken, and they stand at these places
pub record IsPlacedRun (n : ℕ) (L G : List Row) (places : List ℕ) (T : List (List ℕ)) : Type 0 where
  pub basis : List Row
  pub list : List Row
  pub rows : List Row
  pub start : ℕ
  pub stated : IsStatedList n L G basis list rows places start
  pub run : IsRunTo n basis rows start (length rows) T

-- the cells of a refusal have places below w, and its front has a number in 32 bits
abbrev pub FitsPlaces : ℕ → ℕ → RunFail → Type 0
FitsPlaces w lead (Engine f) = Unit {0}
FitsPlaces w lead (Crowd f cells) = All (λ s. All (λ k. k < w) s.items) cells.items × (f + lead < 2 ^ 32)

-- the evidence has these cells, each once and in lexicographic order, and is of this front
abbrev pub ShowsCells : ℕ → List (List ℕ) → Evidence → Type 0
ShowsCells front cells (E5Cells g made) = (g ≡ front) × HaveSameSets made cells × AllPairs IsLexBefore made
    × (AllPairs (λ s t. ¬ (s ≡ t)) cells → length made ≡ length cells)
ShowsCells front cells e = ⊥

-- the refusal of a run as one of placing: with the same evidence, or with the cells by these names
abbrev pub IsPlaceFailOf : ℕ → ℕ → List ℕ → RunFail → PlaceFail → Type 0
IsPlaceFailOf many lead places (Engine f) p = p ≡ fail_of_engine f
IsPlaceFailOf many lead places (Crowd f cells) (Wide e) = ⊥
IsPlaceFailOf many lead places (Crowd f cells) (Many e) =
    ShowsCells (f + lead) (map (λ s. named many places s.items) cells.items) e
IsPlaceFailOf many lead places (Crowd f cells) Memory = Unit {0}
