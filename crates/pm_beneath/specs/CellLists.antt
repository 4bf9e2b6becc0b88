-- The cells of the next front as a list: what the code makes.
use Rattle.std.specs.Prelude.{ℕ, ◌+◌, ◌<◌, ◌==◌, ◌≡◌, ◌↔◌, Bool, IsTrue, cond, List, [], ◌∷◌, ◌++◌, length}
use Rattle.std.specs.List.{All, filter}
use Rattle.pm_vector.specs.Rows.{Row, dot, entry}
use Rattle.pm_laws_placing.specs.Placing.{IsNextCells}
use Rattle.pm_bits.specs.Sets.{has}
use Rattle.pm_geom.specs.Faces.{ray}
use Rattle.pm_geom.specs.Graphs.{IsAscending}
use Rattle.std.specs.List.{slice_index_or}
use lib.IntN.{ℤ, pos}
use lib.Signed.{◌<ℤ◌, lt_z}

-- the places of the cell s that are set in z
abbrev pub set_places : List Bool → List ℕ → List ℕ
set_places z s = filter (has z) s

-- for each cell of T of which all places but one are set in z: these, and j
abbrev pub joined_cells : List Bool → ℕ → List (List ℕ) → List (List ℕ)
joined_cells z j [] = []
joined_cells z j (s ∷ T) =
    cond (length (set_places z s) + 1 == length s) ((set_places z s ++ j ∷ []) ∷ joined_cells z j T)
    (joined_cells z j T)

-- so for each row of Z whose value is negative
abbrev pub cells_below : List ℤ → List (List Bool) → ℕ → List (List ℕ) → List (List ℕ)
cells_below [] Z j T = []
cells_below (v ∷ vs) [] j T = []
cells_below (v ∷ vs) (z ∷ Z) j T = cond (lt_z v (pos 0)) (joined_cells z j T ++ cells_below vs Z j T)
    (cells_below vs Z j T)

-- vs is negative where the product of the row of F with the row of J at f is, and Z has for each row of F the places
-- before f at which it is 0
pub record IsFacetTable (J F : List Row) (vs : List ℤ) (Z : List (List Bool)) (f : ℕ) : Type 0 where
  pub values_many : length vs ≡ length F
  pub zeros_many : length Z ≡ length F
  pub values : (i : ℕ) → i < length F → (entry vs i <ℤ pos 0) ↔ (dot (ray F i) (ray J f) <ℤ pos 0)
  pub zeros : (i p : ℕ) → i < length F → p < f → IsTrue (has (slice_index_or Z i []) p)
      ↔ (dot (ray F i) (ray J p) ≡ pos 0)

-- for a table of the facets of a front, the list has the cells of the next front, ascending
pub record AreNextCells (J F : List Row) (f : ℕ) (T U : List (List ℕ)) : Type 0 where
  pub next : IsNextCells J F f T U
  pub ascending : All (IsAscending (f + 1)) U

abbrev pub ListedCellsAreNext : Type 0
ListedCellsAreNext = (J F : List Row) (vs : List ℤ) (Z : List (List Bool)) (f : ℕ) (T : List (List ℕ))
    → IsFacetTable J F vs Z f → All (IsAscending f) T → AreNextCells J F f T (T ++ cells_below vs Z f T)
