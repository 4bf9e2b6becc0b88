-- The placing triangulation: the rows are taken in the stated order, and each new ray is joined to the faces of cells
-- on the facets that it is beyond (De Loera, Rambau and Santos, Triangulations, section 4.3).
use Rattle.std.specs.Prelude.{ℕ, suc, ◌+◌, ◌≡◌, ◌<◌, ◌≤◌, ◌↔◌, ◌⊎◌, Bool, true, false, cond, List, [], ◌∷◌, ◌++◌, length, map, take}
use Rattle.std.specs.Bool.{beq}
use Rattle.std.specs.List.{All, Contains, slice_index_or}
use Rattle.pm_vector.specs.Rows.{HasCols, Row, dot}
use Rattle.pm_vector.specs.Cones.{InCone, InSpan}
use Rattle.pm_vector.specs.Bases.{row_at}
use Rattle.pm_vector.specs.Enlarging.{MarkEnlarging}
use Rattle.pm_geom.specs.Cones.{IsOrder, IsValid, SameModulo}
use Rattle.pm_geom.specs.Faces.{ray}
use Rattle.pm_geom.specs.Graphs.{IsAscending}
use Rattle.pm_geom.specs.Triangulations.{IsTriangulation}
use lib.IntN.{pos}
use lib.Signed.{◌<ℤ◌}

-- the places, counted from i, whose mark is b
abbrev pub places_marked : Bool → List Bool → ℕ → List ℕ
places_marked b [] i = []
places_marked b (m ∷ marks) i =
    cond (beq b m) (i ∷ places_marked b marks (suc i)) (places_marked b marks (suc i))

-- the stated order of a list with these marks, as places
abbrev pub stated_places : List Bool → List ℕ
stated_places marks = places_marked true marks 0 ++ places_marked false marks 0

-- of the rays of the cell s, the one at i alone is not zero on a
pub record IsOnlyOff (G : List Row) (a : Row) (s : List ℕ) (i : ℕ) : Type 0 where
  pub member : Contains s i
  pub off : ¬ (dot a (ray G i) ≡ pos 0)
  pub others : (k : ℕ) → Contains s k → ¬ (k ≡ i) → dot a (ray G k) ≡ pos 0

-- u is the set of the places of s other than i, and j
pub record IsExchange (s : List ℕ) (i j : ℕ) (u : List ℕ) : Type 0 where
  pub same : (k : ℕ) → Contains u k ↔ ((Contains s k × ¬ (k ≡ i)) ⊎ (k ≡ j))

-- U has the cells of T, and for each row of F that the ray at j is beyond (it is negative there), and each cell of T
-- of which exactly one ray is not zero on it, the set of the cell's other rays and j; and no other
pub record IsNextCells (G F : List Row) (j : ℕ) (T U : List (List ℕ)) : Type 0 where
  pub each : (u : List ℕ) → Contains U u → Contains T u
      ⊎ ((a : Row) × (s : List ℕ) × (i : ℕ) × Contains F a × (dot a (ray G j) <ℤ pos 0) × Contains T s
      × IsOnlyOff G a s i × IsExchange s i j u)
  pub kept : (s : List ℕ) → Contains T s → Contains U s
  pub joined : (a : Row) (s : List ℕ) (i : ℕ) → Contains F a → dot a (ray G j) <ℤ pos 0 → Contains T s
      → IsOnlyOff G a s i → (u : List ℕ) × Contains U u × IsExchange s i j u

-- the cells of a front, with one row more: F has one facet row for each facet of the cone of the rows of the front; a
-- row that is no ray, but one of the `lead` first ones, adds no cell
pub record IsCellStep (n lead : ℕ) (X G : List Row) (front : List ℕ) (p : ℕ) (T U : List (List ℕ))
    : Type 0 where
  pub facets : List Row
  pub order : IsOrder n (IsValid n (map (row_at X) front) []) facets
  pub line : p < lead → (s : List ℕ) → Contains U s ↔ Contains T s
  pub ray_placed : (j : ℕ) → p ≡ lead + j → IsNextCells G facets j T U

-- the first cell: the rays among these places
pub record IsFirstCell (lead : ℕ) (front : List ℕ) (s : List ℕ) : Type 0 where
  pub same : (j : ℕ) → Contains s j ↔ Contains front (lead + j)

-- T has the cells of the first f rows of the stated order of X = K ++ G, whose first rows K are no rays
pub record IsPlacing (n : ℕ) (K G : List Row) (f : ℕ) (T : List (List ℕ)) : Type 0 where
  pub marks : List Bool
  pub enlarging : MarkEnlarging (K ++ G) marks
  pub cells : ℕ → List (List ℕ)
  pub first : List ℕ
  pub is_first
      : IsFirstCell (length K) (take (length (places_marked true marks 0)) (stated_places marks)) first
  pub start : cells (length (places_marked true marks 0)) ≡ first ∷ []
  pub step : (k : ℕ) → length (places_marked true marks 0) ≤ k → k < f
      → IsCellStep n (length K) (K ++ G) G (take k (stated_places marks))
      (slice_index_or (stated_places marks) k 0) (cells k) (cells (suc k))
  pub enough : length (places_marked true marks 0) ≤ f
  pub within : f ≤ length (K ++ G)
  pub ascending : (k : ℕ) → length (places_marked true marks 0) ≤ k → k ≤ f
      → All (IsAscending (length G)) (cells k)
  pub last : cells f ≡ T

-- where the first rows K generate the span of the lines L, the cells of all rows are a triangulation of cone(G) +
-- span(L)
abbrev pub PlacingTriangulates : Type 0
PlacingTriangulates = (n : ℕ) (K G L : List Row) → HasCols n K → HasCols n G → HasCols n L
    → ((x : Row) → length x ≡ n → InCone K [] x ↔ InSpan L x) → (T : List (List ℕ))
    → IsPlacing n K G (length (K ++ G)) T → IsTriangulation n G L T

-- at each step, two new cells with the same places come from one facet, and from one cell
abbrev pub NewCellsAreOnce : Type 0
NewCellsAreOnce = (n : ℕ) (K G L : List Row) → HasCols n K → HasCols n G → HasCols n L
    → ((x : Row) → length x ≡ n → InCone K [] x ↔ InSpan L x)
    → (f : ℕ) (T : List (List ℕ)) (pl : IsPlacing n K G f T) (k : ℕ)
    (mk : length (places_marked true pl.marks 0) ≤ k) (lk : k < f) (j : ℕ)
    → slice_index_or (stated_places pl.marks) k 0 ≡ length K + j →
    (a a' : Row) → Contains (pl.step k mk lk).facets a → Contains (pl.step k mk lk).facets a'
    → (s s' : List ℕ) → Contains (pl.cells k) s → Contains (pl.cells k) s' → (i i' : ℕ)
    → IsOnlyOff G a s i → IsOnlyOff G a' s' i' → (u : List ℕ) → IsExchange s i j u
    → IsExchange s' i' j u →
    SameModulo n (IsValid n (map (row_at (K ++ G)) (take k (stated_places pl.marks))) []) a a'
    × (a ≡ a' → (q : ℕ) → Contains s q ↔ Contains s' q)
