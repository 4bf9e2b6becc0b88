-- Least sums over the list W of the rows that were placed, the last placed first. A cell is a mask over the places of
-- W.
use Rattle.std.specs.Prelude.{ℕ, ◌≡◌, ◌⊎◌, ◌&&◌, Bool, true, false, List, [], ◌∷◌, ◌++◌, length, get_or}
use Rattle.std.specs.List.{All, AllByRecursion, Any, Contains}
use Rattle.pm_vector.specs.Cones.{InCone, InSpan, combination}
use Rattle.pm_vector.specs.Rows.{HasCols, Row, Same, dot, plus, times}
use Rattle.pm_geom.specs.Cones.{CutOut}
use Rattle.pm_geom.specs.Faces.{ray}
use lib.IntN.{ℤ, pos, negsuc, ◌*ℤ◌}
use lib.Signed.{◌<ℤ◌, ◌≤ℤ◌}

abbrev pub at : List ℤ → ℕ → ℤ
at c j = get_or c j (pos 0)

abbrev pub has : List Bool → ℕ → Bool
has s j = get_or s j false

abbrev pub Within : List Bool → List ℤ → Type 0
Within s c = (j : ℕ) → has s j ≡ false → at c j ≡ pos 0

abbrev pub common : List Bool → List Bool → List Bool
common [] t = []
common (a ∷ s) [] = []
common (a ∷ s) (b ∷ t) = (a && b) ∷ common s t

pub record InCell (W L : List Row) (s : List Bool) (x : Row) : Type 0 where
  pub m : ℤ
  pub c : List ℤ
  pub d : List ℤ
  pub as_many : length c ≡ length W
  pub positive : pos 0 <ℤ m
  pub not_negative : AllByRecursion (λ k. pos 0 ≤ℤ k) c
  pub within : Within s c
  pub same : Same (times m x) (plus (combination c W) (combination d L))

pub record IsCellList (n : ℕ) (W L : List Row) (T : List (List Bool)) : Type 0 where
  pub independent : All (λ s. (c : List ℤ) → length c ≡ length W → Within s c → InCone [] L (combination c W)
      → (j : ℕ) → at c j ≡ pos 0) T
  pub covers : (x : Row) → length x ≡ n → InCone W L x → Any (λ s. InCell W L s x) T
  pub meets : (s t : List Bool) → Contains T s → Contains T t → (x : Row) → InCell W L s x → InCell W L t x
      → InCell W L (common s t) x

abbrev pub IsLexNegative : List ℤ → Type 0
IsLexNegative [] = ⊥
IsLexNegative (a ∷ d) = (a <ℤ pos 0) ⊎ ((a ≡ pos 0) × IsLexNegative d)

-- c' - m c
abbrev pub over : List ℤ → ℤ → List ℤ → List ℤ
over c' m c = plus c' (times (negsuc 0 *ℤ m) c)

pub record IsLeast (W L : List Row) (c : List ℤ) : Type 0 where
  pub as_many : length c ≡ length W
  pub not_negative : AllByRecursion (λ k. pos 0 ≤ℤ k) c
  pub least : (m : ℤ) (c' : List ℤ) → pos 0 <ℤ m → length c' ≡ length W → AllByRecursion (λ k. pos 0 ≤ℤ k) c'
      → InCone [] L (over (combination c' W) m (combination c W)) → ¬ (IsLexNegative (over c' m c))

pub record IsLeastCell (W L : List Row) (s : List Bool) : Type 0 where
  pub c : List ℤ
  pub is_least : IsLeast W L c
  pub positive : (j : ℕ) → has s j ≡ true → pos 0 <ℤ at c j

-- cells on which least sums are positive, and of which one holds each least sum, triangulate
abbrev pub LeastCellsTriangulate : Type 0
LeastCellsTriangulate = (n : ℕ) (W L : List Row) → HasCols n W → HasCols n L → (T : List (List Bool))
    → All (IsLeastCell W L) T → ((c : List ℤ) → IsLeast W L c → Any (λ s. Within s c) T) → IsCellList n W L T

-- rows A that are not negative on W, vanish on L, and cut out the cone over W in its span
pub record Walls (n : ℕ) (W L A : List Row) : Type 0 where
  pub above : (a w : Row) → Contains A a → Contains W w → pos 0 ≤ℤ dot a w
  pub flat : (a l : Row) → Contains A a → Contains L l → dot a l ≡ pos 0
  pub enough : (x : Row) → length x ≡ n → InSpan (W ++ L) x → CutOut A x → InCone W L x

-- U is T with v placed: the cells of T, and for each wall that v is beyond (it is negative there) the places of a
-- cell on which it vanishes, with v
pub record IsPlaced (W A : List Row) (v : Row) (T U : List (List Bool)) : Type 0 where
  pub each : (u : List Bool) → Contains U u → ((s : List Bool) × Contains T s × (u ≡ false ∷ s))
      ⊎ ((s : List Bool) × (a : Row) × (t : List Bool) × Contains T s × Contains A a × (dot a v <ℤ pos 0)
      × (u ≡ true ∷ t) × ((j : ℕ) → has t j ≡ true → (has s j ≡ true) × (dot a (ray W j) ≡ pos 0)))
  pub kept : (s : List Bool) → Contains T s → Contains U (false ∷ s)
  pub joined : (s : List Bool) (a : Row) → Contains T s → Contains A a → dot a v <ℤ pos 0
      → (t : List Bool) × Contains U (true ∷ t)
      × ((j : ℕ) → has s j ≡ true → dot a (ray W j) ≡ pos 0 → has t j ≡ true)

-- the cells that carry least sums, one of which holds each least sum
pub record IsLeastList (W L : List Row) (T : List (List Bool)) : Type 0 where
  pub cells : All (IsLeastCell W L) T
  pub all : (c : List ℤ) → IsLeast W L c → Any (λ s. Within s c) T

abbrev pub PlacingStep : Type 0
PlacingStep = (n : ℕ) (W L A : List Row) (v : Row) → HasCols n W → HasCols n L → length v ≡ n
    → InSpan (W ++ L) v → Walls n W L A → (T U : List (List Bool)) → IsPlaced W A v T U → IsLeastList W L T
    → IsLeastList (v ∷ W) L U
