-- One step of double description: the extreme rays of a cone that rows cut out, and those of the cone with one more
-- row.
use Rattle.std.specs.Prelude.{ℕ, ◌≡◌, ◌<◌, ◌⊎◌, ◌↔◌, List, ◌∷◌, length, get_or}
use Rattle.std.specs.List.{Contains}
use Rattle.pm_geom.specs.Faces.{ray}
use Rattle.pm_vector.specs.Rows.{Row, dot, plus, times, HasCols, opposite}
use Rattle.pm_geom.specs.Cones.{CutOut, InLineality, SameModulo, IsExtreme, IsOrder}
use Rattle.pm_vector.specs.Cones.{InCone}
use lib.IntN.{pos, neg_ℤ}
use lib.Signed.{◌<ℤ◌, ◌≤ℤ◌}

-- no third ray of V vanishes on each row of A on which the rays at i and at j both do
pub record Adjacent (A V : List Row) (i j : ℕ) : Type 0 where
  pub third : (k : ℕ) → k < length V
      → ((b : Row) → Contains A b → dot b (ray V i) ≡ pos 0 → dot b (ray V j) ≡ pos 0
      → dot b (ray V k) ≡ pos 0) → (k ≡ i) ⊎ (k ≡ j)

-- a ray that is kept, or a pair of rays that is combined, by places in V
pub data Source : Type 0 where
  kept : ℕ → Source
  pair : ℕ → ℕ → Source

-- (a.r) s - (a.s) r
unfoldable pub combined : Row → Row → Row → Row
combined a r s = plus (times (dot a r) s) (times (neg_ℤ (dot a s)) r)

-- the ray that a source gives, for the new row a
abbrev pub source_row : Row → List Row → Source → Row
source_row a V (kept i) = ray V i
source_row a V (pair i j) = combined a (ray V i) (ray V j)

-- a kept ray is not negative on a; the rays of a pair are adjacent, and a is positive on the first and negative on
-- the second
abbrev pub IsSource : List Row → Row → List Row → Source → Type 0
IsSource A a V (kept i) = (i < length V) × (pos 0 ≤ℤ dot a (ray V i))
IsSource A a V (pair i j) = (i < length V) × (j < length V) × (pos 0 <ℤ dot a (ray V i))
    × (dot a (ray V j) <ℤ pos 0) × Adjacent A V i j

-- the rays that sources give are exactly the extreme rays of the next cone S, up to positive scale and lineality, and
-- no two are alike
pub record IsRayStep (n : ℕ) (S : Row → Type 0) (A : List Row) (a : Row) (V : List Row) : Type 0 where
  pub each : (s : Source) → IsSource A a V s → IsExtreme n S (source_row a V s)
  pub all : (x : Row) → IsExtreme n S x → (s : Source) × IsSource A a V s
      × SameModulo n S x (source_row a V s)
  pub once : (s t : Source) → IsSource A a V s → IsSource A a V t
      → SameModulo n S (source_row a V s) (source_row a V t) → s ≡ t

-- for rows A, and one more that vanishes on the lineality of the cone that they cut out
abbrev pub StepIsComplete : Type 0
StepIsComplete = (n : ℕ) (A : List Row) (a : Row) → HasCols n A → length a ≡ n
    → ((x : Row) → length x ≡ n → InLineality (CutOut A) x → dot a x ≡ pos 0) → (V : List Row)
    → IsOrder n (CutOut A) V → IsRayStep n (CutOut (a ∷ A)) A a V

-- rows A and D with products 0 but for positive ones at equal places: D is an order of the extreme rays of the cone
-- that A cuts out
pub record AreDualRays (n : ℕ) (A D : List Row) : Type 0 where
  pub rows_cols : HasCols n A
  pub dual_cols : HasCols n D
  pub as_many : length D ≡ length A
  pub apart : (i j : ℕ) → i < length A → j < length A → ¬ (i ≡ j) → dot (ray A i) (ray D j) ≡ pos 0
  pub own : (i : ℕ) → i < length A → pos 0 <ℤ dot (ray A i) (ray D i)

abbrev pub DualIsOrder : Type 0
DualIsOrder = (n : ℕ) (A D : List Row) → AreDualRays n A D → IsOrder n (CutOut A) D

-- v vanishes on no more rows of A than it must: each row of V outside of the lineality that vanishes wherever v does
-- vanishes nowhere else
pub record IsMaximal (A V : List Row) (v : Row) : Type 0 where
  pub least : (u : Row) → Contains V u → ¬ (CutOut A (opposite u))
      → ((b : Row) → Contains A b → dot b v ≡ pos 0 → dot b u ≡ pos 0) → (b : Row) → Contains A b
      → dot b u ≡ pos 0 → dot b v ≡ pos 0

-- of rows that generate what A cuts out, those outside of the lineality are extreme exactly where they are maximal
abbrev pub ExtremeIsMaximal : Type 0
ExtremeIsMaximal = (n : ℕ) (A V K : List Row) → HasCols n A → HasCols n V → HasCols n K
    → ((x : Row) → length x ≡ n → CutOut A x ↔ InCone V K x)
    → ((k : Row) → Contains K k → InLineality (CutOut A) k) →
    (v : Row) → Contains V v → ¬ (CutOut A (opposite v)) → IsExtreme n (CutOut A) v ↔ IsMaximal A V v

-- W has one row for each source, like the row that the source gives, and no source twice
pub record IsNext (n : ℕ) (S : Row → Type 0) (A : List Row) (a : Row) (V W : List Row)
    (sources : List Source) : Type 0 where
  pub as_many : length W ≡ length sources
  pub cols : HasCols n W
  pub given : (k : ℕ) → k < length W → IsSource A a V (get_or sources k (kept 0))
      × SameModulo n S (source_row a V (get_or sources k (kept 0))) (ray W k)
  pub inside : (k : ℕ) → k < length W → S (ray W k)
  pub every : (s : Source) → IsSource A a V s → (k : ℕ) × (k < length W) × (get_or sources k (kept 0) ≡ s)
  pub once : (i j : ℕ) → i < j → j < length W → ¬ (get_or sources i (kept 0) ≡ get_or sources j (kept 0))

-- such a list is an order of the next cone
abbrev pub NextIsOrder : Type 0
NextIsOrder = (n : ℕ) (A : List Row) (a : Row) → HasCols n A → length a ≡ n
    → ((x : Row) → length x ≡ n → InLineality (CutOut A) x → dot a x ≡ pos 0) → (V : List Row)
    → IsOrder n (CutOut A) V →
    (W : List Row) (sources : List Source) → IsNext n (CutOut (a ∷ A)) A a V W sources
    → IsOrder n (CutOut (a ∷ A)) W
