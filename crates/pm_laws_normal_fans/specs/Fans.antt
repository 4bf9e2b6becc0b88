-- Fans by their maximal cones, and the common refinement of two fans (Ziegler, Lectures on Polytopes, section 7.1).
use Rattle.std.specs.Prelude.{ℕ, ◌≡◌, ◌<◌, ◌↔◌, List, [], length}
use Rattle.std.specs.List.{slice_index_or}
use Rattle.pm_vector.specs.Cones.{InCone, InSpan}
use Rattle.pm_vector.specs.Rows.{Row, IsZero}
use Rattle.pm_geom.specs.Things.{IsFanThing}

-- the generators of each cone, and the lines of all of them
pub record Fan : Type 0 where
  pub cones : List (List Row)
  pub lines : List Row

-- the generators of the cone at a place
abbrev pub cone_at : Fan → ℕ → List Row
cone_at f i = slice_index_or f.cones i []

-- x is in the cone at place i
abbrev pub InPlace : Fan → ℕ → Row → Type 0
InPlace f i x = InCone (cone_at f i) f.lines x

-- its cones have one lineality, and none is included in another
abbrev pub IsFan : ℕ → Fan → Type 0
IsFan n f = IsFanThing n f.cones f.lines

-- the rows of n entries in the cone at place k are those with P
abbrev pub IsConeAt : ℕ → Fan → ℕ → (Row → Type 0) → Type 0
IsConeAt n f k P = (x : Row) → length x ≡ n → InPlace f k x ↔ P x

-- the cones of f are those of g, at whatever places, and so is the lineality
pub record IsSameFan (n : ℕ) (f g : Fan) : Type 0 where
  pub lines : (x : Row) → length x ≡ n → InSpan f.lines x ↔ InSpan g.lines x
  pub each : (i : ℕ) → i < length f.cones → (j : ℕ) × (j < length g.cones) × IsConeAt n f i (InPlace g j)
  pub all : (j : ℕ) → j < length g.cones → (i : ℕ) × (i < length f.cones) × IsConeAt n f i (InPlace g j)

-- there is a fan with P, and each other one has the same cones
pub record HasOneFan (n : ℕ) (P : Fan → Type 0) : Type 0 where
  pub fan : Fan
  pub is_fan : IsFan n fan
  pub has : P fan
  pub only : (g : Fan) → IsFan n g → P g → IsSameFan n fan g

-- ---- the common refinement: the intersections of a cone of f and a cone of g, of which the maximal ones are listed
-- x is in the cone of f at place i and in that of g at place j
abbrev pub InIntersection : Fan → Fan → ℕ → ℕ → Row → Type 0
InIntersection f g i j x = InPlace f i x × InPlace g j x

-- the intersection at i and j is included in the one at k and l
abbrev pub IsIntersectionWithin : ℕ → Fan → Fan → ℕ → ℕ → ℕ → ℕ → Type 0
IsIntersectionWithin n f g i j k l = (x : Row) → length x ≡ n → InIntersection f g i j x
    → InIntersection f g k l x

-- it is included in no other intersection, but in equal ones
pub record IsMaximalIntersection (n : ℕ) (f g : Fan) (i j : ℕ) : Type 0 where
  pub first : i < length f.cones
  pub second : j < length g.cones
  pub maximal : (k l : ℕ) → k < length f.cones → l < length g.cones → IsIntersectionWithin n f g i j k l
      → IsIntersectionWithin n f g k l i j

-- the cones of h are exactly the maximal intersections of a cone of f and a cone of g; where there is none, the
-- lineality of h is {0}
pub record IsCommonRefinement (n : ℕ) (f g h : Fan) : Type 0 where
  pub each : (k : ℕ) → k < length h.cones
      → (i : ℕ) × (j : ℕ) × IsMaximalIntersection n f g i j × IsConeAt n h k (InIntersection f g i j)
  pub all : (i j : ℕ) → IsMaximalIntersection n f g i j
      → (k : ℕ) × (k < length h.cones) × IsConeAt n h k (InIntersection f g i j)
  pub bare : h.cones ≡ [] → (x : Row) → length x ≡ n → InSpan h.lines x → IsZero x
