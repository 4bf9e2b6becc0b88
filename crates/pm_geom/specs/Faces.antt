-- Faces of a cone by an order V of its extreme rays (Ziegler, Lectures on Polytopes, lecture 2). A set of places of V
-- is a test on places.
use Rattle.std.specs.Prelude.{ℕ, zero, suc, ◌≡◌, ◌<◌, ◌↔◌, Bool, IsTrue, List, [], length}
use Rattle.std.specs.List.{slice_index_or}
use Rattle.pm_vector.specs.Rows.{Row, dot}
use Rattle.pm_geom.specs.Cones.{IsValid}
use lib.IntN.{pos}

-- the row of V at place j
abbrev pub ray : List Row → ℕ → Row
ray V j = slice_index_or V j []

-- f holds of exactly the places of V at which some valid row vanishes
pub record IsFace (n : ℕ) (G L V : List Row) (f : ℕ → Bool) : Type 0 where
  pub a : Row
  pub valid : IsValid n G L a
  pub places : (j : ℕ) → j < length V → IsTrue (f j) ↔ (dot a (ray V j) ≡ pos 0)

-- f is included in g, and g has a place below m that f has not
pub record IsStrictlyIn (m : ℕ) (f g : ℕ → Bool) : Type 0 where
  pub included : (j : ℕ) → j < m → IsTrue (f j) → IsTrue (g j)
  pub j : ℕ
  pub below : j < m
  pub has : IsTrue (g j)
  pub lacks : ¬ (IsTrue (f j))

-- k faces, each strictly included in the next and the last one in f
abbrev pub HasChain : ℕ → List Row → List Row → List Row → ℕ → (ℕ → Bool) → Type 0
HasChain n G L V zero f = Unit {0}
HasChain n G L V (suc k) f = (g : ℕ → Bool) × IsFace n G L V g × IsStrictlyIn (length V) g f
    × HasChain n G L V k g

-- the greatest number of strict inclusions of faces below f is k
pub record HasRank (n : ℕ) (G L V : List Row) (f : ℕ → Bool) (k : ℕ) : Type 0 where
  pub face : IsFace n G L V f
  pub chain : HasChain n G L V k f
  pub greatest : ¬ (HasChain n G L V (suc k) f)
