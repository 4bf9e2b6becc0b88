-- Shadows: faces of a cone projected along the first axis (Ziegler, Lectures on Polytopes, section 7.2). The cones of
-- normal fans are shadows of the faces of the cone of valid rows, and those of face fans of the faces of the cone over
-- the polytope.
use Rattle.std.specs.Prelude.{ℕ, zero, suc, ◌≡◌, ◌<◌, ◌↔◌, Bool, true, false, List, [], ◌∷◌, filter, length, map}
use Rattle.std.specs.List.{All, AllPairs, Any, Contains, range_with_len}
use Rattle.pm_vector.specs.Cones.{InCone}
use Rattle.pm_vector.specs.Rows.{Row, dot, entry}
use Rattle.pm_geom.specs.Cones.{IsExtremeRay, SameModulo}
use Rattle.pm_geom.specs.Faces.{ray}
use Rattle.pm_geom.specs.Things.{AreFanOrders}
use Rattle.pm_laws_normal_fans.specs.Fans.{Fan, IsConeAt, IsFan, cone_at}
use lib.IntN.{ℤ, pos, negsuc, ◌*ℤ◌}
use lib.Signed.{◌<ℤ◌}

-- a positive multiple of c is what stands after the first entry of a row of T on which a vanishes
pub record InShadow (n : ℕ) (T : Row → Type 0) (a c : Row) : Type 0 where
  pub factor : ℤ
  pub row : Row
  pub positive : pos 0 <ℤ factor
  pub cols : length row ≡ n
  pub inside : T row
  pub zero : dot a row ≡ pos 0
  pub same : (i : ℕ) → factor *ℤ entry c i ≡ entry row (suc i)

-- the row without its first entry
abbrev pub rest : Row → Row
rest [] = []
rest (a ∷ x) = x

abbrev pub rests : List Row → List Row
rests X = map rest X

abbrev pub is_zero : ℤ → Bool
is_zero (pos zero) = true
is_zero (pos (suc k)) = false
is_zero (negsuc k) = false

-- the rows of F on which a vanishes
abbrev pub held : List Row → Row → List Row
held F a = filter (λ b. is_zero (dot b a)) F

-- for each row of A a cone, of the rows of F on which it vanishes, and the lines E: all without their first entries
abbrev pub shadow_fan : List Row → List Row → List Row → Fan
shadow_fan F E A = record { cones = map (λ a. rests (held F a)) A; lines = rests E }

-- the used rows are those of F on which some row of A vanishes, no two alike
pub record AreUsed (n : ℕ) (F E A used : List Row) : Type 0 where
  pub each : All (λ b. Contains F b × Any (λ a. dot b a ≡ pos 0) A) used
  pub all : All (λ b. Any (λ a. dot b a ≡ pos 0) A → Contains used b) F
  pub once : AllPairs (λ b c. ¬ (SameModulo n (InCone F E) b c)) used

-- what is known of the fan of shadows
pub record IsShadowFan (m : ℕ) (F E A used : List Row) : Type 0 where
  -- it is a fan, whose cones are the shadows
  pub fan : IsFan m (shadow_fan F E A)
  pub cones : (k : ℕ) → k < length A
      → IsConeAt m (shadow_fan F E A) k (InShadow (suc m) (InCone F E) (ray A k))
  -- its rays are the used rows without their first entries
  pub orders : AreFanOrders m (shadow_fan F E A).cones (rests E)
      (record { rays = rests used; facets = []; cones = range_with_len 0 (length A) })
  -- and those of the cone at a place are the rows on which the row of A there vanishes
  pub rays : (k j : ℕ) → k < length A → j < length used
      → IsExtremeRay m (cone_at (shadow_fan F E A) k) (rests E) (ray (rests used) j)
      ↔ (dot (ray used j) (ray A k) ≡ pos 0)
