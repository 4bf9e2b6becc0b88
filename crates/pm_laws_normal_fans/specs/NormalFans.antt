-- The normal fan of a polytope by its maximal cones, those of the vertices (Ziegler, Lectures on Polytopes, example
-- 7.3).
-- A cone has the objectives that are least at the vertex: the sign is this project's own, Ziegler takes greatest.
use Rattle.std.specs.Prelude.{ℕ, suc, ◌≡◌, ◌<◌, ◌↔◌, length}
use Rattle.pm_vector.specs.Rows.{Row}
use Rattle.pm_laws_normal_fans.specs.Fans.{Fan, InPlace}
use Rattle.pm_laws_normal_fans.specs.Sums.{IsLeastAt, IsVertex}

-- the cone at place k is the set of the objectives that are least on S at v
abbrev pub IsConeOfVertex : ℕ → (Row → Type 0) → Row → Fan → ℕ → Type 0
IsConeOfVertex n S v f k = (c : Row) → suc (length c) ≡ n → InPlace f k c ↔ IsLeastAt n S v c

-- each cone of f is that of a vertex of S, and each vertex of S has its cone
pub record IsNormalFan (n : ℕ) (S : Row → Type 0) (f : Fan) : Type 0 where
  pub each : (k : ℕ) → k < length f.cones → (v : Row) × IsVertex n S v × IsConeOfVertex n S v f k
  pub all : (v : Row) → IsVertex n S v → (k : ℕ) × (k < length f.cones) × IsConeOfVertex n S v f k
