-- The face fan of a polytope with 0 in its interior, by its maximal cones, those over the facets (Ziegler, Lectures on
-- Polytopes, example 7.2).
use Rattle.std.specs.Prelude.{ℕ, suc, ◌≡◌, ◌<◌, ◌↔◌, List, length}
use Rattle.pm_vector.specs.Cones.{InSpan}
use Rattle.pm_vector.specs.Rows.{Row, entry, HasCols}
use Rattle.pm_geom.specs.Cones.{IsFacetRow, IsOrder, IsValid, Vanishes}
use Rattle.pm_geom.specs.Things.{IsPolytopeThing}
use Rattle.pm_laws_normal_fans.specs.Fans.{Fan, IsConeAt}
use Rattle.pm_laws_normal_fans.specs.Shadows.{InShadow}
use Rattle.pm_laws_normal_fans.specs.Sums.{Cone, In, IsBounded}
use lib.IntN.{pos}
use lib.Signed.{◌<ℤ◌}

-- a bounded polytope on whose facets 0 does not lie: each valid row that does not vanish is positive at 0
pub record IsCenteredPolytope (n : ℕ) (P : Cone) : Type 0 where
  pub thing : IsPolytopeThing n P.generators P.lines
  pub bounded : IsBounded n (In P)
  pub positive : (a : Row) → IsValid n P.generators P.lines a → ¬ (Vanishes n P.generators P.lines a)
      → pos 0 <ℤ entry a 0

-- c is in the cone over the facet of the row a: a positive multiple of it stands after the first entry of a row of P
-- on which a vanishes
abbrev pub InConeOver : ℕ → Cone → Row → Row → Type 0
InConeOver m P a c = InShadow (suc m) (In P) a c

-- each cone of f is that over a facet of P, and each facet of P has its cone
pub record IsFaceFan (m : ℕ) (P : Cone) (f : Fan) : Type 0 where
  pub each : (k : ℕ) → k < length f.cones → (a : Row) × IsFacetRow (suc m) P.generators P.lines a
      × IsConeAt m f k (InConeOver m P a)
  pub all : (a : Row) → IsFacetRow (suc m) P.generators P.lines a
      → (k : ℕ) × (k < length f.cones) × IsConeAt m f k (InConeOver m P a)

-- ---- the rows of P
-- V and F are orders of its extreme rays and of its facet rows
pub record AreOrdersOf (n : ℕ) (P : Cone) (V F : List Row) : Type 0 where
  pub rays : IsOrder n (In P) V
  pub facets : IsOrder n (IsValid n P.generators P.lines) F

-- E spans the rows that vanish on it
pub record AreHull (n : ℕ) (P : Cone) (E : List Row) : Type 0 where
  pub cols : HasCols n E
  pub same : (a : Row) → length a ≡ n → Vanishes n P.generators P.lines a ↔ InSpan E a
