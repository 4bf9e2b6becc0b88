-- Incidence read on three facets and three vertices of the plane, and short rows: what holds, and what does not.
use Rattle.pm_vector.specs.Rows.{Row}
use Rattle.pm_geom.specs.declared.evidence.Evidence.TheVariants.{E4}
use Rattle.pm_incidence.specs.Incidence.{IsWideFor, incidence, places_from}
use Rattle.pm_incidence.specs.Short.{IsShort}
use Rattle.pm_incidence.specs.declared.fails.IncFail.TheVariants.{Memory, Wide}
use Rattle.std.specs.Prelude.{List, [], replicate, ◌∷◌, ◌≡◌}
use lib.IntN.{ℤ, pos, negsuc}

abbrev pub pair : ℤ → ℤ → Row
pair a b = a ∷ b ∷ []

-- x >= 0, y >= 0 and x >= y
abbrev pub facets : List Row
facets = pair (pos 1) (pos 0) ∷ pair (pos 0) (pos 1) ∷ pair (pos 1) (negsuc 0) ∷ []

abbrev pub vertices : List Row
vertices = pair (pos 0) (pos 1) ∷ pair (pos 2) (pos 2) ∷ pair (pos 0) (pos 0) ∷ []

pub record IncidenceIsRead : Type 0 where
  -- the places of the vertices on each facet, counted from 0
  pub sets : incidence facets vertices ≡ (0 ∷ 2 ∷ []) ∷ (2 ∷ []) ∷ (1 ∷ 2 ∷ []) ∷ []
  pub from_three : places_from 3 (pair (pos 1) (pos 0)) vertices ≡ 3 ∷ 5 ∷ []
  -- want of memory needs no evidence, and evidence names no row that was not read
  pub memory : IsWideFor facets vertices Memory
  pub not_read : ¬ (IsWideFor facets vertices (Wide (E4 (pair (pos 1) (pos 1)) (pair (pos 1) (pos 0)))))

pub record ShortRowsAreRead : Type 0 where
  -- entries up to 2^28 - 1, and one of -2^28
  pub greatest : IsShort (pair (pos 268435455) (negsuc 268435454))
  pub too_great : ¬ (IsShort (pair (pos 0) (negsuc 268435455)))
  -- 65 entries are too many
  pub longest : IsShort (replicate 64 (pos 1))
  pub too_long : ¬ (IsShort (replicate 65 (pos 1)))
