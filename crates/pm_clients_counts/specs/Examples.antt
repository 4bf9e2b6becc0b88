-- The places of rows whose first entry is 0, read on two rays: what holds of them, and what does not.
use Rattle.pm_clients_counts.specs.Places.{AreZeroPlaces}
use Rattle.pm_types.specs.Views.{ratios}
use Rattle.pm_vector.specs.Numbers.{Ratio}
use Rattle.std.specs.Prelude.{List, [], ◌∷◌}
use lib.IntN.{pos}

-- the rays (1, 2) and (0, 1)
abbrev pub far_second : List (List Ratio)
far_second = ratios (pos 1 ∷ pos 2 ∷ []) ∷ ratios (pos 0 ∷ pos 1 ∷ []) ∷ []

pub record PlacesAreRead : Type 0 where
  -- the second is far
  pub far : AreZeroPlaces far_second 2 (pos 1 ∷ [])
  pub not_none : ¬ (AreZeroPlaces far_second 2 [])
  pub not_the_first : ¬ (AreZeroPlaces far_second 2 (pos 0 ∷ pos 1 ∷ []))
