-- The rays at which an optimum stands, in either sense.
use Rattle.pm_geom.specs.Programs.{IsTimes}
use Rattle.pm_simplex.proofs.Senses.{value_of_ratio}
use Rattle.pm_simplex.specs.Senses.{objective_in, ratio_in, value_in}
use Rattle.pm_simplex.specs.declared.sense.Sense.{Sense}
use Rattle.pm_types.specs.Programs.{ArePlacesOfValue}
use Rattle.pm_types.specs.Values.{finite}
use Rattle.pm_vector.specs.Numbers.{Ratio}
use Rattle.pm_vector.specs.Rows.{Row}
use Rattle.pm_wide_programs.proofs.Cones.{value_at, without_slack}
use Rattle.pm_wide_programs.specs.Slacks.{AreLevelPlaces}
use Rattle.std.proofs.Common.{ap, subst, sym, ◌∙◌}
use Rattle.std.specs.Prelude.{List, length, ◌≡◌}
use lib.IntN.{ℤ}

-- the places of the slacks that are 0 are those of the value, in either sense
pub places_found : (sense : Sense) (c d : List Ratio) (k : ℤ) (w : Row) (v u : Ratio) (V : List Row) (ks : List ℤ) → d ≡ objective_in sense c → u ≡ ratio_in sense v → IsTimes k d w → AreLevelPlaces k w u V (length V) ks
    → ArePlacesOfValue (objective_in sense c) (value_in sense (finite v)) V ks
places_found sense c d k w v u V ks e f t h =
    subst (λ x. ArePlacesOfValue (objective_in sense c) x V ks) (sym (value_of_ratio sense v ∙ ap finite (sym f))) (subst (λ (r : List Ratio). ArePlacesOfValue r (finite u) V ks) e (record {
      js = h.js;
      places = h.places;
      ascending = h.ascending;
      each = λ j. (λ i. let p = (h.each j).0 i in (p.0, value_at d k w t u _ p.1), λ i. (h.each j).1 (i.0, without_slack d k w t u _ i.1));
    }))
