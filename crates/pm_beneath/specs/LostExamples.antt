-- The definitions of what is given up for a number out of the range, read on cones of the plane and of the line.
use Rattle.std.specs.Prelude.{ℕ, List, []}
use Rattle.pm_beneath.specs.Placed.{IfPlaceWide}
use Rattle.pm_beneath.specs.Runs.{IfRunWide, IsCrowdOf}
use Rattle.pm_beneath.specs.declared.fails.PlaceFail.TheVariants.{Many, Memory, Wide}
use Rattle.pm_beneath.specs.declared.run.RunFail.{RunFail}
use Rattle.pm_beneath.specs.declared.run.RunFail.TheVariants.{Engine}
use Rattle.pm_dd.specs.Lost.{DescriptionIsLost, PartsAreLost}
use Rattle.pm_dd.specs.LostExamples.{narrow_cone}
use Rattle.pm_dd.specs.declared.fails.DdFail.TheVariants.{Memory as DdMemory, Wide as DdWide}
use Rattle.pm_elim.specs.LostExamples.{one_entry}
use Rattle.pm_geom.specs.declared.evidence.Evidence.{Evidence}

pub record PlaceLossesAreRead : Type 0 where
  -- a refusal for a number out of the range says so, and one for too many facets or cells, or for want of memory, says
  -- nothing
  pub out_of_range : (e : Evidence) → ¬ (IfPlaceWide (Wide e) ⊥)
  pub too_many : (e : Evidence) → IfPlaceWide (Many e) ⊥
  pub of_memory : IfPlaceWide Memory ⊥
  -- the cone of (0, 1) and (1, -2^127) has the facet row (2^127, 1), and that of (1) has the facet row (1)
  pub placed : (e : Evidence) → IfPlaceWide (Wide e) (PartsAreLost 2 [] narrow_cone)
  pub not_placed : (e : Evidence) → ¬ (IfPlaceWide (Wide e) (PartsAreLost 1 [] one_entry))
  -- so it is for a run, which says nothing either where it has too many cells
  pub run : (e : Evidence) → IfRunWide (Engine (DdWide e)) (DescriptionIsLost 2 narrow_cone)
  pub not_run : (e : Evidence) → ¬ (IfRunWide (Engine (DdWide e)) (DescriptionIsLost 1 one_entry))
  pub run_memory : IfRunWide (Engine DdMemory) ⊥
  pub crowd : (front : ℕ) (T : List (List ℕ)) (f : RunFail) → IsCrowdOf front T f → IfRunWide f ⊥
