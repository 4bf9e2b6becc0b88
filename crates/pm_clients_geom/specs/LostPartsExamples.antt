-- Which parts of a view are lost by wide numbers, and how a wide client that places rays fails: what holds, and what
-- does not.
use Rattle.pm_client.specs.Sound.{FailsRightly}
use Rattle.pm_client.specs.declared.ClientFail.TheVariants.{Failed, Memory}
use Rattle.pm_clients_geom.specs.Hulls.{ReadsLostParts}
use Rattle.pm_clients_geom.specs.LostListExamples.{with_rays}
use Rattle.pm_clients_geom.specs.PlacedRays.{PlaceFails}
use Rattle.pm_clients_geom.specs.declared.placing.PlaceWork.TheVariants as work
use Rattle.pm_vector.specs.EliminationSteps.{EliminationStep}
use Rattle.pm_elim.specs.LostExamples.{one_entry, two_rows}
use Rattle.pm_geom.specs.declared.evidence.Evidence.TheVariants.{E1, E5Cells, E5Rows}
use Rattle.pm_geom.specs.declared.evidence.Evidence.{Evidence}
use Rattle.std.specs.Prelude.{[]}

pub record LostPartsAreRead : Type 0 where
  -- the null space of the rays (2, 1) and (-1, 2^126) is lost
  pub lost : ReadsLostParts (with_rays 2 two_rows)
  -- of the ray (1) nothing is
  pub not_lost : ¬ (ReadsLostParts (with_rays 1 one_entry))
  -- right evidence is how the wide clients fail where their parts are lost, and not elsewhere
  pub facets_fail : (e : Evidence) → FailsRightly (with_rays 2 two_rows) (Failed e)
      → PlaceFails work.BbFacetsVWide (with_rays 2 two_rows) (Failed e)
  pub not_facets_fail : (step : EliminationStep)
      → ¬ (PlaceFails work.BbFacetsVWide (with_rays 1 one_entry) (Failed (E1 step)))
  pub points_fail : (e : Evidence) → FailsRightly (with_rays 2 two_rows) (Failed e)
      → PlaceFails work.BbFacetsWide (with_rays 2 two_rows) (Failed e)
  pub not_points_fail : (step : EliminationStep)
      → ¬ (PlaceFails work.BbFacetsWide (with_rays 1 one_entry) (Failed (E1 step)))
  pub placing_fails : (e : Evidence) → FailsRightly (with_rays 2 two_rows) (Failed e)
      → PlaceFails work.PlacingWide (with_rays 2 two_rows) (Failed e)
  pub not_placing_fails : (step : EliminationStep)
      → ¬ (PlaceFails work.PlacingWide (with_rays 1 one_entry) (Failed (E1 step)))
  -- too many cells, and want of memory, need no such parts
  pub too_many : FailsRightly (with_rays 1 one_entry) (Failed (E5Cells 0 []))
      → PlaceFails work.PlacingWide (with_rays 1 one_entry) (Failed (E5Cells 0 []))
  pub of_memory : PlaceFails work.PlacingWide (with_rays 1 one_entry) Memory
  -- a standard client needs none either, but its evidence holds
  pub standard_fails : (e : Evidence) → FailsRightly (with_rays 1 one_entry) (Failed e)
      → PlaceFails work.Placing (with_rays 1 one_entry) (Failed e)
  pub not_standard_fails : ¬ (PlaceFails work.Placing (with_rays 1 one_entry) (Failed (E5Rows [])))
