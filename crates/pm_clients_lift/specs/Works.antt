-- The standard client of each work of the family, and how it fails.
use Rattle.pm_client.specs.Fails.{IfOutOfRange}
use Rattle.pm_client.specs.Sound.{FailsRightly}
use Rattle.pm_client.specs.declared.ClientFail.{ClientFail}
use Rattle.pm_clients_lift.specs.LiftedSites.{ReadsLostDelaunaySites, ReadsLostSites}
use Rattle.pm_clients_lift.specs.declared.lifts.LiftWork.{LiftWork}
use Rattle.pm_clients_lift.specs.declared.lifts.LiftWork.TheVariants as lift
use Rattle.pm_object.specs.Reading.{ViewSeen}
use Rattle.pm_standard.specs.declared.standard.StandardClient.{StandardClient}
use Rattle.pm_standard.specs.declared.standard.StandardClient.TheVariants as client

abbrev pub lift_client : LiftWork → StandardClient
lift_client lift.RegularCells = client.RegularCells
lift_client lift.Delaunay = client.Delaunay
lift_client lift.RegularCellsWide = client.RegularCellsWide
lift_client lift.DelaunayWide = client.DelaunayWide

-- a client that lifts sites fails for want of memory, or with evidence that holds of the view; a wide one with evidence
-- of a number out of the range only where the cells of what it reads are lost by wide numbers too
abbrev pub LiftFails : LiftWork → ViewSeen → ClientFail → Type 0
LiftFails lift.RegularCellsWide v e = FailsRightly v e × IfOutOfRange e (ReadsLostSites v)
LiftFails lift.DelaunayWide v e = FailsRightly v e × IfOutOfRange e (ReadsLostDelaunaySites v)
LiftFails w v e = FailsRightly v e
