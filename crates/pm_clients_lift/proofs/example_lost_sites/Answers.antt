use Rattle.pm_clients_lift.proofs.LostExamples.{lost_sites_are_read}
use Rattle.pm_clients_lift.proofs.example_lost_sites.Goals as goal

pub returns : goal.returns
returns c = lost_sites_are_read
