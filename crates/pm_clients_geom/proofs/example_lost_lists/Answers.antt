use Rattle.pm_clients_geom.proofs.LostListExamples.{lost_lists_are_read}
use Rattle.pm_clients_geom.proofs.example_lost_lists.Goals as goal

pub returns : goal.returns
returns c = lost_lists_are_read
