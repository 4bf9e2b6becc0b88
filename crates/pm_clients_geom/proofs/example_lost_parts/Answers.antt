use Rattle.pm_clients_geom.proofs.LostPartsExamples.{lost_parts_are_read}
use Rattle.pm_clients_geom.proofs.example_lost_parts.Goals as goal

pub returns : goal.returns
returns c = lost_parts_are_read
