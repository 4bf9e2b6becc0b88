use Rattle.pm_client.proofs.ConeExamples.{cones_are_read}
use Rattle.pm_client.proofs.example_cones.Goals as goal

pub returns : goal.returns
returns c = cones_are_read
