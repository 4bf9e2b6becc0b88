use Rattle.pm_fan.proofs.LostCones.{lost_cones_are_read}
use Rattle.pm_fan.proofs.example_lost_cones.Goals as goal

pub returns : goal.returns
returns c = lost_cones_are_read
