use Rattle.pm_fan.proofs.Examples.{fans}
use Rattle.pm_fan.proofs.example_fans.Goals as goal

pub returns : goal.returns
returns c = fans
