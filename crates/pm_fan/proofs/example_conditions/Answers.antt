use Rattle.pm_fan.proofs.Examples.{conditions}
use Rattle.pm_fan.proofs.example_conditions.Goals as goal

pub returns : goal.returns
returns c = conditions
