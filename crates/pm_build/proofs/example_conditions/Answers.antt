use Rattle.pm_build.proofs.Examples.{conditions}
use Rattle.pm_build.proofs.example_conditions.Goals as goal

pub returns : goal.returns
returns c = conditions
