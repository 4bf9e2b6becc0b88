use Rattle.pm_build.proofs.Examples.{objects}
use Rattle.pm_build.proofs.example_objects.Goals as goal

pub returns : goal.returns
returns c = objects
