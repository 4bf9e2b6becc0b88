use Rattle.pm_machine.proofs.Examples.{objects_are_read}
use Rattle.pm_machine.proofs.laws.example_objects.Goals as goal

pub returns : goal.returns
returns c = objects_are_read
