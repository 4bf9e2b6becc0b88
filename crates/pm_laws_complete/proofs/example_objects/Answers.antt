use Rattle.pm_laws_complete.proofs.Examples.{objects_read}
use Rattle.pm_laws_complete.proofs.example_objects.Goals as goal

pub returns : goal.returns
returns c = objects_read
