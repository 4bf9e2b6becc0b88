use Rattle.pm_refine.proofs.ObjectExamples.{objects_are_read}
use Rattle.pm_refine.proofs.example_objects.Goals as goal

pub returns : goal.returns
returns c = objects_are_read
