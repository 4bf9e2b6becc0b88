use Rattle.pm_examples_objects.proofs.Filing.{objects_are_saved}
use Rattle.pm_examples_objects.proofs.objects.example_saved.Goals as goal

pub returns : goal.returns
returns c = objects_are_saved
