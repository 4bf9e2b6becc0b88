use Rattle.pm_examples_objects.proofs.Filing.{files_are_loaded}
use Rattle.pm_examples_objects.proofs.objects.example_loaded.Goals as goal

pub returns : goal.returns
returns c = files_are_loaded
