use Rattle.pm_examples_objects.proofs.LoadedAgain.{loaded_is_again}
use Rattle.pm_examples_objects.proofs.objects.example_loaded_again.Goals as goal

pub returns : goal.returns
returns c = loaded_is_again
