use Rattle.pm_examples_objects.proofs.Whole.{loaded_again}
use Rattle.pm_examples_objects.proofs.objects.example_again.Goals as goal

pub returns : goal.returns
returns c = loaded_again
