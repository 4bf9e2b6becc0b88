use Rattle.pm_examples_objects.proofs.Whole.{whole_files}
use Rattle.pm_examples_objects.proofs.objects.example_whole.Goals as goal

pub returns : goal.returns
returns c = whole_files
