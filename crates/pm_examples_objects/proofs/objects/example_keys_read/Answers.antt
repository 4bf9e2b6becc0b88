use Rattle.pm_examples_objects.proofs.Reading.{keys}
use Rattle.pm_examples_objects.proofs.objects.example_keys_read.Goals as goal

pub returns : goal.returns
returns c = keys
