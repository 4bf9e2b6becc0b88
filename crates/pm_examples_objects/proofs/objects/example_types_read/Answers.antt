use Rattle.pm_examples_objects.proofs.Reading.{types}
use Rattle.pm_examples_objects.proofs.objects.example_types_read.Goals as goal

pub returns : goal.returns
returns c = types
