use Rattle.pm_examples_objects.proofs.Reading.{parts}
use Rattle.pm_examples_objects.proofs.objects.example_parts_read.Goals as goal

pub returns : goal.returns
returns c = parts
