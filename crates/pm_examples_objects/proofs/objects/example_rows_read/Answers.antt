use Rattle.pm_examples_objects.proofs.Reading.{rows}
use Rattle.pm_examples_objects.proofs.objects.example_rows_read.Goals as goal

pub returns : goal.returns
returns c = rows
