use Rattle.pm_examples_objects.proofs.HeldPrograms.{values_are_placed}
use Rattle.pm_examples_objects.proofs.objects.example_placed.Goals as goal

pub returns : goal.returns
returns c = values_are_placed
