use Rattle.pm_examples_objects.proofs.HeldPrograms.{programs_are_sealed}
use Rattle.pm_examples_objects.proofs.objects.example_sealed.Goals as goal

pub returns : goal.returns
returns c = programs_are_sealed
