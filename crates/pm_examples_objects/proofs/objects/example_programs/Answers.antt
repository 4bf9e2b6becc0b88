use Rattle.pm_examples_objects.proofs.HeldPrograms.{names_are_programs}
use Rattle.pm_examples_objects.proofs.objects.example_programs.Goals as goal

pub returns : goal.returns
returns c = names_are_programs
