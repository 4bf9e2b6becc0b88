use Rattle.pm_examples_objects.proofs.HeldPrograms.{programs_are_refused}
use Rattle.pm_examples_objects.proofs.objects.example_refused_programs.Goals as goal

pub returns : goal.returns
returns c = programs_are_refused
