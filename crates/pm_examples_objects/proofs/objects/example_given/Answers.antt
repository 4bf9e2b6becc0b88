use Rattle.pm_examples_objects.proofs.HeldPrograms.{objectives_are_given}
use Rattle.pm_examples_objects.proofs.objects.example_given.Goals as goal

pub returns : goal.returns
returns c = objectives_are_given
