use Rattle.pm_examples_objects.proofs.HeldPrograms.{names_have_places}
use Rattle.pm_examples_objects.proofs.objects.example_places.Goals as goal

pub returns : goal.returns
returns c = names_have_places
