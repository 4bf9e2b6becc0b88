use Rattle.pm_examples_objects.proofs.Reading.{profiles}
use Rattle.pm_examples_objects.proofs.objects.example_profiles_read.Goals as goal

pub returns : goal.returns
returns c = profiles
