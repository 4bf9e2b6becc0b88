use Rattle.pm_examples_objects.proofs.Endless.{endless_programs_are_read}
use Rattle.pm_examples_objects.proofs.programs.example_endless_programs.Goals as goal

pub returns : goal.returns
returns c = endless_programs_are_read
