use Rattle.pm_machine.proofs.BuildingExamples.{wanted_is_ensured}
use Rattle.pm_machine.proofs.laws.example_wanted.Goals as goal

pub returns : goal.returns
returns c = wanted_is_ensured
