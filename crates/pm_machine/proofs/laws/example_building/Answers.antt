use Rattle.pm_machine.proofs.BuildingExamples.{objects_are_built}
use Rattle.pm_machine.proofs.laws.example_building.Goals as goal

pub returns : goal.returns
returns c = objects_are_built
