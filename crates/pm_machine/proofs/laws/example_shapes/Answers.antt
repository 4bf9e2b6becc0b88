use Rattle.pm_machine.proofs.BuildingExamples.{shapes_are_made}
use Rattle.pm_machine.proofs.laws.example_shapes.Goals as goal

pub returns : goal.returns
returns c = shapes_are_made
