use Rattle.pm_laws_things.proofs.BuildingExamples.{shapes}
use Rattle.pm_laws_things.proofs.building.example_shapes.Goals as goal

pub returns : goal.returns
returns c = shapes
