use Rattle.pm_laws_things.proofs.BuildingExamples.{minkowski_sums}
use Rattle.pm_laws_things.proofs.building.example_sums.Goals as goal

pub returns : goal.returns
returns c = minkowski_sums
