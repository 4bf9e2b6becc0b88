use Rattle.pm_laws_things.proofs.BuildingExamples.{others}
use Rattle.pm_laws_things.proofs.building.example_others.Goals as goal

pub returns : goal.returns
returns c = others
