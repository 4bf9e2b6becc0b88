use Rattle.pm_laws_things.proofs.ExistenceExamples.{existence_read}
use Rattle.pm_laws_things.proofs.building.example_existence.Goals as goal

pub returns : goal.returns
returns c = existence_read
