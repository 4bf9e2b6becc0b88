use Rattle.pm_laws_things.proofs.ExistingFanExamples.{fan_existence_read}
use Rattle.pm_laws_things.proofs.fans.example_fan_existence.Goals as goal

pub returns : goal.returns
returns c = fan_existence_read
