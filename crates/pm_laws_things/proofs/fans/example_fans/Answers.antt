use Rattle.pm_laws_things.proofs.FanExamples.{fans_are_read}
use Rattle.pm_laws_things.proofs.fans.example_fans.Goals as goal

pub returns : goal.returns
returns c = fans_are_read
