use Rattle.pm_laws_things.proofs.FanExamples.{refinements_of_fans_are_read}
use Rattle.pm_laws_things.proofs.fans.example_refinements.Goals as goal

pub returns : goal.returns
returns c = refinements_of_fans_are_read
