use Rattle.pm_laws_normal_fans.proofs.ExampleRefinements.{refinements_are_read}
use Rattle.pm_laws_normal_fans.proofs.example_refinements.Goals as goal

pub returns : goal.returns
returns c = refinements_are_read
