use Rattle.pm_laws_normal_fans.proofs.ExampleShadows.{shadows_are_read}
use Rattle.pm_laws_normal_fans.proofs.example_shadows.Goals as goal

pub returns : goal.returns
returns c = shadows_are_read
