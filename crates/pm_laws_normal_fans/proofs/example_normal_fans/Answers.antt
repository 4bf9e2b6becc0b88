use Rattle.pm_laws_normal_fans.proofs.ExampleNormalFans.{normal_fans_are_read}
use Rattle.pm_laws_normal_fans.proofs.example_normal_fans.Goals as goal

pub returns : goal.returns
returns c = normal_fans_are_read
