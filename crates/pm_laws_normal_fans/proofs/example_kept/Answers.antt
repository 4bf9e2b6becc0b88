use Rattle.pm_laws_normal_fans.proofs.ExampleKept.{kept_are_read}
use Rattle.pm_laws_normal_fans.proofs.example_kept.Goals as goal

pub returns : goal.returns
returns c = kept_are_read
