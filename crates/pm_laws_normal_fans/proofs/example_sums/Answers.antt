use Rattle.pm_laws_normal_fans.proofs.ExampleSums.{sums_are_read}
use Rattle.pm_laws_normal_fans.proofs.example_sums.Goals as goal

pub returns : goal.returns
returns c = sums_are_read
