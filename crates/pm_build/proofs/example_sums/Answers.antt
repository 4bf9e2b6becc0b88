use Rattle.pm_build.proofs.SumExamples.{sums_are_read}
use Rattle.pm_build.proofs.example_sums.Goals as goal

pub returns : goal.returns
returns c = sums_are_read
