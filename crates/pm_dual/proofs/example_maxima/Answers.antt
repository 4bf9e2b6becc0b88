use Rattle.pm_dual.proofs.Examples.{maxima_read}
use Rattle.pm_dual.proofs.example_maxima.Goals as goal

pub returns : goal.returns
returns c = maxima_read
