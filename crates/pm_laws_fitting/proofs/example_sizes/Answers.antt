use Rattle.pm_laws_fitting.proofs.Examples.{sizes_are_read}
use Rattle.pm_laws_fitting.proofs.example_sizes.Goals as goal

pub returns : goal.returns
returns c = sizes_are_read
