use Rattle.pm_files.proofs.Examples.{sets}
use Rattle.pm_files.proofs.example_sets.Goals as goal

pub returns : goal.returns
returns c = sets
