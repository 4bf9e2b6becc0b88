use Rattle.pm_files.proofs.Examples.{matrices}
use Rattle.pm_files.proofs.example_matrices.Goals as goal

pub returns : goal.returns
returns c = matrices
