use Rattle.pm_json.proofs.Examples.{matrices}
use Rattle.pm_json.proofs.example_matrices.Goals as goal

pub returns : goal.returns
returns c = matrices
