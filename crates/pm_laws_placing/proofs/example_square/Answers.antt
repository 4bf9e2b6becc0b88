use Rattle.pm_laws_placing.proofs.Examples.{square_is_triangulated}
use Rattle.pm_laws_placing.proofs.example_square.Goals as goal

pub returns : goal.returns
returns c = square_is_triangulated
