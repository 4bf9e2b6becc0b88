use Rattle.pm_laws_placing.proofs.PlacedSquare.{square_is_placed}
use Rattle.pm_laws_placing.proofs.example_placing.Goals as goal

pub returns : goal.returns
returns c = square_is_placed
