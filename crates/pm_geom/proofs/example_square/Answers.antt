use Rattle.pm_geom.proofs.Square.{square_is_read}
use Rattle.pm_geom.proofs.example_square.Goals as goal

pub returns : goal.returns
returns c = square_is_read
