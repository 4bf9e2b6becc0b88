use Rattle.pm_ranks.proofs.Square.{square_has_graphs}
use Rattle.pm_ranks.proofs.example_square_graphs.Goals as goal

pub returns : goal.returns
returns c = square_has_graphs
