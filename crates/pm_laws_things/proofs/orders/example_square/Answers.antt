use Rattle.pm_laws_things.proofs.SquareExamples.{square_graphs_read}
use Rattle.pm_laws_things.proofs.orders.example_square.Goals as goal

pub returns : goal.returns
returns c = square_graphs_read
