use Rattle.pm_client.proofs.CellExamples.{cells_are_read}
use Rattle.pm_client.proofs.example_cells.Goals as goal

pub returns : goal.returns
returns c = cells_are_read
