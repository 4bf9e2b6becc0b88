use Rattle.pm_lift.proofs.SmallCells.{cells_are_read, lower_faces_are_read, sites_are_read}
use Rattle.pm_lift.proofs.example_cells.Goals as goal

pub returns : goal.returns
returns c = record { sites = sites_are_read; lower_faces = lower_faces_are_read; cells = cells_are_read }
