use Rattle.pm_lift.proofs.LostExamples.{lost_cells_are_read, lost_rows_are_read}
use Rattle.pm_lift.proofs.example_lost.Goals as goal

pub returns-clause-rows : goal.returns-clause-rows
returns-clause-rows c = lost_rows_are_read

pub returns-clause-cells : goal.returns-clause-cells
returns-clause-cells c = lost_cells_are_read
