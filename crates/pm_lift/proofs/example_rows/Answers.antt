use Rattle.pm_lift.proofs.SmallRows.{places_are_read, refusals_are_read, rows_are_read}
use Rattle.pm_lift.proofs.example_rows.Goals as goal

pub returns : goal.returns
returns c = record { rows = rows_are_read; places = places_are_read; refusals = refusals_are_read }
