use Rattle.pm_incidence.proofs.Examples.{short_rows_are_read}
use Rattle.pm_incidence.proofs.example_short_rows.Goals as goal

pub returns : goal.returns
returns c = short_rows_are_read
