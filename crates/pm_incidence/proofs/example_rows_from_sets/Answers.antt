use Rattle.pm_incidence.proofs.SetExamples.{rows_from_sets_are_read}
use Rattle.pm_incidence.proofs.example_rows_from_sets.Goals as goal

pub returns : goal.returns
returns c = rows_from_sets_are_read
