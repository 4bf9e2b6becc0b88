use Rattle.pm_run.proofs.Worked.{books_are_chosen, lines_are_read, lines_are_refused}
use Rattle.pm_run.proofs.examples.example_runs.Goals as goal

pub returns : goal.returns
returns c = record { lines = lines_are_read; refusals = lines_are_refused; books = books_are_chosen }
