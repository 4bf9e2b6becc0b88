use Rattle.pm_check.proofs.VerdictExamples.{verdicts_of_books}
use Rattle.pm_check.proofs.examples.example_verdicts.Goals as goal

pub returns : goal.returns
returns c = verdicts_of_books
