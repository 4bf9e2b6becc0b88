use Rattle.pm_check.proofs.RunExamples.{runs_end}
use Rattle.pm_check.proofs.examples.example_runs.Goals as goal

pub returns : goal.returns
returns c = runs_end
