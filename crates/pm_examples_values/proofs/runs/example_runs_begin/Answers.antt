use Rattle.pm_examples_values.proofs.SoundRuns.{runs_may_begin}
use Rattle.pm_examples_values.proofs.runs.example_runs_begin.Goals as goal

pub returns : goal.returns
returns c = runs_may_begin
