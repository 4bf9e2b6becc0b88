use Rattle.pm_examples_values.proofs.MayAnswers.{runs_are_judged}
use Rattle.pm_examples_values.proofs.runs.example_sound_runs.Goals as goal

pub returns : goal.returns
returns c = runs_are_judged
