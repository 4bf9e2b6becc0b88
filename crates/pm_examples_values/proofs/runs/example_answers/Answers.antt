use Rattle.pm_examples_values.proofs.MayAnswers.{answers_are_judged}
use Rattle.pm_examples_values.proofs.runs.example_answers.Goals as goal

pub returns : goal.returns
returns c = answers_are_judged
