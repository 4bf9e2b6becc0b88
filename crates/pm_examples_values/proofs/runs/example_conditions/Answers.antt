use Rattle.pm_examples_values.proofs.Conditions.{conditions_are_met}
use Rattle.pm_examples_values.proofs.runs.example_conditions.Goals as goal

pub returns : goal.returns
returns c = conditions_are_met
