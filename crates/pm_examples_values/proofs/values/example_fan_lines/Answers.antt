use Rattle.pm_examples_values.proofs.ConeExamples.{fan_lines_are_read}
use Rattle.pm_examples_values.proofs.values.example_fan_lines.Goals as goal

pub returns : goal.returns
returns c = fan_lines_are_read
