use Rattle.pm_examples_values.proofs.CanonicalExamples.{kinds_are_fresh}
use Rattle.pm_examples_values.proofs.values.example_fresh_kinds.Goals as goal

pub returns : goal.returns
returns c = kinds_are_fresh
