use Rattle.pm_files.proofs.Plain.{value_depth}
use Rattle.pm_files.proofs.law_values_are_shallow.Goals as goal

pub returns : goal.returns
returns c = value_depth
