use Rattle.pm_wide_programs.proofs.Examples.{common_values_are_read}
use Rattle.pm_wide_programs.proofs.example_common_values.Goals as goal

pub returns : goal.returns
returns c = common_values_are_read
