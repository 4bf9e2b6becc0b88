use Rattle.pm_wide_programs.proofs.Examples.{slacks_are_read}
use Rattle.pm_wide_programs.proofs.example_slacks.Goals as goal

pub returns : goal.returns
returns c = slacks_are_read
