use Rattle.pm_wide_programs.proofs.Examples.{shown_are_read}
use Rattle.pm_wide_programs.proofs.example_shown.Goals as goal

pub returns : goal.returns
returns c = shown_are_read
