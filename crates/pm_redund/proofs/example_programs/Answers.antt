use Rattle.pm_redund.proofs.SmallRows.{programs_are_read}
use Rattle.pm_redund.proofs.example_programs.Goals as goal

pub returns : goal.returns
returns c = programs_are_read
