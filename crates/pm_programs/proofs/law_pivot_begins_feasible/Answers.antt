use Rattle.pm_programs.proofs.Pivots.{pivot_begins_feasible}
use Rattle.pm_programs.proofs.law_pivot_begins_feasible.Goals as goal

pub returns : goal.returns
returns c = pivot_begins_feasible
