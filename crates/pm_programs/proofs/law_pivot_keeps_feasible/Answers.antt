use Rattle.pm_programs.proofs.Pivots.{pivot_keeps_feasible}
use Rattle.pm_programs.proofs.law_pivot_keeps_feasible.Goals as goal

pub returns : goal.returns
returns c = pivot_keeps_feasible
