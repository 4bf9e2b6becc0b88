use Rattle.pm_programs.proofs.Pivots.{pivot_raises}
use Rattle.pm_programs.proofs.law_pivot_raises.Goals as goal

pub returns : goal.returns
returns c = pivot_raises
