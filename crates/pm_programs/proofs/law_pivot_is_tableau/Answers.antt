use Rattle.pm_programs.proofs.Tableaux.{pivot_is_tableau}
use Rattle.pm_programs.proofs.law_pivot_is_tableau.Goals as goal

pub returns : goal.returns
returns c = pivot_is_tableau
