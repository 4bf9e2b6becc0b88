use Rattle.pm_programs.proofs.Tableaux.{tableau_is_unique}
use Rattle.pm_programs.proofs.law_tableau_is_unique.Goals as goal

pub returns : goal.returns
returns c = tableau_is_unique
