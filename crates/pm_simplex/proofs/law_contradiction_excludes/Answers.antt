use Rattle.pm_simplex.proofs.Infeasible.{contradiction_excludes}
use Rattle.pm_simplex.proofs.law_contradiction_excludes.Goals as goal

pub returns : goal.returns
returns c = contradiction_excludes
