use Rattle.pm_laws_fitting.proofs.Objects.{one_bound_does}
use Rattle.pm_laws_fitting.proofs.law_one_bound_does.Goals as goal

pub returns : goal.returns
returns c = one_bound_does
