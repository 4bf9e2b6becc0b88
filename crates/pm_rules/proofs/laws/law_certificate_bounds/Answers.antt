use Rattle.pm_rules.proofs.Refutes.{bounded}
use Rattle.pm_rules.proofs.laws.law_certificate_bounds.Goals as goal

pub returns : goal.returns
returns c = bounded
