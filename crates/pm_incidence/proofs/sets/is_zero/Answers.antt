use Rattle.std.proofs.Common.{rules}
use Rattle.pm_incidence.proofs.sets.is_zero.Goals as goal

pub returns : goal.returns
returns c = search rules
