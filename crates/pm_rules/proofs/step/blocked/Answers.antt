use Rattle.std.proofs.Common.{refl}
use Rattle.pm_rules.specs.Steps.{blocked}
use Rattle.pm_rules.proofs.step.blocked.Goals as goal

pub returns : goal.returns
unfolding blocked
returns c = rw (c.among.ensures, c.is_fresh.ensures, c.is_fresh-2.ensures, c.is_fresh-3.ensures, c.is_fresh-4.ensures, c.every.ensures) refl
