use Rattle.pm_laws_complete.proofs.Settled.{settled_holds_alone}
use Rattle.pm_laws_complete.proofs.law_settled_holds_alone.Goals as goal

pub returns : goal.returns
returns c = settled_holds_alone
