use Rattle.pm_laws_complete.proofs.Settled.{formed_are_own}
use Rattle.pm_laws_complete.proofs.law_formed_are_own.Goals as goal

pub returns : goal.returns
returns c = formed_are_own
