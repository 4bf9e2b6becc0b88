use Rattle.pm_check.proofs.Proved.{refusals_are_told}
use Rattle.pm_check.proofs.laws.law_refusals_are_told.Goals as goal

pub returns : goal.returns
returns c = refusals_are_told
