use Rattle.pm_printed.proofs.Accepted.{printed_refusals_are_accepted}
use Rattle.pm_printed.proofs.laws.law_printed_refusals_are_accepted.Goals as goal

pub returns : goal.returns
returns c = printed_refusals_are_accepted
