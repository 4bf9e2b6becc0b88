use Rattle.pm_printed.proofs.Accepted.{printed_plans_are_accepted}
use Rattle.pm_printed.proofs.laws.law_printed_plans_are_accepted.Goals as goal

pub returns : goal.returns
returns c = printed_plans_are_accepted
