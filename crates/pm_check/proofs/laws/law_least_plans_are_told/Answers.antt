use Rattle.pm_check.proofs.Proved.{least_plans_are_told}
use Rattle.pm_check.proofs.laws.law_least_plans_are_told.Goals as goal

pub returns : goal.returns
returns c = least_plans_are_told
