use Rattle.pm_printed.proofs.Verdicts.{proved_plans_are_least}
use Rattle.pm_printed.proofs.laws.law_proved_plans_are_least.Goals as goal

pub returns : goal.returns
returns c = proved_plans_are_least
