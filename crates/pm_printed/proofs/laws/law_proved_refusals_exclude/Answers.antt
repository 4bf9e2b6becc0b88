use Rattle.pm_printed.proofs.Verdicts.{proved_refusals_exclude}
use Rattle.pm_printed.proofs.laws.law_proved_refusals_exclude.Goals as goal

pub returns : goal.returns
returns c = proved_refusals_exclude
