use Rattle.pm_laws_replies.proofs.Runs.{runs_told_apart}
use Rattle.pm_laws_replies.proofs.law_runs_are_told_apart.Goals as goal

pub returns : goal.returns
returns c = runs_told_apart
