use Rattle.pm_laws_fitting.proofs.Kept.{events_keep_fitting}
use Rattle.pm_laws_fitting.proofs.law_events_keep_fitting.Goals as goal

pub returns : goal.returns
returns c = events_keep_fitting
