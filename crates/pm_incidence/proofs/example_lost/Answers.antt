use Rattle.pm_incidence.proofs.LostExamples.{lost_sets_are_read, lost_thinning_is_read}
use Rattle.pm_incidence.proofs.example_lost.Goals as goal

pub returns : goal.returns
returns c = record { thinning = lost_thinning_is_read; sets = lost_sets_are_read }
