use Rattle.pm_laws_fitting.proofs.Parted.{parts_are_never_lost_by_count}
use Rattle.pm_laws_fitting.proofs.law_parts_are_never_lost_by_count.Goals as goal

pub returns : goal.returns
returns c = parts_are_never_lost_by_count
