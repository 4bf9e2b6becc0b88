use Rattle.pm_laws_things.proofs.SumDescribed.{sum_described}
use Rattle.pm_laws_things.proofs.building.law_sum_is_described.Goals as goal

pub returns : goal.returns
returns c = sum_described
