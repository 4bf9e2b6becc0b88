use Rattle.pm_laws_things.proofs.NormalRows.{normal_described}
use Rattle.pm_laws_things.proofs.fans.law_normal_fan_is_described.Goals as goal

pub returns : goal.returns
returns c = normal_described
