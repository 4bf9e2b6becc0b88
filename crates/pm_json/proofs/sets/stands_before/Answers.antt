use Rattle.std.proofs.Common.{refl}
use Rattle.pm_json.proofs.sets.stands_before.Goals as goal

pub returns : goal.returns
returns c = refl
