use Rattle.std.proofs.Common.{ap}
use Rattle.std.specs.Prelude.{not}
use Rattle.pm_object.proofs.object.Object.lacks.Goals as goal

pub returns : goal.returns
returns c = ap not c.has.ensures
