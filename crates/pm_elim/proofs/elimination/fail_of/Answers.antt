use Rattle.pm_elim.proofs.elimination.fail_of.Goals as goal
use Rattle.std.proofs.Common.{refl}

pub returns-in-Wide : goal.returns-in-Wide
returns-in-Wide c = rw c.in-Wide.is (record { list_is = refl; front_is = refl; basis = refl; part = refl; by_is = refl; column_is = refl })
