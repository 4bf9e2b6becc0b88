use Rattle.pm_vector.proofs.RowLaws.{length-difference}
use Rattle.pm_redund.proofs.support.raised.Goals as goal
use Rattle.std.proofs.Common.{length, pos, refl}
use lib.IntN.{negsuc}

pub returns-in-Ok : goal.returns-in-Ok
returns-in-Ok c =
    rw c.in-Ok.ensures.value (length-difference (length c.args.row) (pos 1) c.args.row (negsuc 0) c.in-Some.held.row refl (rw c.in-Some.is at c.requires))
