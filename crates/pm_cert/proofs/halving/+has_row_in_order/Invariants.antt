use Rattle.std.proofs.Common.{length}
use Rattle.pm_cert.proofs.halving.+has_row_in_order.Given as goal

abbrev pub decreases-has_row_in_order : goal.decreases-has_row_in_order
decreases-has_row_in_order l = length l.rows.now
