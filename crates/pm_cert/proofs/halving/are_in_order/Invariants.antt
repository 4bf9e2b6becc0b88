use Rattle.std.specs.List.{AllAdjacentBelow}
use Rattle.pm_rules.specs.Certificates.{IsTableRowBefore}
use Rattle.pm_cert.proofs.halving.are_in_order.Given as goal

abbrev pub invariant-loop-i : goal.invariant-loop-i
invariant-loop-i l = AllAdjacentBelow IsTableRowBefore l.rows l.i
