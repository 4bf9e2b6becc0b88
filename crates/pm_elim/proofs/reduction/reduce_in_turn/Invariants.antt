use Rattle.pm_elim.proofs.InTurn.{InTurn}
use Rattle.pm_elim.proofs.reduction.reduce_in_turn.Given as goal

abbrev pub invariant-loop-i : goal.invariant-loop-i
invariant-loop-i l = InTurn l.rows l.pivots l.fn.row l.i l.row
