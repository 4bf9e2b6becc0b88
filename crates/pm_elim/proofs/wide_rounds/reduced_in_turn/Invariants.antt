use Rattle.pm_elim.proofs.SoFar.{ReducedSoFar}
use Rattle.pm_elim.proofs.wide_rounds.reduced_in_turn.Given as goal

abbrev pub invariant-loop-i : goal.invariant-loop-i
invariant-loop-i l = ReducedSoFar l.rows l.pivots l.row l.i l.rest
