use Rattle.pm_elim.proofs.OlderRows.{FirstStay}
use Rattle.pm_elim.proofs.older.wide_older.Given as goal

abbrev pub invariant-loop-i : goal.invariant-loop-i
invariant-loop-i l = FirstStay l.rows l.new l.pivot l.i
