use Rattle.pm_elim.proofs.SoFar.{OlderSoFar}
use Rattle.pm_elim.proofs.wide_rounds.reduced_older.Given as goal

abbrev pub invariant-loop-i : goal.invariant-loop-i
invariant-loop-i l = OlderSoFar l.rows l.new l.pivot l.i l.made.items
