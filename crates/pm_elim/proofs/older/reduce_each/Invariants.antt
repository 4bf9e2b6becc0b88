use Rattle.pm_elim.proofs.OlderRows.{FirstReduced}
use Rattle.pm_elim.proofs.older.reduce_each.Given as goal

abbrev pub invariant-loop-place : goal.invariant-loop-place
invariant-loop-place l = FirstReduced l.fn.rows l.new l.pivot l.place l.rows
