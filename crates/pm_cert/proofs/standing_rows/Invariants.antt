-- From the standing rows the rules so far lead on, and the next row does not stand.
use Rattle.pm_cert.proofs.Standing.{StandsSoFar}
use Rattle.pm_cert.proofs.standing_rows.Given as goal

abbrev pub invariant-loop-k : goal.invariant-loop-k
invariant-loop-k l = StandsSoFar l.rules l.names l.barred l.fn.asked l.needed l.rows l.c l.k l.standing
