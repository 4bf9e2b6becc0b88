use Rattle.pm_cert.proofs.Closed.{FirstGoOn}
use Rattle.pm_cert.proofs.is_closed.Given as goal

abbrev pub invariant-loop-i : goal.invariant-loop-i
invariant-loop-i l = FirstGoOn l.rules l.names l.barred l.needed l.rows l.c l.i
