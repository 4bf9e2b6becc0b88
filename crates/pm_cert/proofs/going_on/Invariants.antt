-- The rows so far lead on.
use Rattle.pm_cert.specs.Claims.{GoesOn, UpTo}
use Rattle.pm_cert.proofs.going_on.Given as goal

abbrev pub invariant-loop-i : goal.invariant-loop-i
invariant-loop-i l = UpTo l.i (GoesOn l.rows l.c l.step l.weight) l.rows
