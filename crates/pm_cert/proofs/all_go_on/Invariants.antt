-- The rows so far lead on.
use Rattle.std.specs.List.{AllWithin}
use Rattle.pm_cert.specs.Claims.{GoesOn}
use Rattle.pm_cert.proofs.all_go_on.Given as goal

abbrev pub invariant-loop-row : goal.invariant-loop-row
invariant-loop-row l = AllWithin (GoesOn l.rows l.c l.step l.weight) l.rows 0 l.row-index
