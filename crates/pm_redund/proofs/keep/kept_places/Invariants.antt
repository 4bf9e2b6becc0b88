use Rattle.pm_incidence.proofs.Appended.{AreBelow}
use Rattle.pm_redund.proofs.keep.kept_places.Given as goal
use Rattle.pm_redund.specs.Redundancy.{IsKeptRow}

abbrev pub invariant-loop-i : goal.invariant-loop-i
invariant-loop-i l = AreBelow (IsKeptRow l.line_marks l.marks) l.i l.places.items
