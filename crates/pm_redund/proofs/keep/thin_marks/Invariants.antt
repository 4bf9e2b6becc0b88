use Rattle.pm_redund.proofs.keep.thin_marks.Given as goal
use Rattle.pm_redund.specs.Redundancy.{IsThinnedTo}

abbrev pub invariant-loop-i : goal.invariant-loop-i
invariant-loop-i l = IsThinnedTo l.rows l.lines l.line_marks l.i l.marks.items
