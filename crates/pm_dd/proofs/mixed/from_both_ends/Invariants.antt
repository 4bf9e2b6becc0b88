use Rattle.pm_dd.proofs.MixedLaws.{IsFromEnds}
use Rattle.pm_dd.proofs.mixed.from_both_ends.Given as goal

abbrev pub invariant-loop-i : goal.invariant-loop-i
invariant-loop-i l = IsFromEnds l.rows l.i l.made.items
