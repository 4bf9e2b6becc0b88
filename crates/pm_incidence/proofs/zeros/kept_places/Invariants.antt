use Rattle.pm_incidence.proofs.Appended.{AreBelow}
use Rattle.pm_incidence.proofs.zeros.kept_places.Given as goal
use Rattle.pm_incidence.specs.Thinning.{IsKeptSet}

abbrev pub invariant-loop-i : goal.invariant-loop-i
invariant-loop-i l = AreBelow (IsKeptSet l.zeros.rows l.marks) l.i l.places.items
