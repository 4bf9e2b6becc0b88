-- The places that are left follow those found.
use Rattle.pm_beneath.proofs.taken.add_places.Given as goal
use Rattle.pm_laws_placing.specs.Placing.{places_marked}
use Rattle.std.proofs.Common.{drop, ◌++◌, ◌≡◌}

abbrev pub invariant-loop-i : goal.invariant-loop-i
invariant-loop-i l = l.made.items ++ places_marked l.mark (drop l.i l.marks) l.i ≡ l.fn.others.items ++ places_marked l.mark l.marks 0
