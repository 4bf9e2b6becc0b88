use Rattle.pm_optima.proofs.Places.{PlacesSoFar}
use Rattle.pm_optima.proofs.face.zero_places.Given as goal

abbrev pub invariant-loop-i : goal.invariant-loop-i
invariant-loop-i l = PlacesSoFar l.row l.rows l.i l.places.items
