use Rattle.pm_wide_programs.proofs.Places.{PlacesSoFar}
use Rattle.pm_wide_programs.proofs.face.level_places.Given as goal

abbrev pub invariant-loop-i : goal.invariant-loop-i
invariant-loop-i l = PlacesSoFar l.objective.times l.objective.row l.value l.rays l.i l.places.items
