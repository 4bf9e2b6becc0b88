-- The places so far.
use Rattle.pm_clients_counts.proofs.ZeroPlaces.{PlacesSoFar}
use Rattle.pm_clients_counts.proofs.firsts.zero_places.Given as goal

abbrev pub invariant-loop-i : goal.invariant-loop-i
invariant-loop-i l = PlacesSoFar l.matrix.rows l.i l.places.items
