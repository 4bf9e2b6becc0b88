use Rattle.pm_beneath.proofs.taken.rows_of.Given as goal
use Rattle.pm_geom.specs.Triangulations.{rows_at}
use Rattle.std.proofs.Common.{take, ◌≡◌}

abbrev pub invariant-loop-place : goal.invariant-loop-place
invariant-loop-place l = l.made.items ≡ rows_at l.rays (take l.place-index l.places)
