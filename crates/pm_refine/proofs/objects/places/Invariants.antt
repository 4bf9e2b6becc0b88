-- The places so far.
use Rattle.pm_refine.proofs.objects.places.Given as goal
use Rattle.std.proofs.Common.{take, ◌≡◌}

abbrev pub invariant-loop-j : goal.invariant-loop-j
invariant-loop-j l = l.made.items ≡ take l.j-index l.set
