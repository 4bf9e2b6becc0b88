-- The sum is that of the products so far.
use Rattle.pm_vector.specs.Rows.{dot}
use Rattle.pm_incidence.proofs.short.short_dot.Given as goal
use Rattle.std.proofs.Common.{take, ◌≡◌}

abbrev pub invariant-loop-i : goal.invariant-loop-i
invariant-loop-i l = l.sum ≡ dot (take l.i l.a) (take l.i l.b)
