-- The fractions so far are the entries so far over 1.
use Rattle.pm_types.proofs.fractions.over_one.Given as goal
use Rattle.pm_types.specs.Views.{ratios}
use Rattle.std.proofs.Common.{take, ◌≡◌}

abbrev pub invariant-loop-x : goal.invariant-loop-x
invariant-loop-x l = l.fractions.items ≡ ratios (take l.x-index l.entries)
