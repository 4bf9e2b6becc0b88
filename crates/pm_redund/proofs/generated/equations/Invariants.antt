use Rattle.pm_redund.proofs.generated.equations.Given as goal
use Rattle.pm_simplex.specs.Generated.{lifted}
use Rattle.std.proofs.Common.{take, ◌≡◌}

abbrev pub invariant-loop-line : goal.invariant-loop-line
invariant-loop-line l = l.made.items ≡ lifted (take l.line-index l.lines)
