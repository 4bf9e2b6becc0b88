use Rattle.pm_redund.proofs.chosen.marked_before.Given as goal
use Rattle.std.proofs.Common.{take, ◌≡◌, ◌≤◌}
use Rattle.std.specs.List.{count_by}

abbrev pub invariant-loop-j : goal.invariant-loop-j
invariant-loop-j l = (l.count ≡ count_by (λ b. b) (take l.j l.marks)) × (l.count ≤ l.j)
