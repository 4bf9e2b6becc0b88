use Rattle.pm_redund.proofs.shot.is_alone.Given as goal
use Rattle.pm_redund.specs.Keeping.{IsMetAfter}
use Rattle.std.proofs.Common.{ℕ, ◌<◌, ◌≡◌}

abbrev pub invariant-loop-j : goal.invariant-loop-j
invariant-loop-j l = (m : ℕ) → m < l.j → ¬ (m ≡ l.k) → IsMetAfter l.levels l.heights l.k m
