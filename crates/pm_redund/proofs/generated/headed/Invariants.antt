use Rattle.pm_redund.proofs.generated.headed.Given as goal
use Rattle.std.proofs.Common.{take, ◌∷◌, ◌≡◌}

abbrev pub invariant-loop-i : goal.invariant-loop-i
invariant-loop-i l = l.made ≡ l.first ∷ take l.i l.row
