use Rattle.pm_redund.proofs.levels.products_of.Given as goal
use Rattle.pm_redund.specs.Keeping.{products}
use Rattle.std.proofs.Common.{take, ◌≡◌}

abbrev pub invariant-loop-other : goal.invariant-loop-other
invariant-loop-other l = l.made.items ≡ products l.row (take l.other-index l.rows)
