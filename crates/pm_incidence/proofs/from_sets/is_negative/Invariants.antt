-- so far each product is 0
use Rattle.pm_incidence.specs.SetRows.{first_product}
use Rattle.pm_incidence.proofs.from_sets.is_negative.Given as goal
use Rattle.std.proofs.Common.{drop, ◌≡◌}

abbrev pub invariant-loop-cut : goal.invariant-loop-cut
invariant-loop-cut l = first_product l.row l.cuts ≡ first_product l.row (drop l.cut-index l.cuts)
