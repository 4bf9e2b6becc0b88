use Rattle.std.proofs.Common.{◌-◌, length}
use Rattle.pm_weights.specs.Weights.{no_cost}
use Rattle.pm_plan.specs.Searches.{IsExplored}
use Rattle.pm_plan.proofs.search.explore.Given as goal
use Rattle.std.specs.Prelude.{◌+◌}
use Rattle.pm_limits.specs.Limits.{most_table_rows}

abbrev pub invariant-settle : goal.invariant-settle
invariant-settle l = IsExplored l.moves (record { set = l.fn.held; cost = no_cost }) l.asked l.search

abbrev pub decreases-settle : goal.decreases-settle
decreases-settle l = (most_table_rows + 1) - length l.search.rows.items
