use Rattle.std.proofs.Common.{ap}
use Rattle.pm_weights.specs.declared.Cost.{Cost}
use Rattle.pm_rules.specs.declared.table.TableRow.{TableRow}
use Rattle.pm_plan.proofs.search.start_of.Goals as goal

pub returns : goal.returns
returns c = ap (λ (cost : Cost). let row : TableRow = record { set = c.args.held; cost = cost } in row) c.none.ensures
