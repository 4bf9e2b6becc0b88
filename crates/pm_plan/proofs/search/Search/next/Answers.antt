use Rattle.std.proofs.Common.{refl}
use Rattle.pm_rules.specs.declared.table.TableRow.{TableRow}
use Rattle.pm_plan.specs.Searches.{place_of}
use Rattle.pm_plan.proofs.Order.{not_above}
use Rattle.pm_plan.proofs.Reaching.{goal_later}
use Rattle.pm_plan.proofs.search.Search.next.Goals as goal

pub returns-then-has_goal-clause-none : goal.returns-then-has_goal-clause-none
returns-then-has_goal-clause-none c = λ row waits.
    let first : TableRow = record { set = c.in_ok-place.place.now.set; cost = c.in_ok-place.place.now.cost } in
    goal_later c.args.self.now first row (c.if-has_goal.ensures.0 refl) (not_above first row (c.in_ok-place.ensures.least (place_of row) waits))

pub returns-else-has_goal-clause-next : goal.returns-else-has_goal-clause-next
returns-else-has_goal-clause-next c = record {
  waits = c.in_ok-place.ensures.value;
  first = λ other waits.
      not_above (record { set = c.in_ok-place.place.now.set; cost = c.in_ok-place.place.now.cost }) other (c.in_ok-place.ensures.least (place_of other) waits);
}
