use Rattle.std.proofs.Common.{map, arith}
use Rattle.serde_json.specs.View.{items_view}
use Rattle.pm_json.proofs.SetLimits.{above_sets_fits}
use Rattle.pm_json.proofs.sets.read_sets.Goals as goal

pub overflow_cast-above : goal.overflow_cast-above
overflow_cast-above c =
    let fits = above_sets_fits (items_view c.in_ok-items.items.now) (record { rows = map (λ r. r.items) c.in_ok-list.list.rows.items; stated = c.in_ok-list.list.stated }) c.in_ok-list.ensures.ok in
    let is = rw c.deref.ensures.value at c.above_sets-above.ensures in
    omega arith
