use Rattle.pm_dd.specs.Fronts.{both_signs}
use Rattle.pm_dd.proofs.HullLaws.{double_list_made}
use Rattle.pm_dd.proofs.parts.double_list.Goals as goal
use Rattle.std.proofs.Common.{◌++◌, ◌≡◌}

pub returns-clause-list : goal.returns-clause-list
returns-clause-list c =
    let list : c.in_ok-add_copies.field-0.items ≡ both_signs c.basis.inside.rows.items ++ c.args.second.now = rw (c.in_ok-signs.ensures, c.deref.ensures.value) at c.in_ok-add_copies.ensures in
    double_list_made c.args.cols c.args.first.now c.args.second.now c.basis.inside.rows.items c.in_ok-add_copies.field-0.items c.basis.inside.pivots.items (rw (← c.basis.view_is) at c.in_ok-basis.ensures.basis) list
