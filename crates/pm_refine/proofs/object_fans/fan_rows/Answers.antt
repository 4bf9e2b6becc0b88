use Rattle.pm_object.specs.Known.{cols_at, held_rows, held_sets}
use Rattle.pm_props.specs.declared.property.PropId.TheVariants.{LinealitySpace, Vertices}
use Rattle.pm_refine.proofs.ObjectFans.{cones_are_formed, held_cols, held_few, places_below, small_fan}
use Rattle.pm_refine.proofs.ObjectRefinements.{count_is}
use Rattle.pm_refine.proofs.object_fans.fan_rows.Goals as goal
use Rattle.std.proofs.Common.{ap, length, ◌≡◌}

pub cones_of_rays-requires : goal.cones_of_rays-requires
cones_of_rays-requires c =
    let o = c.args.o.now.state in
    let s = c.sets_at.result.now in
    let count : s.cols ≡ length c.in_ok-rays.rays.items = count_is o s c.matrix_at.result.now.rows c.in_ok-rays.rays.items c.requires.rays (ap held_sets c.sets_at.ensures.value) (ap held_rows c.matrix_at.ensures.value) c.in_ok-rays.ensures in
    rw (c.rows.ensures, c.deref.ensures.value) (places_below s.cols (length c.in_ok-rays.rays.items) s.rows count (cones_are_formed o.of (cols_at o) s.rows s.cols c.sets_at.ensures.forms))

pub returns-clause-small : goal.returns-clause-small
returns-clause-small c =
    let o = c.args.o.now.state in
    let s = c.sets_at.result.now in
    let V = c.in_ok-rays.rays.items in
    let L = c.in_ok-lines.lines.items in
    let rays = c.matrix_at.result.now in
    let lines = c.matrix_at-2.result.now in
    let count : s.cols ≡ length V = count_is o s rays.rows V c.requires.rays (ap held_sets c.sets_at.ensures.value) (ap held_rows c.matrix_at.ensures.value) c.in_ok-rays.ensures in
    rw (c.in_ok-cones.ensures, c.deref.ensures.value, c.rows.ensures) (small_fan (cols_at o) s.cols V L s.rows
    (held_cols o.of (cols_at o) Vertices rays.cols rays.rows V tt c.matrix_at.ensures.forms c.in_ok-rays.ensures)
    (held_cols o.of (cols_at o) LinealitySpace lines.cols lines.rows L tt c.matrix_at-2.ensures.forms c.in_ok-lines.ensures)
    (held_few o.of (cols_at o) LinealitySpace lines.cols lines.rows L tt c.matrix_at-2.ensures.forms c.in_ok-lines.ensures)
    count (cones_are_formed o.of (cols_at o) s.rows s.cols c.sets_at.ensures.forms))
