use Rattle.pm_clients_fans.proofs.FoundFans.{sets_parts}
use Rattle.pm_clients_fans.proofs.Shown.{are_places, dims_form, if_ok, on_ok}
use Rattle.pm_clients_fans.proofs.dims.dims_of.Goals as goal
use Rattle.pm_fan.specs.Dimensions.{AreDimensions}
use Rattle.pm_types.specs.Forms.{is_counts_form}
use Rattle.std.proofs.Common.{arith, length, ◌≡◌}
use Rattle.std.specs.Prelude.{IsTrue}

pub cone_dims-requires-clause-places : goal.cone_dims-requires-clause-places
cone_dims-requires-clause-places c =
    let s = c.args.cones.now in
    let p = sets_parts s.rows s.cols c.requires.form in
    let same : s.cols ≡ length c.args.rays.now = (let e = c.cols.ensures in let f = c.if-cols-rays.false in omega arith) in
    are_places c.args.rays.now c.args.lines.now s.cols s.rows same p.1 c.requires.few_lines p.2

pub returns-clause-form : goal.returns-clause-form
returns-clause-form c =
    let s = c.args.cones.now in
    let p = sets_parts s.rows s.cols c.requires.form in
    if_ok c.cone_dims.result (λ d. AreDimensions c.args.rays.now c.args.lines.now s.rows d.items) (λ d. IsTrue (is_counts_form d.items)) (λ d h. dims_form c.args.rays.now c.args.lines.now s.cols s.rows d.items p.1 c.requires.few_lines p.0 p.2 h) c.cone_dims.ensures.dims

pub returns-clause-stay : goal.returns-clause-stay
returns-clause-stay c = on_ok c.cone_dims.result (λ h narrow many. h narrow) c.cone_dims.ensures.never_wide
