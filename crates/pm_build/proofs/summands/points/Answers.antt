use Rattle.pm_build.proofs.PointLaws.{points_bound, points_primitive}
use Rattle.pm_build.proofs.summands.points.Goals as goal
use Rattle.pm_types.proofs.PrimitiveRows.{no_wide_row}
use Rattle.std.proofs.Common.{ap}

pub to_primitive_rows-requires : goal.to_primitive_rows-requires
to_primitive_rows-requires c = points_bound c.args.matrix.now.rows c.in_ok-rows.rows.rows (ap (λ m. m.rows) c.in_ok-rows.ensures) c.requires.few

pub unreachable-requires : goal.unreachable-requires
unreachable-requires c =
    let k = c.in-Err-Wide in
    no_wide_row c.in_ok-rows.rows.rows k.field-0-0 k.field-0-1 k.field-0-2 (points_primitive c.args.matrix.now.rows c.in_ok-rows.rows.rows (ap (λ m. m.rows) c.in_ok-rows.ensures) c.requires.stay) (rw k.field-0-is at k.ensures.wide)
