use Rattle.pm_refine.proofs.object_fans.primitive_rows.Goals as goal
use Rattle.pm_types.proofs.PrimitiveRows.{no_wide_row}

pub unreachable-requires : goal.unreachable-requires
unreachable-requires c =
    let k = c.in-Err-Wide in no_wide_row c.args.matrix.now.rows k.field-0-0 k.field-0-1 k.field-0-2 c.requires.stay (rw k.field-0-is at k.ensures.wide)
