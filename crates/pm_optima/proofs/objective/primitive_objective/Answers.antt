use Rattle.pm_optima.proofs.objective.primitive_objective.Goals as goal
use Rattle.pm_types.proofs.PrimitiveRows.{not_wide}

pub unreachable-requires : goal.unreachable-requires
unreachable-requires c = let k = c.in-Err-Wide in not_wide c.args.objective.now k.field-0-0 k.field-0-1 c.requires (rw k.field-0-is at k.ensures.wide)
