use Rattle.pm_fraction.proofs.primitive.primitive_row_at.Goals as goal
use Rattle.std.proofs.Common.{refl, rules}

pub returns-in-Err-Wide-clause-wide : goal.returns-in-Err-Wide-clause-wide
returns-in-Err-Wide-clause-wide c = (refl, search rules)
