use Rattle.pm_vector.specs.NullSpaces.{IsNull}
use Rattle.pm_incidence.proofs.facets.is_null.Given as goal
use Rattle.std.proofs.Common.{take}

abbrev pub invariant-loop-row : goal.invariant-loop-row
invariant-loop-row l = IsNull (take l.row-index l.equations) l.ray
