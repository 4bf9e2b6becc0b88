use Rattle.std.proofs.Common.{rules}
use Rattle.pm_incidence.proofs.sets.vanishes.Goals as goal

pub wide_rows-requires : goal.wide_rows-requires
wide_rows-requires c = search rules
