use Rattle.pm_dd.specs.Tables.{IsZeroSet}
use Rattle.pm_incidence.proofs.zeros.short_zero_row.Given as goal

abbrev pub invariant-loop-p : goal.invariant-loop-p
invariant-loop-p l = IsZeroSet l.cuts l.p l.row l.zeros
