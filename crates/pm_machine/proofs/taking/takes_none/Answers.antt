use Rattle.std.proofs.Common.{sym, ◌∙◌}
use Rattle.pm_machine.proofs.taking.takes_none.Goals as goal

pub returns-then-is_sealed_at-clause-open : goal.returns-then-is_sealed_at-clause-open
returns-then-is_sealed_at-clause-open c = tt

pub returns-clause-open : goal.returns-clause-open
returns-clause-open c = sym c.is_sealed_at.ensures ∙ c.if-is_sealed_at.false
