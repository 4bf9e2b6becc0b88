use Rattle.pm_rules.proofs.Opens.{enabled_exactly}
use Rattle.pm_rules.proofs.rule.Rule.is_enabled.Goals as goal

pub returns-then-may_be_used : goal.returns-then-may_be_used
returns-then-may_be_used c =
    let used = c.may_be_used.ensures.0 c.if-may_be_used.true in
    enabled_exactly c.args.names c.args.barred.now c.args.held c.args.id c.args.self.now c.is_open.result used.0 used.1 (rw c.step.ensures at c.is_open.ensures)
