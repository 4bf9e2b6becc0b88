use Rattle.std.proofs.Common.{ap, not}
use Rattle.pm_rules.proofs.NeededNames.{finds_exactly}
use Rattle.pm_rules.proofs.rule.Rule.finds_one.Goals as goal

pub returns-then-not-is_empty : goal.returns-then-not-is_empty
returns-then-not-is_empty c = (
  (λ h.
      let used = c.may_be_used.ensures.0 h in
      (finds_exactly c.args.names c.args.barred.now c.args.of c.args.id c.args.self.now c.intersection.result c.is_empty.result used.0 used.1
      c.intersection.ensures.members c.is_empty.ensures.none).0 (ap (λ b. not b) c.if-not-is_empty.true)),
  (λ f. c.may_be_used.ensures.1 (f.in_use, f.allowed)),
)
