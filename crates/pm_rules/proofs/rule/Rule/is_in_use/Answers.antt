use Rattle.pm_rules.proofs.Opens.{in_use_exactly}
use Rattle.pm_rules.proofs.rule.Rule.is_in_use.Goals as goal

pub returns-then-is_subset : goal.returns-then-is_subset
returns-then-is_subset c =
    in_use_exactly c.args.names c.args.self.now c.is_fresh_with_programs.result ((rw c.names.ensures at c.is_subset.ensures.subset).0 c.if-is_subset.true) c.is_fresh_with_programs.ensures
