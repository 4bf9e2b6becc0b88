use Rattle.pm_rules.proofs.Opens.{open_exactly}
use Rattle.pm_rules.proofs.step.Step.is_open.Goals as goal

pub returns-then-is_ready : goal.returns-then-is_ready
returns-then-is_ready c = open_exactly c.args.self c.args.held c.is_subset.result (c.is_ready.ensures.0 c.if-is_ready.true) c.is_subset.ensures.subset
