use Rattle.pm_rules.proofs.Opens.{ready_exactly}
use Rattle.pm_rules.proofs.step.Step.is_ready.Goals as goal

pub returns-then-is_subset : goal.returns-then-is_subset
returns-then-is_subset c =
    ready_exactly c.args.self.now c.args.held c.intersection.result c.is_empty.result (c.is_subset.ensures.subset.0 c.if-is_subset.true) c.intersection.ensures.members
    c.is_empty.ensures.none
