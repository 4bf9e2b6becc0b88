use Rattle.pm_elim.proofs.reduction.reduced_copy.Goals as goal

pub returns-in-Ok-clause-stays : goal.returns-in-Ok-clause-stays
returns-in-Ok-clause-stays c = rw c.in_ok-rest.ensures at c.in-Ok.ensures.stays
