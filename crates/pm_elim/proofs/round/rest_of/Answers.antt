use Rattle.pm_elim.proofs.round.rest_of.Goals as goal

pub returns-clause-stays : goal.returns-clause-stays
returns-clause-stays c = rw (c.deref.ensures.value, c.deref-2.ensures.value) at c.reduced_copy.ensures.stays
