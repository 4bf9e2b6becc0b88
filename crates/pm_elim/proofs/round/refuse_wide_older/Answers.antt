use Rattle.pm_elim.proofs.round.refuse_wide_older.Goals as goal

pub returns-in_default-clause-stays : goal.returns-in_default-clause-stays
returns-in_default-clause-stays c = rw c.deref.ensures.value at c.in_default.ensures.stays
