use Rattle.pm_elim.proofs.older.reduce_older.Goals as goal

pub reduce_each-requires-clause-stays : goal.reduce_each-requires-clause-stays
reduce_each-requires-clause-stays c = rw c.deref_mut.ensures.value c.requires.stays
