use Rattle.pm_beneath.proofs.placed.list_fronts.Goals as goal

pub all_fronts-requires-clause-columns : goal.all_fronts-requires-clause-columns
all_fronts-requires-clause-columns c = rw c.deref.ensures.value c.requires.columns

pub all_fronts-requires-clause-arranged : goal.all_fronts-requires-clause-arranged
all_fronts-requires-clause-arranged c = rw (c.deref.ensures.value, c.deref-2.ensures.value, c.deref-3.ensures.value) c.requires.arranged

pub returns-clause-generators : goal.returns-clause-generators
returns-clause-generators c = rw c.deref.ensures.value at c.all_fronts.ensures.generators

pub returns-clause-run : goal.returns-clause-run
returns-clause-run c = rw (c.deref-2.ensures.value, c.deref-3.ensures.value) at c.all_fronts.ensures.run

pub returns-clause-ascending : goal.returns-clause-ascending
returns-clause-ascending c = rw c.deref-3.ensures.value at c.all_fronts.ensures.ascending

pub returns-clause-fail : goal.returns-clause-fail
returns-clause-fail c = rw (c.deref.ensures.value, c.deref-2.ensures.value, c.deref-3.ensures.value) at c.all_fronts.ensures.fail
