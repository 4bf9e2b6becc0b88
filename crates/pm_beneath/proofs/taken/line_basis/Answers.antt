use Rattle.pm_beneath.proofs.taken.line_basis.Goals as goal

pub returns-clause-basis : goal.returns-clause-basis
returns-clause-basis c = (c.basis.inside.pivots.items, rw (← c.basis.view_is) at c.in_ok-basis.ensures.basis)
