use Rattle.pm_simplex.proofs.program.from_start.Given as goal

abbrev pub ghost-absorb : goal.ghost-absorb
ghost-absorb g a = g.program.system

abbrev pub ghost-after_equations : goal.ghost-after_equations
ghost-after_equations g a = g.program
