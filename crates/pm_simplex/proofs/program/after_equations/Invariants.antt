use Rattle.pm_simplex.proofs.program.after_equations.Given as goal

abbrev pub ghost-first_phase : goal.ghost-first_phase
ghost-first_phase g a = g.program.system

abbrev pub ghost-second_phase : goal.ghost-second_phase
ghost-second_phase g a = g.program
