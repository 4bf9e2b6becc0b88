use Rattle.pm_simplex.proofs.program.second_phase.Given as goal

abbrev pub ghost-improve : goal.ghost-improve
ghost-improve g a = g.program.system
