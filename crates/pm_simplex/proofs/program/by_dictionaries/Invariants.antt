use Rattle.pm_simplex.proofs.program.by_dictionaries.Given as goal

abbrev pub ghost-from_start : goal.ghost-from_start
ghost-from_start g a = g.program
