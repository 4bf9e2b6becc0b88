use Rattle.pm_simplex.proofs.program.first_phase.Given as goal

abbrev pub ghost-begin : goal.ghost-begin
ghost-begin g a = g.system

abbrev pub ghost-improve : goal.ghost-improve
ghost-improve g a = g.system
