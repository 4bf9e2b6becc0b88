use Rattle.pm_simplex.proofs.linear.maximise_by_dictionaries.Given as goal
use Rattle.pm_simplex.specs.Answers.{program_of}

abbrev pub ghost-by_dictionaries : goal.ghost-by_dictionaries
ghost-by_dictionaries a = program_of a.y a.a.now a.b.now a.c.now
