use Rattle.pm_simplex.proofs.ProgramRows.{has_dual, shows_program}
use Rattle.pm_simplex.proofs.linear.maximise_by_dictionaries.Goals as goal
use Rattle.std.proofs.Common.{refl}

pub returns-clause-wide : goal.returns-clause-wide
returns-clause-wide c = shows_program _ c.args.inequalities.now c.args.equations.now c.args.objective.now refl refl refl c.by_dictionaries.result c.by_dictionaries.ensures.wide

pub returns-clause-dual : goal.returns-clause-dual
returns-clause-dual c = has_dual _ c.args.inequalities.now c.args.equations.now c.args.objective.now refl refl refl c.by_dictionaries.result c.by_dictionaries.ensures.dual
