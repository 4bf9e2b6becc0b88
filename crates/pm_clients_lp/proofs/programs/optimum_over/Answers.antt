use Rattle.pm_clients_lp.proofs.programs.optimum_over.Goals as goal
use Rattle.pm_geom.specs.Programs.{Solves}
use Rattle.pm_simplex.specs.Senses.{objective_in}
use Rattle.pm_types.specs.Programs.{IsGreatest}
use Rattle.std.proofs.Common.{subst, sym}

pub returns-clause-value : goal.returns-clause-value
returns-clause-value c =
    subst (IsGreatest (Solves c.args.inequalities.now c.args.equations.now) (objective_in c.args.sense c.args.objective.now)) (sym c.optimum_by.ensures) (rw (c.deref.ensures.value, c.in_ok-turned.ensures) at c.in_ok-greatest.ensures.value)
