use Rattle.pm_geom.specs.Programs.{Solves}
use Rattle.pm_types.specs.Programs.{IsGreatest}
use Rattle.pm_wide_programs.proofs.Shown.{told}
use Rattle.pm_wide_programs.proofs.maximise.greatest_by.Goals as goal
use Rattle.std.proofs.Common.{subst, sym}

pub returns-in-Ok-clause-value : goal.returns-in-Ok-clause-value
returns-in-Ok-clause-value c =
    subst (IsGreatest (Solves c.args.inequalities.now c.args.equations.now) c.args.objective.now) (sym c.greatest_told-greatest.ensures) (told c.args.inequalities.now c.args.equations.now c.args.objective.now c.in-Ok.answer c.in-Ok.ensures.answer)
