use Rattle.pm_simplex.proofs.Answers.{stuck_excludes}
use Rattle.pm_simplex.proofs.program.after_equations.Goals as goal

pub returns-in_ok-multipliers-in-Some-clause-answer : goal.returns-in_ok-multipliers-in-Some-clause-answer
returns-in_ok-multipliers-in-Some-clause-answer g c =
    stuck_excludes c.args.y g.program c.first_phase.new.d c.in-Some.row c.in_ok-multipliers-in-Some.field-0.items c.requires.0 (rw c.in-Some.is at c.in_ok-first_phase.ensures.end) c.in_ok-multipliers-in-Some.ensures
