use Rattle.pm_simplex.proofs.Answers.{contradiction_has_none, sign_of}
use Rattle.pm_simplex.proofs.program.from_start.Goals as goal
use Rattle.pm_simplex.specs.Running.{IsContradiction}

pub returns-in_ok-multipliers-in-Some-clause-answer : goal.returns-in_ok-multipliers-in-Some-clause-answer
returns-in_ok-multipliers-in-Some-clause-answer g c =
    let k : IsContradiction c.args.y g.program.system c.absorb.new.d c.in-Some.row = rw c.in-Some.is at c.in_ok-absorb.ensures.absorbed in
    contradiction_has_none c.args.y g.program c.absorb.new.d c.in-Some.row c.is_negative-up.result c.in_ok-multipliers-in-Some.field-0.items c.requires.0 k
    (sign_of c.is_negative-up.result c.entry.result _ c.is_negative-up.ensures c.entry.ensures.value k.constant) c.in_ok-multipliers-in-Some.ensures
