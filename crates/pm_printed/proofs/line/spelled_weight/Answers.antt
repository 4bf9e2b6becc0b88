use Rattle.std.proofs.Common.{refl}
use Rattle.std.specs.Prelude.{codes}
use Rattle.pm_weights.specs.Weights.{cost_text}
use Rattle.pm_printed.proofs.Back.{solid}
use Rattle.pm_printed.proofs.line.spelled_weight.Goals as goal

pub returns-in-Some-clause-back : goal.returns-in-Some-clause-back
returns-in-Some-clause-back c = λ d is e.
    let cut = c.cut_word.ensures (codes "plan") (cost_text d) (solid (codes "plan") refl) e in
    let parts = rw c.in-Some.is at cut in
    c.cost_of.ensures.back d is parts.1

pub returns-in-None-clause-back : goal.returns-in-None-clause-back
returns-in-None-clause-back c = λ d is e.
    let cut = c.cut_word.ensures (codes "plan") (cost_text d) (solid (codes "plan") refl) e in
    absurd (rw c.in-None.is at cut)
