use Rattle.std.proofs.Common.{◌∙◌, refl}
use Rattle.std.specs.Prelude.{codes}
use Rattle.pm_weights.specs.Weights.{cost_text}
use Rattle.pm_printed.specs.Texts.{set_text}
use Rattle.pm_printed.proofs.Back.{solid}
use Rattle.pm_printed.proofs.Unread.{cost_lacks_space, row_parts}
use Rattle.pm_printed.proofs.line.spelled_row.Goals as goal

pub returns-in-Some-clause-back : goal.returns-in-Some-clause-back
returns-in-Some-clause-back c = λ row is e.
    let cut = c.cut_words.ensures (codes "row") (cost_text row.cost) (set_text row.set) (solid (codes "row") refl) (cost_lacks_space row.cost is.cost) (e ∙ row_parts row) in
    let parts = rw c.in-Some.is at cut in
    c.row_from.ensures.back row (c.cost_of.ensures.back row.cost is.cost parts.0) (c.set_of.ensures.back row.set is.set parts.1)

pub returns-in-None-clause-back : goal.returns-in-None-clause-back
returns-in-None-clause-back c = λ row is e.
    let cut = c.cut_words.ensures (codes "row") (cost_text row.cost) (set_text row.set) (solid (codes "row") refl) (cost_lacks_space row.cost is.cost) (e ∙ row_parts row) in
    absurd (rw c.in-None.is at cut)
