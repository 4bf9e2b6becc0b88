use Rattle.pm_geom.specs.StatedOrder.{rows_marked}
use Rattle.pm_redund.proofs.Inserted.{all_marked}
use Rattle.pm_redund.proofs.support.all_chosen.Goals as goal
use Rattle.std.proofs.Common.{Bool, List, ap, length, refl, replicate, rules, true, ◌≡◌, ◌∙◌}

pub returns-clause-all : goal.returns-clause-all
returns-clause-all c =
    let all : c.in_ok-vec.field-0.items ≡ replicate (length c.args.rows.now) true = search rules in
    ap (λ (M : List Bool). rows_marked true M c.args.rows.now) (c.in_ok-all.ensures.marks ∙ all)
    ∙ all_marked c.args.rows.now (length c.args.rows.now) refl
