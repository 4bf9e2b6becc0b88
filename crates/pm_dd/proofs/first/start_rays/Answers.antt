use Rattle.pm_dd.proofs.Arranged.{order_many}
use Rattle.pm_dd.proofs.first.start_rays.Goals as goal
use Rattle.pm_elim.specs.Lost.{HasNoWideDuals}
use Rattle.std.proofs.Common.{arith, inl, inr, take, ◌++◌}

pub returns-then-len-gt-MOST_ROWS-clause-shown : goal.returns-then-len-gt-MOST_ROWS-clause-shown
returns-then-len-gt-MOST_ROWS-clause-shown c = λ X hX a.
    let t = c.if-len-gt-MOST_ROWS.true in
    let n = c.len.ensures in
    let whole = c.in-Ok.rays.rows.ok.0 in
    rw c.from_vec.ensures (order_many c.args.cols X c.args.equations.now c.args.rows.now c.args.start hX a c.args.start (omega arith) a.within c.in-Ok.rays.rows.items c.in-Ok.ensures.table.order (omega arith))

pub returns-in-Err-Wide-clause-lost : goal.returns-in-Err-Wide-clause-lost
returns-in-Err-Wide-clause-lost c = λ e.
    let lost : HasNoWideDuals c.args.cols (c.args.equations.now ++ take c.args.start c.args.rows.now) = rw c.in-Err-Wide.field-0-is at (c.in-Err-Wide.ensures.lost e) in
    elim lost [ inl h ↦ absurd (h c.requires.independent) | inr h ↦ h ]
