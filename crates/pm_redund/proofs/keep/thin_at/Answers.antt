use Rattle.pm_redund.proofs.Steps.{thinned_try}
use Rattle.pm_redund.proofs.keep.thin_at.Goals as goal
use Rattle.std.proofs.Common.{refl}

pub returns-clause-thinned : goal.returns-clause-thinned
returns-clause-thinned c =
    let kept = rw c.deref.ensures.value at (c.is_kept.ensures.0 c.if-not-is_kept.false) in
    let here = rw c.deref-2.ensures.value at c.in_ok-marks.ensures.redundant in
    thinned_try c.args.rows.now c.args.lines.now c.args.line_marks.now c.args.marks.now.items c.args.i c.requires.place kept c.requires.thinned _ _ refl here
