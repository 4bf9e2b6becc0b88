use Rattle.pm_beneath.proofs.FrontLaws.{marked_else, marked_then}
use Rattle.pm_beneath.proofs.taken.add_places.Goals as goal
use Rattle.pm_beneath.proofs.taken.add_places.Goals.{else-marks-i, then-marks-i+in_ok-push}
use Rattle.pm_laws_placing.specs.Placing.{places_marked}
use Rattle.std.proofs.Common.{ap, ◌++◌, ◌∙◌}

pub loop-i-preserved : goal.loop-i-preserved
loop-i-preserved c = elim c.if-marks-i.branch [
  | then-marks-i+in_ok-push w ↦ marked_then c.args.mark c.args.marks.now c.loop-i.i c.loop-i.made.items c.if-marks-i.made.items (c.args.others.items ++ places_marked c.args.mark c.args.marks.now 0) c.loop-i-test.true w.if-marks-i.true c.loop-i.invariant (ap (λ v. v.items) w.made-is ∙ w.in_ok-push.ensures.items)
  | else-marks-i w ↦ marked_else c.args.mark c.args.marks.now c.loop-i.i c.loop-i.made.items c.if-marks-i.made.items (c.args.others.items ++ places_marked c.args.mark c.args.marks.now 0) c.loop-i-test.true w.if-marks-i.false c.loop-i.invariant (ap (λ v. v.items) w.made-is)
]
