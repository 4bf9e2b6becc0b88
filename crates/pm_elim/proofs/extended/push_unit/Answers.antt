use Rattle.pm_elim.proofs.ExtendedLaws.{unit_more, unit_one, unit_zero}
use Rattle.pm_elim.proofs.extended.push_unit.Goals as goal
use Rattle.pm_elim.proofs.extended.push_unit.Goals.{else-k-i, then-k-i}
use Rattle.pm_vector.specs.Rows.{entry}
use Rattle.pm_vector.specs.Evidence.{unit}
use Rattle.std.proofs.Common.{arith, pos, sym, ◌<◌, ◌≡◌, ◌∙◌}

pub loop-k-preserved : goal.loop-k-preserved
loop-k-preserved c =
    let within : c.loop-k.k < c.args.n = omega arith in
    elim c.if-k-i.branch [
      | then-k-i w ↦
          let here : entry (unit c.args.n c.args.i) c.loop-k.k ≡ pos 1 = rw w.if-k-i.true (unit_one c.args.n c.args.i c.requires) in
          unit_more c.args.n c.args.i c.loop-k.k c.args.row.now c.loop-k.row c.push.new.self _ within c.loop-k.invariant c.in_ok-push.ensures.ok (w.push-is ∙ sym here)
      | else-k-i w ↦ unit_more c.args.n c.args.i c.loop-k.k c.args.row.now c.loop-k.row c.push.new.self _ within c.loop-k.invariant c.in_ok-push.ensures.ok (w.push-is ∙ sym (unit_zero c.args.n c.args.i c.loop-k.k w.if-k-i.false))
    ]
