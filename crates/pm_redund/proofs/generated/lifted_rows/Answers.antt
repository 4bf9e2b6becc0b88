use Rattle.pm_vector.specs.Rows.{Row}
use Rattle.pm_geom.specs.StatedOrder.{rows_marked}
use Rattle.pm_redund.proofs.Lifted.{lift_more, lift_skip}
use Rattle.pm_redund.proofs.generated.lifted_rows.Goals as goal
use Rattle.pm_redund.proofs.generated.lifted_rows.Goals.{then-marks-i+in_ok-headed+in_ok-push, else-marks-i}
use Rattle.pm_simplex.specs.Generated.{lifted}
use Rattle.std.proofs.Common.{[], arith, drop, length, pos, subst, sym, true, ◌+◌, ◌++◌, ◌<◌, ◌∙◌, ◌∷◌, ◌≡◌}
use Rattle.std.proofs.lemmas.List.{get_or_default}

pub loop-i-preserved : goal.loop-i-preserved
loop-i-preserved c =
    let M = c.args.marks.now in
    let X = c.args.rows.now in
    let i = c.loop-i.i in
    let W = c.loop-i.made.items in
    let lM : i < length M = c.loop-i-test.true in
    let lX : i < length X = (let e = c.requires in omega arith) in
    elim c.if-marks-i.branch [
      | then-marks-i+in_ok-headed+in_ok-push w ↦
          rw (w.made-is, w.in_ok-push.ensures.items, w.in_ok-headed.ensures)
          (subst (λ (x : Row). (W ++ (pos 0 ∷ x) ∷ []) ++ lifted (rows_marked true (drop (i + 1) M) (drop (i + 1) X)) ≡ lifted (rows_marked true M X)) (get_or_default X i [] w.index-rows-i.result lX ∙ sym w.index-rows-i.is)
          (lift_more M X i W lM lX w.if-marks-i.true ∙ c.loop-i.invariant))
      | else-marks-i w ↦ rw w.made-is (lift_skip M X i W lM lX w.if-marks-i.false ∙ c.loop-i.invariant)
    ]
