use Rattle.pm_vector.specs.Rows.{entry}
use Rattle.pm_dd.proofs.Negatives.{places_add, places_skip}
use Rattle.pm_dd.proofs.near.near_negatives.Goals as goal
use Rattle.pm_dd.proofs.near.near_negatives.Goals.{then-values-j-lt0+then-common_count_with-need+in_ok-push, else-values-j-lt0, else-values-j-lt0-via-then-values-j-lt0+else-common_count_with-need, else-values-j-lt0-via-else-values-j-lt0}
use Rattle.pm_dd.specs.Building.{IsPassed}
use Rattle.std.proofs.Common.{arith, inl, inr, pos, ◌<ℤ◌}
use Rattle.std.proofs.lemmas.Int.{ints}

pub loop-j-preserved : goal.loop-j-preserved
loop-j-preserved c =
    let passed = IsPassed c.args.zeros.now c.args.values.now c.args.ahead.now c.args.need in
    elim c.if-values-j-lt0.branch [
      | then-values-j-lt0+then-common_count_with-need+in_ok-push w ↦ (
          let t = w.if-values-j-lt0.true in
          let down : entry c.args.values.now c.loop-j.j <ℤ pos 0 = omega (arith, ints) in
          rw (w.made-is, w.in_ok-push.ensures.items) (places_add passed c.args.values.now 0 c.loop-j.j c.loop-j.made.items (omega arith) c.loop-j.invariant down))
      | else-values-j-lt0 w ↦ rw w.made-is (places_skip passed c.args.values.now 0 c.loop-j.j c.loop-j.made.items c.loop-j.invariant (elim w.else-values-j-lt0.branch [
        | else-values-j-lt0-via-then-values-j-lt0+else-common_count_with-need x ↦ inr (
            let f = x.if-common_count_with-need.false in
            let n = x.common_count_with.ensures in
            omega arith)
        | else-values-j-lt0-via-else-values-j-lt0 x ↦ inl (let t = x.if-values-j-lt0.false in omega (arith, ints))
      ]))
    ]
