use Rattle.pm_vector.specs.Bases.{row_at}
use Rattle.pm_dd.proofs.MixedLaws.{ends_all, ends_both, ends_middle}
use Rattle.pm_dd.proofs.mixed.from_both_ends.Goals as goal
use Rattle.pm_dd.proofs.mixed.from_both_ends.Goals.{else-last-i, then-last-i+in_ok-copy-2+in_ok-push-2}
use Rattle.std.proofs.Common.{arith, length, [], ◌-◌, ◌<◌, ◌≡◌, ◌∙◌}
use Rattle.std.proofs.lemmas.List.{get_or_read}

pub loop-i-preserved : goal.loop-i-preserved
loop-i-preserved c =
    let d = c.div_ceil-i-end.ensures in
    let within : c.loop-i.i < length c.args.rows.now = omega arith in
    let here : c.in_ok-copy.field-0 ≡ row_at c.args.rows.now c.loop-i.i = c.in_ok-copy.ensures ∙ get_or_read c.args.rows.now c.loop-i.i c.index-rows-i.result within c.index-rows-i.is [] in
    let one = rw here at c.in_ok-push.ensures.items in
    elim c.if-last-i.branch [
      | then-last-i+in_ok-copy-2+in_ok-push-2 w ↦
          let more : c.loop-i.i < length c.args.rows.now - 1 - c.loop-i.i = let t = w.if-last-i.true in omega arith in
          let too : w.in_ok-copy-2.field-0 ≡ row_at c.args.rows.now (length c.args.rows.now - 1 - c.loop-i.i) = w.in_ok-copy-2.ensures ∙ get_or_read c.args.rows.now (length c.args.rows.now - 1 - c.loop-i.i) w.index-rows-last.result (omega arith) w.index-rows-last.is [] in
          let two = rw (one, too) at w.in_ok-push-2.ensures.items in
          rw (w.made-is, two) (ends_both c.args.rows.now c.loop-i.made.items c.loop-i.i (length c.args.rows.now - 1 - c.loop-i.i) c.loop-i.invariant more (omega arith))
      | else-last-i w ↦
          let t = w.if-last-i.false in
          rw (w.made-is, one) (ends_middle c.args.rows.now c.loop-i.made.items c.loop-i.i c.loop-i.invariant within (omega arith) (omega arith))
    ]

pub returns-clause-same : goal.returns-clause-same
returns-clause-same c = let d = c.div_ceil-i-end.ensures in ends_all c.args.rows.now c.loop-i.made.items c.loop-i.i c.loop-i.invariant (omega arith)
