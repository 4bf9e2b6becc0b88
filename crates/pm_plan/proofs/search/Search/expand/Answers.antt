use Rattle.std.proofs.Common.{◌≡◌, Some, length, refl, arith}
use Rattle.std.specs.Prelude.{slice_get}
use Rattle.std.proofs.lemmas.Option.{slice_get_read}
use Rattle.std.proofs.lemmas.Bool.{iff_false}
use Rattle.pm_plan.proofs.Expanding.{expands_none, expands_more, expands_same}
use Rattle.pm_plan.proofs.search.Search.expand.Goals as goal
use Rattle.pm_plan.proofs.search.Search.expand.Goals.{then-is_open+in_ok-offer, else-is_open}

pub loop-m-init : goal.loop-m-init
loop-m-init c = expands_none c.args.moves.now c.args.asked c.args.row.now c.args.from c.requires.weights c.args.self.now

pub loop-m-preserved : goal.loop-m-preserved
loop-m-preserved c =
    let moves = c.args.moves.now in
    let m = c.m-item.result in
    let n = c.loop-m.m-index in
    let there : slice_get moves n ≡ Some m = slice_get_read moves (length moves) n m refl (omega arith) c.m-item.is in
    elim c.if-is_open.branch [
      | then-is_open+in_ok-offer w ↦ rw w.self-is
          (expands_more moves c.args.asked c.args.row.now c.args.from c.requires.weights n m c.args.self.now c.loop-m.self w.offer.new.self there (c.is_open.ensures.0 w.if-is_open.true)
          c.loop-m.invariant (rw w.after.ensures at w.in_ok-offer.ensures))
      | else-is_open w ↦ rw w.self-is
          (expands_same moves c.args.asked c.args.row.now c.args.from c.requires.weights n m c.args.self.now c.loop-m.self there (iff_false c.is_open.ensures w.if-is_open.false) c.loop-m.invariant)
    ]
