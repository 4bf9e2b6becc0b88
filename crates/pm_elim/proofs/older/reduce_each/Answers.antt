-- Each turn reduces the row whose turn it is, which is as it was, so its step stays in the range.
use Rattle.pm_vector.specs.Bases.{row_at}
use Rattle.pm_elim.proofs.BasisLaws.{row_length}
use Rattle.pm_elim.proofs.OlderRows.{FirstReduced-all, FirstReduced-more, FirstReduced-none, row_in_turn}
use Rattle.pm_elim.proofs.older.reduce_each.Goals as goal
use Rattle.pm_elim.proofs.older.reduce_each.Goals.{After-index-rows-place}
use Rattle.std.proofs.Common.{arith, get_or, length, ◌≡◌}

here : (c : After-index-rows-place) → get_or c.loop-place.rows c.loop-place.place c.index-rows-place.result ≡ row_at c.args.rows.now c.loop-place.place
here c = row_in_turn c.args.rows.now c.args.new.now c.args.pivot c.loop-place.place c.loop-place.rows c.loop-place.invariant c.index-rows-place.result (omega arith)

pub loop-place-init : goal.loop-place-init
loop-place-init c = FirstReduced-none c.args.rows.now c.args.new.now c.args.pivot

pub reduce_once-requires-clause-same_length : goal.reduce_once-requires-clause-same_length
reduce_once-requires-clause-same_length c = rw (here c, row_length (length c.args.new.now) c.args.rows.now c.loop-place.place c.requires.cols c.loop-place-test.true)

pub reduce_once-requires-clause-within : goal.reduce_once-requires-clause-within
reduce_once-requires-clause-within c = rw (here c, row_length (length c.args.new.now) c.args.rows.now c.loop-place.place c.requires.cols c.loop-place-test.true) c.requires.within

pub unreachable-requires : goal.unreachable-requires
unreachable-requires c =
    let before = (goal.at.unreachable-requires c).After-index-rows-place in
    let wide = rw (here before) at c.in_default.ensures.wide in
    c.requires.stays c.loop-place.place c.loop-place-test.true c.in_default.field-0 wide

pub loop-place-preserved : goal.loop-place-preserved
loop-place-preserved c =
    let before = (goal.at.loop-place-preserved c).After-index-rows-place in
    FirstReduced-more c.args.rows.now c.args.new.now c.args.pivot c.loop-place.place c.loop-place.rows c.reduce_once.new.row (omega arith) c.loop-place.invariant (rw (here before) at c.in-Ok.ensures.reduced)

pub returns : goal.returns
returns c = FirstReduced-all c.args.rows.now c.args.new.now c.args.pivot c.loop-place.place c.loop-place.rows c.loop-place.invariant (omega arith) (omega arith)
