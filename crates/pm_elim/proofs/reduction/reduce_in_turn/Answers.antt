use Rattle.pm_vector.proofs.Columns.{row_cols}
use Rattle.pm_vector.specs.Bases.{column, row_at}
use Rattle.pm_elim.proofs.InTurn.{InTurn-all, InTurn-more, pivot_below}
use Rattle.pm_elim.proofs.ReductionLaws.{once_length}
use Rattle.pm_elim.proofs.reduction.reduce_in_turn.Goals as goal
use Rattle.std.proofs.Common.{arith, length, sym, ◌<◌, ◌≡◌, ◌∙◌}
use Rattle.std.proofs.lemmas.List.{get_or_read}

pub loop-i-preserved : goal.loop-i-preserved
loop-i-preserved c =
    let within : c.loop-i.i < length c.args.rows.now = omega arith in
    let here : c.index-rows-i.result ≡ row_at c.args.rows.now c.loop-i.i = get_or_read c.args.rows.now c.loop-i.i c.index-rows-i.result within c.index-rows-i.is _ in
    let once = rw here at c.in_default.ensures.reduced in
    let stays = rw here at c.in_default.ensures.stays in
    let row_length = row_cols (length c.args.row.now) c.args.rows.now c.args.pivots.now c.requires.basis c.loop-i.i within in
    let same = once_length once (length c.args.row.now) c.loop-i.invariant.cols row_length in
    InTurn-more c.args.rows.now c.args.pivots.now c.args.row.now c.loop-i.i c.loop-i.row c.reduce_once.new.row c.requires.basis.as_many within (same ∙ sym c.loop-i.invariant.cols) c.loop-i.invariant once stays

pub returns-clause-stays : goal.returns-clause-stays
returns-clause-stays c = λ k m l h. c.loop-i.invariant.stays k m (omega arith) h

pub reduce_once-requires-clause-same_length : goal.reduce_once-requires-clause-same_length
reduce_once-requires-clause-same_length c =
    let within : c.loop-i.i < length c.args.rows.now = omega arith in
    let here : c.index-rows-i.result ≡ row_at c.args.rows.now c.loop-i.i = get_or_read c.args.rows.now c.loop-i.i c.index-rows-i.result within c.index-rows-i.is _ in
    let row_length = row_cols (length c.args.row.now) c.args.rows.now c.args.pivots.now c.requires.basis c.loop-i.i within in
    rw here (c.loop-i.invariant.cols ∙ sym row_length)

pub reduce_once-requires-clause-within : goal.reduce_once-requires-clause-within
reduce_once-requires-clause-within c =
    let below : column c.args.pivots.now c.loop-i.i < length c.args.row.now = pivot_below (length c.args.row.now) c.args.rows.now c.args.pivots.now c.requires.basis c.loop-i.i c.loop-i-test.true in
    rw c.loop-i.invariant.cols below

pub reduce_once-requires-clause-positive : goal.reduce_once-requires-clause-positive
reduce_once-requires-clause-positive c =
    let within : c.loop-i.i < length c.args.rows.now = omega arith in
    let here : c.index-rows-i.result ≡ row_at c.args.rows.now c.loop-i.i = get_or_read c.args.rows.now c.loop-i.i c.index-rows-i.result within c.index-rows-i.is _ in
    rw here (c.requires.positive c.loop-i.i within)

pub returns-in-Err-clause-wide : goal.returns-in-Err-clause-wide
returns-in-Err-clause-wide c =
    let within : c.loop-i.i < length c.args.rows.now = omega arith in
    let here : c.index-rows-i.result ≡ row_at c.args.rows.now c.loop-i.i = get_or_read c.args.rows.now c.loop-i.i c.index-rows-i.result within c.index-rows-i.is _ in
    record {
      within = within;
      reduced = rw c.in-Err.ensures.unchanged c.loop-i.invariant.reduced;
      wide = rw (c.in-Err.ensures.unchanged, ← here) c.in-Err.ensures.wide;
    }

pub returns-in-Err-clause-within : goal.returns-in-Err-clause-within
returns-in-Err-clause-within c = rw (← c.loop-i.invariant.cols) c.in-Err.ensures.within

pub returns-clause-reduced : goal.returns-clause-reduced
returns-clause-reduced c = InTurn-all c.args.rows.now c.args.pivots.now c.args.row.now c.loop-i.i c.loop-i.row c.requires.as_many (omega arith) c.loop-i.invariant

pub bounds-pivots-i : goal.bounds-pivots-i
bounds-pivots-i c = let as_many = c.requires.as_many in let below = c.loop-i-test.true in omega arith
