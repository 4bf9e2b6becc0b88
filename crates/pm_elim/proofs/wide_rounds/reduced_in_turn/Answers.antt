use Rattle.pm_vector.proofs.Columns.{row_cols}
use Rattle.pm_vector.specs.Bases.{row_at}
use Rattle.pm_elim.proofs.LostLaws.{lost_weaker, next_lost}
use Rattle.pm_elim.proofs.ReductionLaws.{once_length}
use Rattle.pm_elim.proofs.SoFar.{ReducedSoFar-more}
use Rattle.pm_elim.proofs.wide_rounds.reduced_in_turn.Goals as goal
use Rattle.std.proofs.Common.{arith, length, sym, ◌<◌, ◌≡◌, ◌∙◌}
use Rattle.std.proofs.lemmas.List.{get_or_read}
use Rattle.std.proofs.lemmas.Result.{err_from_is_err_and}

pub loop-i-preserved : goal.loop-i-preserved
loop-i-preserved c =
    let within : c.loop-i.i < length c.args.rows.now = omega arith in
    let here : c.index-rows-i.result ≡ row_at c.args.rows.now c.loop-i.i = get_or_read c.args.rows.now c.loop-i.i c.index-rows-i.result within c.index-rows-i.is _ in
    let once = rw here at c.in_ok-rest-2.ensures.reduced in
    let row_length = row_cols (length c.args.row.now) c.args.rows.now c.args.pivots.now c.requires.basis c.loop-i.i within in
    let same = once_length once (length c.args.row.now) c.loop-i.invariant.cols row_length in
    ReducedSoFar-more c.args.rows.now c.args.pivots.now c.args.row.now c.loop-i.i c.loop-i.rest c.in_ok-rest-2.rest c.requires.basis.as_many within (same ∙ sym c.loop-i.invariant.cols) c.loop-i.invariant once

pub returns-in_err-rest-2-clause-lost : goal.returns-in_err-rest-2-clause-lost
returns-in_err-rest-2-clause-lost c =
    let within : c.loop-i.i < length c.args.rows.now = omega arith in
    let here : c.index-rows-i.result ≡ row_at c.args.rows.now c.loop-i.i = get_or_read c.args.rows.now c.loop-i.i c.index-rows-i.result within c.index-rows-i.is _ in
    let p = err_from_is_err_and c.from_residual-in_err-rest-2.result c.from_residual-in_err-rest-2.ensures.1 in
    rw (p.1, p.2)
    (lost_weaker c.in_err-rest-2.field-0.0 _ _
    (next_lost c.args.rows.now c.args.pivots.now c.args.row.now c.loop-i.i c.loop-i.rest within c.loop-i.invariant.reduced)
    (rw here at c.in_err-rest-2.ensures.lost))
