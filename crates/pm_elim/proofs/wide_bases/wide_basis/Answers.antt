use Rattle.pm_vector.specs.Bases.{row_at}
use Rattle.pm_elim.proofs.BasisLaws.{row_length}
use Rattle.pm_elim.proofs.LostLaws.{lost_at, lost_weaker}
use Rattle.pm_elim.proofs.SoFar.{basis_more}
use Rattle.pm_elim.proofs.wide_bases.wide_basis.Goals as goal
use Rattle.std.proofs.Common.{arith, length, ◌<◌, ◌≡◌}
use Rattle.std.proofs.lemmas.List.{get_or_read}
use Rattle.std.proofs.lemmas.Result.{err_from_is_err_and}

pub loop-i-preserved : goal.loop-i-preserved
loop-i-preserved c =
    let within : c.loop-i.i < length c.args.rows.now = omega arith in
    let here : c.index-rows-i.result ≡ row_at c.args.rows.now c.loop-i.i = get_or_read c.args.rows.now c.loop-i.i c.index-rows-i.result within c.index-rows-i.is _ in
    let cols = row_length c.args.cols c.args.rows.now c.loop-i.i c.requires within in
    basis_more c.args.cols c.args.rows.now c.loop-i.i c.loop-i.basis.rows.items c.in_ok-basis.basis.rows.items c.loop-i.basis.pivots.items c.in_ok-basis.basis.pivots.items within c.loop-i.invariant
    (rw (here, cols) at c.in_ok-basis.ensures.is_basis) (rw here at c.in_ok-basis.ensures.span)

pub returns-in_err-basis-clause-lost : goal.returns-in_err-basis-clause-lost
returns-in_err-basis-clause-lost c =
    let within : c.loop-i.i < length c.args.rows.now = omega arith in
    let here : c.index-rows-i.result ≡ row_at c.args.rows.now c.loop-i.i = get_or_read c.args.rows.now c.loop-i.i c.index-rows-i.result within c.index-rows-i.is _ in
    let p = err_from_is_err_and c.from_residual.result c.from_residual.ensures.1 in
    rw (p.1, p.2)
    (lost_weaker c.in_err-basis.field-0.0 _ _
    (lost_at c.args.cols c.args.rows.now c.loop-i.i c.loop-i.basis.rows.items c.loop-i.basis.pivots.items within c.loop-i.invariant)
    (rw here at c.in_err-basis.ensures.lost))
