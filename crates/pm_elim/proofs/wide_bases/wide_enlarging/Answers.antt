use Rattle.pm_vector.specs.Bases.{row_at}
use Rattle.pm_elim.proofs.BasisLaws.{row_length}
use Rattle.pm_elim.proofs.EnlargingLaws.{MarkSoFar-more, mark_is_right}
use Rattle.pm_elim.proofs.LostLaws.{lost_at, lost_weaker}
use Rattle.pm_elim.proofs.SoFar.{basis_more}
use Rattle.pm_elim.proofs.wide_bases.wide_enlarging.Goals as goal
use Rattle.std.proofs.Common.{arith, length, take, ◌<◌, ◌≡◌}
use Rattle.std.proofs.lemmas.Bool.{lt-ltb, ltb-true}
use Rattle.std.proofs.lemmas.List.{get_or_read}
use Rattle.std.proofs.lemmas.Result.{err_from_is_err_and}

pub loop-i-preserved : goal.loop-i-preserved
loop-i-preserved c =
    let within : c.loop-i.i < length c.args.rows.now = omega arith in
    let here : c.index-rows-i.result ≡ row_at c.args.rows.now c.loop-i.i = get_or_read c.args.rows.now c.loop-i.i c.index-rows-i.result within c.index-rows-i.is _ in
    let cols = row_length c.args.cols c.args.rows.now c.loop-i.i c.requires within in
    let is_basis = rw (here, cols) at c.in_ok-basis.ensures.is_basis in
    let span = rw here at c.in_ok-basis.ensures.span in
    let spanned = rw here at c.in_ok-basis.ensures.spanned in
    let old_whole = c.loop-i.basis.rows.ok.0 in
    let new_whole = c.in_ok-basis.basis.rows.ok.0 in
    let old_len = c.len-before.ensures in
    let new_len = c.len.ensures in
    let so_far = c.loop-i.invariant.so_far in
    record {
      so_far = basis_more c.args.cols c.args.rows.now c.loop-i.i c.loop-i.basis.rows.items c.in_ok-basis.basis.rows.items c.loop-i.basis.pivots.items c.in_ok-basis.basis.pivots.items within so_far is_basis span;
      marks = rw c.in_ok-push.ensures.items (MarkSoFar-more c.args.rows.now c.loop-i.i c.loop-i.marks.items _ c.loop-i.invariant.marks
          (mark_is_right c.args.cols (take c.loop-i.i c.args.rows.now) c.loop-i.basis.rows.items c.in_ok-basis.basis.rows.items c.loop-i.basis.pivots.items c.in_ok-basis.basis.pivots.items (row_at c.args.rows.now c.loop-i.i) so_far is_basis span (λ l. spanned (omega arith)) _ (λ h. let t = ltb-true c.len-before.result c.len.result h in omega arith, λ l. lt-ltb c.len-before.result c.len.result (omega arith))));
    }

pub returns-in_err-basis-clause-lost : goal.returns-in_err-basis-clause-lost
returns-in_err-basis-clause-lost c =
    let within : c.loop-i.i < length c.args.rows.now = omega arith in
    let here : c.index-rows-i.result ≡ row_at c.args.rows.now c.loop-i.i = get_or_read c.args.rows.now c.loop-i.i c.index-rows-i.result within c.index-rows-i.is _ in
    let p = err_from_is_err_and c.from_residual.result c.from_residual.ensures.1 in
    rw (p.1, p.2)
    (lost_weaker c.in_err-basis.field-0.0 _ _
    (lost_at c.args.cols c.args.rows.now c.loop-i.i c.loop-i.basis.rows.items c.loop-i.basis.pivots.items within c.loop-i.invariant.so_far)
    (rw here at c.in_err-basis.ensures.lost))
