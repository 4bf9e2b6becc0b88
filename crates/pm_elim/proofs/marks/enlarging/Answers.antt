use Rattle.pm_vector.specs.Bases.{row_at}
use Rattle.pm_elim.proofs.BasisLaws.{BasisSoFar-more, fail_is_wide, fail_list, row_length}
use Rattle.pm_elim.proofs.EnlargingLaws.{MarkSoFar-more, mark_is_right}
use Rattle.pm_elim.proofs.EvidenceLaws.{no_evidence_on_rows, wide_is_evidence}
use Rattle.pm_elim.proofs.marks.enlarging.Goals as goal
use Rattle.pm_vector.specs.declared.evidence.ElimList.TheVariants.{Rows}
use Rattle.std.proofs.Common.{arith, length, take, ◌<◌, ◌∙◌, ◌≡◌}
use Rattle.std.proofs.lemmas.Bool.{lt-ltb, ltb-true}
use Rattle.std.proofs.lemmas.List.{get_or_read}

pub take_in-requires : goal.take_in-requires
take_in-requires c =
    let within : c.loop-i.i < length c.args.rows.now = omega arith in
    let here : c.index-rows-i.result ≡ row_at c.args.rows.now c.loop-i.i = get_or_read c.args.rows.now c.loop-i.i c.index-rows-i.result within c.index-rows-i.is _ in
    rw (here, row_length c.args.cols c.args.rows.now c.loop-i.i c.requires.columns within) c.loop-i.invariant.so_far.basis.echelon

pub returns-in-Err-clause-wide : goal.returns-in-Err-clause-wide
returns-in-Err-clause-wide c =
    let within : c.loop-i.i < length c.args.rows.now = omega arith in
    let here : c.index-rows-i.result ≡ row_at c.args.rows.now c.loop-i.i = get_or_read c.args.rows.now c.loop-i.i c.index-rows-i.result within c.index-rows-i.is _ in
    wide_is_evidence c.args.cols c.args.rows.now c.fail_of.result
    (fail_is_wide c.args.cols c.args.rows.now c.loop-i.i c.loop-i.basis.rows.items c.loop-i.basis.pivots.items c.loop-i.invariant.so_far within Rows c.in-Err.refusal c.fail_of.result c.take_in.new.basis.rows.items (rw here at c.in-Err.ensures.wide) c.in-Err.ensures.rows_unchanged c.fail_of.ensures)
    (fail_list Rows c.in-Err.refusal c.fail_of.result c.loop-i.i _ c.fail_of.ensures)

pub loop-i-preserved : goal.loop-i-preserved
loop-i-preserved c =
    let within : c.loop-i.i < length c.args.rows.now = omega arith in
    let here : c.index-rows-i.result ≡ row_at c.args.rows.now c.loop-i.i = get_or_read c.args.rows.now c.loop-i.i c.index-rows-i.result within c.index-rows-i.is _ in
    let cols = row_length c.args.cols c.args.rows.now c.loop-i.i c.requires.columns within in
    let is_basis = rw (here, cols) at c.in_default.ensures.is_basis in
    let span = rw here at c.in_default.ensures.span in
    let never_wide = rw here at c.in_default.ensures.never_wide in
    let spanned = rw here at c.in_default.ensures.spanned in
    let before = c.loop-i.invariant.count in
    let more = c.in_default.ensures.count in
    let old_whole = c.loop-i.basis.rows.ok.0 in
    let new_whole = c.take_in.new.basis.rows.ok.0 in
    let old_len = c.len-before.ensures in
    let new_len = c.len.ensures in
    let so_far = c.loop-i.invariant.so_far in
    record {
      so_far = BasisSoFar-more c.args.cols c.args.rows.now c.loop-i.i c.loop-i.basis.rows.items c.loop-i.basis.pivots.items so_far within c.take_in.new.basis.rows.items c.take_in.new.basis.pivots.items is_basis span never_wide;
      count = omega arith;
      marks = rw c.in_ok-push.ensures.items (MarkSoFar-more c.args.rows.now c.loop-i.i c.loop-i.marks.items _ c.loop-i.invariant.marks
          (mark_is_right c.args.cols (take c.loop-i.i c.args.rows.now) c.loop-i.basis.rows.items c.take_in.new.basis.rows.items c.loop-i.basis.pivots.items c.take_in.new.basis.pivots.items (row_at c.args.rows.now c.loop-i.i) so_far.basis is_basis span (λ l. spanned (omega arith)) _ (λ h. let t = ltb-true c.len-before.result c.len.result h in omega arith, λ l. lt-ltb c.len-before.result c.len.result (omega arith))));
    }

pub returns-clause-never_wide : goal.returns-clause-never_wide
returns-clause-never_wide c = no_evidence_on_rows c.args.cols c.args.rows.now (λ e w. c.loop-i.invariant.so_far.never_wide e (let l = w.within in omega arith) w)

pub returns-in-Err-clause-list : goal.returns-in-Err-clause-list
returns-in-Err-clause-list c = fail_list Rows c.in-Err.refusal c.fail_of.result c.loop-i.i _ c.fail_of.ensures

pub returns-clause-marks : goal.returns-clause-marks
returns-clause-marks c =
    let all : c.loop-i.i ≡ length c.args.rows.now = omega arith in
    record {
      as_many = c.loop-i.invariant.marks.as_many ∙ all;
      exact = λ k l. c.loop-i.invariant.marks.exact k (omega arith);
    }
