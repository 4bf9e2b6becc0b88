use Rattle.pm_vector.specs.Bases.{row_at}
use Rattle.pm_elim.proofs.BasisLaws.{BasisSoFar-more, BasisSoFar-none, BasisSoFar-whole, fail_is_wide, fail_list, row_length, small_step}
use Rattle.pm_elim.proofs.elimination.basis_of.Goals as goal
use Rattle.std.proofs.Common.{arith, length, ◌<◌, ◌≡◌}
use Rattle.std.proofs.lemmas.List.{get_or_read}

pub loop-i-init : goal.loop-i-init
loop-i-init c = record {
  so_far = rw (c.new.ensures.items, c.new-2.ensures.items) (BasisSoFar-none c.args.cols c.args.rows.now);
  count = omega arith;
}

pub take_in-requires : goal.take_in-requires
take_in-requires c =
    let within : c.loop-i.i < length c.args.rows.now = omega arith in
    let here : c.index-rows-i.result ≡ row_at c.args.rows.now c.loop-i.i = get_or_read c.args.rows.now c.loop-i.i c.index-rows-i.result within c.index-rows-i.is _ in
    rw (here, row_length c.args.cols c.args.rows.now c.loop-i.i c.requires.columns within) c.loop-i.invariant.so_far.basis.echelon

pub fail_of-requires-clause-small_step : goal.fail_of-requires-clause-small_step
fail_of-requires-clause-small_step c =
    let within : c.loop-i.i < length c.args.rows.now = omega arith in
    let here : c.index-rows-i.result ≡ row_at c.args.rows.now c.loop-i.i = get_or_read c.args.rows.now c.loop-i.i c.index-rows-i.result within c.index-rows-i.is _ in
    let cols = row_length c.args.cols c.args.rows.now c.loop-i.i c.requires.columns within in
    let whole = c.loop-i.basis.rows.ok.0 in
    let count = c.loop-i.invariant.count in
    small_step c.args.cols c.loop-i.basis.rows.items c.loop-i.basis.pivots.items c.index-rows-i.result c.in-Err.refusal (omega arith) c.requires.few_columns c.in-Err.ensures.wide (rw (here, cols) at c.in-Err.ensures.within)

pub returns-in-Err-clause-list : goal.returns-in-Err-clause-list
returns-in-Err-clause-list c = fail_list c.args.list c.in-Err.refusal c.fail_of.result c.loop-i.i _ c.fail_of.ensures

pub returns-clause-basis : goal.returns-clause-basis
returns-clause-basis c = BasisSoFar-whole c.args.cols c.args.rows.now c.loop-i.i c.loop-i.basis.rows.items c.loop-i.basis.pivots.items c.loop-i.invariant.so_far (omega arith)

pub returns-in-Err-clause-wide : goal.returns-in-Err-clause-wide
returns-in-Err-clause-wide c =
    let within : c.loop-i.i < length c.args.rows.now = omega arith in
    let here : c.index-rows-i.result ≡ row_at c.args.rows.now c.loop-i.i = get_or_read c.args.rows.now c.loop-i.i c.index-rows-i.result within c.index-rows-i.is _ in
    fail_is_wide c.args.cols c.args.rows.now c.loop-i.i c.loop-i.basis.rows.items c.loop-i.basis.pivots.items c.loop-i.invariant.so_far within c.args.list c.in-Err.refusal c.fail_of.result c.take_in.new.basis.rows.items (rw here at c.in-Err.ensures.wide) c.in-Err.ensures.rows_unchanged c.fail_of.ensures

pub loop-i-preserved : goal.loop-i-preserved
loop-i-preserved c =
    let within : c.loop-i.i < length c.args.rows.now = omega arith in
    let here : c.index-rows-i.result ≡ row_at c.args.rows.now c.loop-i.i = get_or_read c.args.rows.now c.loop-i.i c.index-rows-i.result within c.index-rows-i.is _ in
    let cols = row_length c.args.cols c.args.rows.now c.loop-i.i c.requires.columns within in
    let is_basis = rw (here, cols) at c.in_default.ensures.is_basis in
    let span = rw here at c.in_default.ensures.span in
    let never_wide = rw here at c.in_default.ensures.never_wide in
    let before = c.loop-i.invariant.count in
    let more = c.in_default.ensures.count in
    record {
      so_far = BasisSoFar-more c.args.cols c.args.rows.now c.loop-i.i c.loop-i.basis.rows.items c.loop-i.basis.pivots.items c.loop-i.invariant.so_far within c.take_in.new.basis.rows.items c.take_in.new.basis.pivots.items is_basis span never_wide;
      count = omega arith;
    }

pub returns-clause-never_wide : goal.returns-clause-never_wide
returns-clause-never_wide c = λ e w. c.loop-i.invariant.so_far.never_wide e (let l = w.within in omega arith) w
