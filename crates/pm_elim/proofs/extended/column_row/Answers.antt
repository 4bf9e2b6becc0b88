use Rattle.pm_vector.specs.Rows.{entry}
use Rattle.pm_vector.specs.Bases.{row_at}
use Rattle.pm_elim.proofs.BasisLaws.{row_length}
use Rattle.pm_elim.proofs.extended.column_row.Goals as goal
use Rattle.pm_vector.proofs.Kept.{kept}
use Rattle.std.proofs.Common.{sym, [], ◌≡◌}
use Rattle.std.proofs.lemmas.List.{get_or_read, map_more}
use Rattle.std.proofs.lemmas.Result.{IfOk-from_err}

pub get-requires : goal.get-requires
get-requires c =
    let here : c.row-item.result ≡ row_at c.args.rows.now c.loop-row.row-index = get_or_read c.args.rows.now c.loop-row.row-index c.row-item.result c.loop-row-test.true c.row-item.is _ in
    rw (here, row_length c.args.cols c.args.rows.now c.loop-row.row-index c.requires.columns c.loop-row-test.true) c.requires.within

pub loop-row-preserved : goal.loop-row-preserved
loop-row-preserved c =
    let here : c.row-item.result ≡ row_at c.args.rows.now c.loop-row.row-index = get_or_read c.args.rows.now c.loop-row.row-index c.row-item.result c.loop-row-test.true c.row-item.is _ in
    rw (c.in_ok-push.ensures.ok, kept c.get.result c.get.ensures.in_range, c.get.ensures.value, here, c.loop-row.invariant)
    (sym (map_more (λ b. entry b c.args.i) c.args.rows.now c.loop-row.row-index [] c.loop-row-test.true))

pub returns-in_err-push : goal.returns-in_err-push
returns-in_err-push c = IfOk-from_err c.from_residual.result _ c.from_residual.ensures.0
