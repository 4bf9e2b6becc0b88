-- Each turn puts one row more behind the others.
use Rattle.pm_files.proofs.evidence.whole_rows_json.Goals as goal
use Rattle.pm_files.proofs.Lists.{array_made}
use Rattle.pm_files.specs.EvidenceJson.{whole_row_json}
use Rattle.pm_geom.proofs.Copies.{made}
use Rattle.serde_json.specs.View.{view}
use Rattle.std.proofs.Common.{ap, arith, ◌∙◌}

pub loop-row-preserved : goal.loop-row-preserved
loop-row-preserved c =
    rw c.in_ok-push.ensures.items (made view whole_row_json c.args.rows.now c.loop-row.items.items c.in_ok-whole_row_json.field-0 c.loop-row.row-index c.row-item.result c.loop-row.invariant (omega arith)
    (c.in_ok-whole_row_json.ensures ∙ ap whole_row_json c.as_slice.ensures.value ∙ ap whole_row_json c.row-item.is))

pub returns : goal.returns
returns c = array_made whole_row_json c.args.rows.now c.loop-row.items c.loop-row.row-index c.loop-row.invariant c.loop-row-test.false
