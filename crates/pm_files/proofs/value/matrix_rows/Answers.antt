-- Each turn puts one row more behind the others.
use Rattle.pm_files.proofs.value.matrix_rows.Goals as goal
use Rattle.pm_files.proofs.Lists.{all_made}
use Rattle.pm_files.specs.ValueJson.{row_json}
use Rattle.pm_geom.proofs.Copies.{made}
use Rattle.serde_json.specs.View.{view}
use Rattle.std.proofs.Common.{[], ap, arith, ◌∙◌}

pub loop-i-preserved : goal.loop-i-preserved
loop-i-preserved c =
    rw c.in_ok-push.ensures.items (made view row_json c.args.m.now.rows c.loop-i.rows.items c.in_ok-row_json.field-0 c.loop-i.i [] c.loop-i.invariant (omega arith)
    (c.in_ok-row_json.ensures ∙ ap row_json c.row.ensures.value))

pub returns : goal.returns
returns c = all_made row_json c.args.m.now.rows c.loop-i.rows.items c.loop-i.i c.loop-i.invariant (omega arith)
