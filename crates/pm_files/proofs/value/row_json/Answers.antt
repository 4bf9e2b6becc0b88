-- Each turn puts one entry more behind the others.
use Rattle.pm_files.proofs.value.row_json.Goals as goal
use Rattle.pm_files.proofs.Lists.{array_made}
use Rattle.pm_files.specs.ValueJson.{fraction_json}
use Rattle.pm_geom.proofs.Copies.{made}
use Rattle.serde_json.specs.View.{view}
use Rattle.std.proofs.Common.{ap, arith, ◌∙◌}

pub loop-q-preserved : goal.loop-q-preserved
loop-q-preserved c =
    rw c.in_ok-push.ensures.items (made view fraction_json c.args.row.now c.loop-q.entries.items c.in_ok-fraction_json.field-0 c.loop-q.q-index c.q-item.result c.loop-q.invariant (omega arith) (c.in_ok-fraction_json.ensures ∙ ap fraction_json c.q-item.is))

pub returns : goal.returns
returns c = array_made fraction_json c.args.row.now c.loop-q.entries c.loop-q.q-index c.loop-q.invariant c.loop-q-test.false
