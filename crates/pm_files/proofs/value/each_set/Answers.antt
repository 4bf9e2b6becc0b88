-- Each turn puts one set more behind the others.
use Rattle.pm_files.proofs.value.each_set.Goals as goal
use Rattle.pm_files.proofs.Lists.{all_made, map_twice}
use Rattle.pm_files.specs.ValueJson.{set_json}
use Rattle.pm_geom.proofs.Copies.{made}
use Rattle.serde_json.specs.View.{view}
use Rattle.std.proofs.Common.{ap, arith, ◌∙◌}

pub loop-row-preserved : goal.loop-row-preserved
loop-row-preserved c =
    rw c.in_ok-push.ensures.items (made view (λ r. set_json r.items) c.args.rows.now c.loop-row.sets.items c.in_ok-set_json.field-0 c.loop-row.row-index c.row-item.result c.loop-row.invariant (omega arith)
    (c.in_ok-set_json.ensures ∙ ap set_json c.deref.ensures.value ∙ ap (λ r. set_json r.items) c.row-item.is))

pub returns : goal.returns
returns c = all_made (λ r. set_json r.items) c.args.rows.now c.loop-row.sets.items c.loop-row.row-index c.loop-row.invariant c.loop-row-test.false ∙ map_twice (λ r. r.items) set_json c.args.rows.now
