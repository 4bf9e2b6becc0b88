-- Each turn puts one entry more behind the others.
use Rattle.pm_files.proofs.evidence.whole_row_json.Goals as goal
use Rattle.pm_files.proofs.Lists.{array_made}
use Rattle.pm_files.specs.EvidenceJson.{entry_json}
use Rattle.pm_geom.proofs.Copies.{made}
use Rattle.serde_json.specs.View.{view}
use Rattle.std.proofs.Common.{FitsSigned, ap, arith, get_or, rules, ◌∙◌}
use Rattle.std.proofs.lemmas.Int.{to_z-of_z}
use Rattle.std.specs.Int.{w128}
use lib.IntN.{ℤ, pos}

pub loop-n-preserved : goal.loop-n-preserved
loop-n-preserved c =
    let n : ℤ = get_or c.args.row.now c.loop-n.n-index (pos 0) in
    let fits : FitsSigned w128 n = search rules in
    rw c.in_ok-push.ensures.items (made view entry_json c.args.row.now c.loop-n.entries.items c.in_ok-entry_json.field-0 c.loop-n.n-index (pos 0) c.loop-n.invariant (omega arith) (c.in_ok-entry_json.ensures ∙ ap entry_json (to_z-of_z w128 n fits)))

pub returns : goal.returns
returns c = array_made entry_json c.args.row.now c.loop-n.entries c.loop-n.n-index c.loop-n.invariant c.loop-n-test.false
