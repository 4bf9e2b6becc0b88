-- Each turn puts one number more behind the others.
use Rattle.pm_files.proofs.value.counts_json.Goals as goal
use Rattle.pm_files.proofs.Lists.{array_made}
use Rattle.pm_files.specs.ValueJson.{whole_json}
use Rattle.pm_geom.proofs.Copies.{made}
use Rattle.serde_json.specs.View.{view}
use Rattle.std.proofs.Common.{FitsSigned, ap, arith, get_or, rules, ◌∙◌}
use Rattle.std.proofs.lemmas.Int.{to_z-of_z}
use Rattle.std.specs.Int.{w64}
use lib.IntN.{ℤ, pos}

pub loop-k-preserved : goal.loop-k-preserved
loop-k-preserved c =
    let k : ℤ = get_or c.args.counts.now c.loop-k.k-index (pos 0) in
    let fits : FitsSigned w64 k = search rules in
    rw c.in_ok-push.ensures.items (made view whole_json c.args.counts.now c.loop-k.numbers.items c.whole_json.result c.loop-k.k-index (pos 0) c.loop-k.invariant (omega arith) (c.whole_json.ensures ∙ ap whole_json (to_z-of_z w64 k fits)))

pub returns : goal.returns
returns c = array_made whole_json c.args.counts.now c.loop-k.numbers c.loop-k.k-index c.loop-k.invariant c.loop-k-test.false
