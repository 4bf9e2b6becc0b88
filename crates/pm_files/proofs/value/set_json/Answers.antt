-- Each turn puts one index more behind the others.
use Rattle.pm_files.proofs.value.set_json.Goals as goal
use Rattle.pm_files.proofs.Lists.{array_made}
use Rattle.pm_files.specs.ValueJson.{index_json}
use Rattle.pm_geom.proofs.Copies.{made}
use Rattle.serde_json.specs.View.{view}
use Rattle.std.proofs.Common.{arith}

pub loop-j-preserved : goal.loop-j-preserved
loop-j-preserved c = rw c.in_ok-push.ensures.items (made view index_json c.args.set.now c.loop-j.indices.items c.from.result c.loop-j.j-index 0 c.loop-j.invariant (omega arith) c.from.ensures)

pub returns : goal.returns
returns c = array_made index_json c.args.set.now c.loop-j.indices c.loop-j.j-index c.loop-j.invariant c.loop-j-test.false
