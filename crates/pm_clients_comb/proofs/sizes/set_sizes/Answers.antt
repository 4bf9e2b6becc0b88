use Rattle.pm_clients_comb.proofs.SizeTurns.{set_sizes_are}
use Rattle.pm_clients_comb.proofs.sizes.set_sizes.Goals as goal
use Rattle.std.proofs.Common.{arith}

pub returns : goal.returns
returns c = set_sizes_are (λ r. r.items) c.rows-set-items.result.now c.loop-set.sizes.items c.loop-set.set-index c.args.sets.now.rows (omega arith) c.loop-set.invariant c.rows-set-items.ensures
