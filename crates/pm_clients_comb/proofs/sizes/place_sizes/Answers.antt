use Rattle.pm_clients_comb.proofs.SizeTurns.{next_size}
use Rattle.pm_clients_comb.proofs.sizes.place_sizes.Goals as goal

pub loop-place-preserved : goal.loop-place-preserved
loop-place-preserved c = next_size c.args.sets.now.rows c.loop-place.place c.sets_with.result c.loop-place.sizes.items c.push.new.self.items c.loop-place.invariant c.sets_with.ensures.count c.sets_with.ensures.few c.in_ok-push.ensures.items
