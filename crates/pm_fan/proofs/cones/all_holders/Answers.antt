use Rattle.pm_fan.proofs.Turns.{one_index_more}
use Rattle.pm_fan.proofs.cones.all_holders.Goals as goal
use Rattle.pm_fan.specs.Fans.{has_members, holders_from}
use Rattle.std.proofs.Common.{map}
use Rattle.std.specs.List.{filter}

pub loop-index-preserved : goal.loop-index-preserved
loop-index-preserved c = one_index_more (λ s. s.items) (holders_from 0 (filter has_members (map (λ s. s.items) c.args.sets.now))) c.loop-index.index c.loop-index.cones.items c.push.new.self.items c.in_ok-holders.field-0 c.loop-index.invariant c.in_ok-push.ensures.items c.in_ok-holders.ensures
