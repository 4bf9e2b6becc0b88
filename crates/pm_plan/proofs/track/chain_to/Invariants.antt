use Rattle.std.proofs.Common.{◌<◌, ◌++◌, List, length, suc, IfSome, reverse}
use Rattle.std.specs.Option.{option_map_or}
use Rattle.pm_props.specs.declared.kind.RuleId.{RuleId}
use Rattle.pm_plan.specs.Tracks.{IsTrack}
use Rattle.pm_plan.proofs.track.chain_to.Given as goal

-- what leads up to the next link, and then what is read so far in reverse, is the track
abbrev pub invariant-back : goal.invariant-back
invariant-back l = record {
  within : IfSome l.next (λ link. link.from < length l.links);
  read : (front : List RuleId) → IsTrack l.links l.next front → IsTrack l.links l.fn.last (front ++ reverse l.chain.items);
}

abbrev pub decreases-back : goal.decreases-back
decreases-back l = option_map_or (λ link. suc link.from) l.next 0
