use Rattle.std.proofs.Common.{◌<◌, suc, None, Option, length, subst, sym}
use Rattle.std.specs.Prelude.{slice_index_or}
use Rattle.std.specs.Option.{option_map_or}
use Rattle.pm_plan.specs.declared.track.Link.{Link}
use Rattle.pm_plan.specs.Tracks.{IsTrack}
use Rattle.pm_plan.proofs.Options.{if_some_at}
use Rattle.pm_plan.proofs.Backward.{read_none, read_more, read_all, next_within, next_lower}
use Rattle.pm_plan.proofs.track.chain_to.Goals as goal

pub back-init : goal.back-init
back-init c = record { within = c.requires.here; read = read_none c.args.links.now c.args.last c.new-chain.result.items c.new-chain.ensures.items }

pub back-preserved : goal.back-preserved
back-preserved c =
    let links = c.args.links.now in
    let link = c.in-Some.link in
    let within : link.from < length links = if_some_at c.back.next (λ l. l.from < length links) link c.in-Some.is c.back.invariant.within in
    record {
      within = next_within links c.args.last c.requires link within;
      read = read_more links c.args.last c.back.next link c.back.chain.items c.push.new.self.items c.in-Some.is within c.in_ok-push.ensures.items c.back.invariant.read;
    }

pub back-smaller : goal.back-smaller
back-smaller c =
    let links = c.args.links.now in
    let link = c.in-Some.link in
    let within : link.from < length links = if_some_at c.back.next (λ l. l.from < length links) link c.in-Some.is c.back.invariant.within in
    subst (λ (o : Option Link). option_map_or (λ next. suc next.from) (slice_index_or links link.from None) 0 < option_map_or (λ next. suc next.from) o 0) (sym c.in-Some.is)
    (next_lower links c.args.last c.requires link within)

pub returns : goal.returns
returns c =
    subst (IsTrack c.args.links.now c.args.last) (sym c.reverse.ensures.items)
    (read_all c.args.links.now c.args.last c.back.next c.back.chain.items c.in_default.is c.back.invariant.read)
