-- Each turn puts one property more behind the others, unless it is among them.
use Rattle.std.proofs.Common.{ap, sym, ◌∙◌, ◌++◌, ◌∷◌, [], option_map}
use Rattle.pm_props.specs.Places.{same_property}
use Rattle.pm_props.specs.Sets.{has, only, set_of, union}
use Rattle.serde_json.specs.View.{items_view}
use Rattle.pm_filing.specs.Profiles.{different_read, stored_property}
use Rattle.pm_filing.proofs.HeldSets.{set_of-has, set_of-more}
use Rattle.pm_filing.proofs.ItemTurns.{different-fresh, turn-item, turn-repeated}
use Rattle.pm_filing.proofs.profile.stored_among.Goals as goal

pub returns-then-contains : goal.returns-then-contains
returns-then-contains c =
    let ps = c.loop-name.invariant.0 in
    let read = stored_property c.args.of c.args.held in
    sym (ap (option_map set_of) (turn-repeated same_property read c.args.list.now c.loop-name.name-index c.name-item.result ps (different_read same_property read (items_view c.args.list.now)) c.loop-name-test.true c.name-item.is c.loop-name.invariant.1 c.in-Some.p (sym c.in-Some.ensures)
    (sym (set_of-has ps c.in-Some.p) ∙ ap (λ s. has s c.in-Some.p) (sym c.loop-name.invariant.3) ∙ sym c.contains.ensures ∙ c.if-contains.true)))

pub loop-name-preserved : goal.loop-name-preserved
loop-name-preserved c =
    let ps = c.loop-name.invariant.0 in
    let read = stored_property c.args.of c.args.held in (
      ps ++ c.in-Some.p ∷ [],
      turn-item same_property read c.args.list.now c.loop-name.name-index c.name-item.result ps (different_read same_property read (items_view c.args.list.now)) c.loop-name-test.true c.name-item.is c.loop-name.invariant.1 c.in-Some.p (sym c.in-Some.ensures),
      different-fresh same_property ps c.in-Some.p c.loop-name.invariant.2 (sym (set_of-has ps c.in-Some.p) ∙ ap (λ s. has s c.in-Some.p) (sym c.loop-name.invariant.3) ∙ sym c.contains.ensures ∙ c.if-contains.false),
      c.with-stored.ensures.value ∙ ap (λ s. union s (only c.in-Some.p)) c.loop-name.invariant.3 ∙ sym (set_of-more ps c.in-Some.p),
    )
