-- Each turn puts one mark more behind the others, unless its label is among theirs.
use Rattle.std.proofs.Common.{ap, sym, ◌∙◌, ◌++◌, ◌∷◌, [], string_bytes, bytes_eq}
use Rattle.std.proofs.lemmas.List.{map-append}
use Rattle.std.specs.List.{list_any}
use Rattle.serde_json.specs.View.{items_view}
use Rattle.pm_filing.specs.Profiles.{different_read, mark_of, same_label}
use Rattle.pm_filing.specs.ReadingViews.{marks_seen}
use Rattle.pm_filing.proofs.ItemTurns.{different-fresh, turn-item, turn-repeated}
use Rattle.pm_filing.proofs.profile.marks_among.Goals as goal

pub returns-then-has_label-clause-fault : goal.returns-then-has_label-clause-fault
returns-then-has_label-clause-fault c =
    let marks = marks_seen c.loop-item.marks.items in
    λ other. (
      c.bad_profile-then-has_label.ensures other,
      turn-repeated same_label mark_of c.args.list.now c.loop-item.item-index c.item-item.result marks (different_read same_label mark_of (items_view c.args.list.now)) c.loop-item-test.true c.item-item.is c.loop-item.invariant.0 (c.in-Some.mark.0.now, c.in-Some.mark.1) (sym c.in-Some.ensures)
          (ap (λ ms. list_any (λ m. bytes_eq m.0 c.in-Some.mark.0.now) (marks_seen ms)) (sym c.deref.ensures.value) ∙ sym c.has_label.ensures ∙ c.if-has_label.true),
    )

pub loop-item-preserved : goal.loop-item-preserved
loop-item-preserved c =
    let marks = marks_seen c.loop-item.marks.items in
    let k = c.in-Some.mark.1 in
    let more = ap marks_seen c.in_ok-push.ensures.items ∙ map-append (λ m. (string_bytes m.0, m.1)) c.loop-item.marks.items ((c.in_ok-from_str.field-0, k) ∷ []) ∙ ap (λ text. marks ++ (text, k) ∷ []) c.in_ok-from_str.ensures.ok in
    rw more (
      turn-item same_label mark_of c.args.list.now c.loop-item.item-index c.item-item.result marks (different_read same_label mark_of (items_view c.args.list.now)) c.loop-item-test.true c.item-item.is c.loop-item.invariant.0 (c.in-Some.mark.0.now, k) (sym c.in-Some.ensures),
      different-fresh same_label marks (c.in-Some.mark.0.now, k) c.loop-item.invariant.1
          (ap (λ ms. list_any (λ m. bytes_eq m.0 c.in-Some.mark.0.now) (marks_seen ms)) (sym c.deref.ensures.value) ∙ sym c.has_label.ensures ∙ c.if-has_label.false),
    )
