use Rattle.pm_clients_counts.proofs.ZeroPlaces.{places_form, so_far_left, so_far_more}
use Rattle.pm_clients_counts.proofs.firsts.zero_places.Goals as goal
use Rattle.pm_clients_counts.proofs.firsts.zero_places.Goals.{then-begins_with_zero+in_ok-push, else-begins_with_zero}
use Rattle.pm_clients_counts.specs.Places.{AreZeroPlaces}
use Rattle.std.proofs.Common.{ap, arith, length, subst, sym, true≢false, ◌∙◌, ◌≡◌}

pub loop-i-preserved : goal.loop-i-preserved
loop-i-preserved c =
    let rows = c.args.matrix.now.rows in
    let few = c.requires.few in
    elim c.if-begins_with_zero.branch [
      | then-begins_with_zero+in_ok-push w ↦ so_far_more rows c.loop-i.i c.loop-i.places.items c.loop-i.invariant c.if-begins_with_zero.places.items (c.begins_with_zero.ensures.0 w.if-begins_with_zero.true) (omega arith) (ap (λ p. p.items) w.places-is ∙ w.in_ok-push.ensures.items)
      | else-begins_with_zero w ↦ so_far_left rows c.loop-i.i c.loop-i.places.items c.loop-i.invariant c.if-begins_with_zero.places.items (λ z. true≢false (sym (c.begins_with_zero.ensures.1 z) ∙ w.if-begins_with_zero.false)) (ap (λ p. p.items) w.places-is)
    ]

pub returns-clause-places : goal.returns-clause-places
returns-clause-places c =
    let last : c.loop-i.i ≡ length c.args.matrix.now.rows = omega arith in
    subst (λ n. AreZeroPlaces c.args.matrix.now.rows n c.loop-i.places.items) last c.loop-i.invariant.are

pub returns-clause-form : goal.returns-clause-form
returns-clause-form c =
    let few = c.requires.few in
    let low = c.loop-i.invariant.few in
    places_form c.args.matrix.now.rows c.loop-i.i c.loop-i.places.items c.loop-i.invariant.are (omega arith) (omega arith)
