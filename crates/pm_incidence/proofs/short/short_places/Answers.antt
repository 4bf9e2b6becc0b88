use Rattle.pm_incidence.proofs.Places.{places_next}
use Rattle.pm_incidence.specs.Incidence.{places_from}
use Rattle.pm_incidence.proofs.short.short_places.Goals as goal
use Rattle.pm_incidence.proofs.short.short_places.Goals.{then-short_vanishes+in_ok-push, else-short_vanishes}
use Rattle.std.proofs.Common.{cond, rules, [], ◌∷◌, ◌++◌, ◌≡◌}

pub loop-j-preserved : goal.loop-j-preserved
loop-j-preserved c =
    let on = c.short_vanishes.result in
    let more : c.if-short_vanishes.places.items ≡ cond on (c.loop-j.places.items ++ c.loop-j.j ∷ []) c.loop-j.places.items = elim c.if-short_vanishes.branch [
      | then-short_vanishes+in_ok-push w ↦ rw (w.if-short_vanishes.true, w.places-is) w.in_ok-push.ensures.items
      | else-short_vanishes w ↦ rw w.if-short_vanishes.false (search rules)
    ] in
    places_next c.args.facet.now c.args.vertices.now c.loop-j.j c.index-vertices-j.result (places_from 0 c.args.facet.now c.args.vertices.now) c.loop-j.places.items c.if-short_vanishes.places.items on c.loop-j-test.true c.index-vertices-j.is
    c.short_vanishes.ensures c.loop-j.invariant more
