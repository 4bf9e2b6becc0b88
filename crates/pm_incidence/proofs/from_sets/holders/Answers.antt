use Rattle.pm_incidence.proofs.TurnedSets.{holders_next}
use Rattle.pm_incidence.proofs.from_sets.holders.Goals as goal
use Rattle.pm_incidence.proofs.from_sets.holders.Goals.{else-contains, then-contains+in_ok-push}
use Rattle.pm_incidence.specs.FromSets.{holders_from}
use Rattle.std.proofs.Common.{cond, map, rules, [], ◌++◌, ◌∷◌, ◌≡◌}

pub loop-i-preserved : goal.loop-i-preserved
loop-i-preserved c =
    let more : c.if-contains.places.items ≡ cond c.contains.result (c.loop-i.places.items ++ c.loop-i.i ∷ []) c.loop-i.places.items = elim c.if-contains.branch [
      | then-contains+in_ok-push w ↦ rw (w.if-contains.true, w.places-is) w.in_ok-push.ensures.items
      | else-contains w ↦ rw w.if-contains.false (search rules)
    ] in
    holders_next (λ r. r.items) c.args.sets.now c.args.index c.loop-i.i c.index-sets-i.result (holders_from 0 (map (λ r. r.items) c.args.sets.now) c.args.index) c.loop-i.places.items c.if-contains.places.items c.contains.result c.loop-i-test.true c.index-sets-i.is (rw c.deref.ensures.value at c.contains.ensures.value) c.loop-i.invariant more
