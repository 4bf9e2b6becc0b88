use Rattle.pm_refine.proofs.RaysMade.{set_next}
use Rattle.pm_refine.proofs.rays.ray_set.Goals as goal
use Rattle.pm_refine.proofs.rays.ray_set.Goals.{then-contains+in_ok-push, else-contains}
use Rattle.pm_refine.specs.RaySets.{places_from}
use Rattle.std.proofs.Common.{cond, rules, [], ◌∷◌, ◌++◌, ◌≡◌}

pub loop-j-preserved : goal.loop-j-preserved
loop-j-preserved c =
    let more : c.if-contains.places.items ≡ cond c.contains.result (c.loop-j.places.items ++ c.loop-j.j ∷ []) c.loop-j.places.items = elim c.if-contains.branch [
      | then-contains+in_ok-push w ↦ rw (w.if-contains.true, w.places-is) w.in_ok-push.ensures.items
      | else-contains w ↦ rw w.if-contains.false (search rules)
    ] in
    set_next c.args.rays.now c.args.all.now c.loop-j.j c.index-all-j.result (places_from 0 c.args.rays.now c.args.all.now) c.loop-j.places.items c.if-contains.places.items c.contains.result c.loop-j-test.true c.index-all-j.is c.contains.ensures.value c.loop-j.invariant more
