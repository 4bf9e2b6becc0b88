use Rattle.pm_clients_comb.proofs.SizeTurns.{next_count, set_ascends}
use Rattle.pm_clients_comb.proofs.sizes.sets_with.Goals as goal
use Rattle.pm_clients_comb.proofs.sizes.sets_with.Goals.{then-has_place, else-has_place}
use Rattle.std.proofs.Common.{refl, ◌+◌, ◌≡◌}
use Rattle.std.specs.Prelude.{if◌then◌else◌}

pub has_place-requires : goal.has_place-requires
has_place-requires c = (
  c.args.sets.now.cols,
  set_ascends (λ r. r.items) c.rows-set-items.result.now c.args.sets.now.rows c.args.sets.now.cols c.loop-set.set-index c.set-item.result c.deref.result.now c.rows-set-items.ensures c.requires.form c.loop-set-test.true c.set-item.is c.deref.ensures.value,
)

pub loop-set-preserved : goal.loop-set-preserved
loop-set-preserved c =
    let more : c.if-has_place.count ≡ (if c.has_place.result then c.loop-set.count + 1 else c.loop-set.count) = elim c.if-has_place.branch [
      | then-has_place w ↦ rw (w.if-has_place.true, w.count-is) refl
      | else-has_place w ↦ rw (w.if-has_place.false, w.count-is) refl
    ] in
    next_count (λ r. r.items) c.rows-set-items.result.now c.loop-set.set-index c.args.place c.loop-set.count c.if-has_place.count c.set-item.result c.deref.result.now c.has_place.result c.loop-set-test.true c.set-item.is c.deref.ensures.value c.has_place.ensures more c.loop-set.invariant
