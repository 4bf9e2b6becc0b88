-- What is left is put into the set so far.
use Rattle.std.proofs.Common.{◌≡◌, [], drop}
use Rattle.serde_json.specs.View.{items_view}
use Rattle.pm_json.specs.Readings.{set_from}
use Rattle.pm_json.proofs.sets.read_set.Given as goal

abbrev pub invariant-loop-item : goal.invariant-loop-item
invariant-loop-item l = set_from [] (items_view l.items) ≡ set_from l.set.items (items_view (drop l.item-index l.items))
