-- What is left is read after what was read.
use Rattle.std.proofs.Common.{◌≡◌, drop, length}
use Rattle.serde_json.specs.View.{items_view}
use Rattle.pm_json.specs.Readings.{entries_from, with_front}
use Rattle.pm_json.proofs.matrix.read_entries.Given as goal

abbrev pub invariant-loop-item : goal.invariant-loop-item
invariant-loop-item l = entries_from l.most 0 (items_view l.items) ≡ with_front l.row.items (entries_from l.most (length l.row.items) (items_view (drop l.item-index l.items)))
