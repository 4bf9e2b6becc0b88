-- What is left is read after what was read.
use Rattle.std.proofs.Common.{◌≡◌, drop, length}
use Rattle.serde_json.specs.View.{items_view}
use Rattle.pm_json.specs.Readings.{later_row_from, with_front}
use Rattle.pm_json.proofs.matrix.read_later_row.Given as goal

abbrev pub invariant-loop-item : goal.invariant-loop-item
invariant-loop-item l = later_row_from l.cols 0 (items_view l.items) ≡ with_front l.row.items (later_row_from l.cols (length l.row.items) (items_view (drop l.item-index l.items)))
