-- What is left is read after what was read.
use Rattle.std.proofs.Common.{◌≡◌, drop, length}
use Rattle.serde_json.specs.View.{items_view}
use Rattle.pm_json.specs.Readings.{later_rows_from, with_front}
use Rattle.pm_json.proofs.matrix.read_later_rows.Given as goal

abbrev pub invariant-loop-item : goal.invariant-loop-item
invariant-loop-item l = (l.matrix.cols ≡ l.fn.matrix.cols)
    × (with_front l.fn.matrix.rows (later_rows_from l.fn.matrix.cols (length l.fn.matrix.rows) (items_view l.items)) ≡ with_front l.matrix.rows (later_rows_from l.fn.matrix.cols (length l.matrix.rows) (items_view (drop l.item-index l.items))))
