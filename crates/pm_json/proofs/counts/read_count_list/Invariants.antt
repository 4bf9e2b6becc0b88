-- What is left is read after what was read.
use Rattle.std.proofs.Common.{◌≡◌, ◌≤◌, drop, length, true}
use Rattle.std.specs.List.{list_all}
use Rattle.pm_types.specs.Forms.{has_64_bits}
use Rattle.serde_json.specs.View.{items_view}
use Rattle.pm_json.specs.Readings.{counts_from, with_front}
use Rattle.pm_json.proofs.counts.read_count_list.Given as goal
use Rattle.pm_limits.specs.Limits.{most_rows}

abbrev pub invariant-loop-item : goal.invariant-loop-item
invariant-loop-item l = (counts_from 0 (items_view l.items) ≡ with_front l.counts.items (counts_from (length l.counts.items) (items_view (drop l.item-index l.items))))
    × (length l.counts.items ≤ most_rows) × (list_all has_64_bits l.counts.items ≡ true)
