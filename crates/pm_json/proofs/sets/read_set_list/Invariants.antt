-- What is left is read after what was read.
use Rattle.std.proofs.Common.{◌≡◌, drop, length, map}
use Rattle.serde_json.specs.View.{items_view}
use Rattle.pm_json.specs.Readings.{sets_from}
use Rattle.pm_json.proofs.Readings.{with_front_sets}
use Rattle.pm_json.proofs.sets.read_set_list.Given as goal

abbrev pub invariant-loop-i : goal.invariant-loop-i
invariant-loop-i l = sets_from 0 (items_view l.items) ≡ with_front_sets (map (λ r. r.items) l.rows.items) (sets_from (length l.rows.items) (items_view (drop l.i l.items)))
