-- What is left is read after what was read.
use Rattle.std.proofs.Common.{◌≡◌, drop, length, map}
use Rattle.serde_json.specs.View.{items_view}
use Rattle.pm_json.specs.Readings.{nodes_from, with_front}
use Rattle.pm_json.proofs.edges.read_nodes.Given as goal

abbrev pub invariant-loop-item : goal.invariant-loop-item
invariant-loop-item l = nodes_from 0 (items_view l.items) ≡ with_front (map (λ r. r.items) l.rows.items) (nodes_from (length l.rows.items) (items_view (drop l.item-index l.items)))
