-- What is left is read after what was read.
use Rattle.std.proofs.Common.{◌≡◌, ◌≤◌, drop, length, map, true}
use Rattle.std.specs.List.{list_all, sum_by}
use Rattle.serde_json.specs.View.{items_view}
use Rattle.pm_types.specs.Forms.{are_indices}
use Rattle.pm_types.specs.Lists.{lists_of}
use Rattle.pm_json.specs.Readings.{ranks_from, with_front}
use Rattle.pm_json.proofs.lattice.read_ranks.Given as goal
use Rattle.pm_limits.specs.Limits.{most_faces, most_indices, most_places}

abbrev pub invariant-loop-item : goal.invariant-loop-item
invariant-loop-item l = record {
  read : ranks_from 0 0 (items_view l.items) ≡ with_front (map lists_of l.ranks.items) (ranks_from l.count l.places (items_view (drop l.item-index l.items)));
  counted : l.count ≡ sum_by length (map lists_of l.ranks.items);
  placed : l.places ≡ sum_by (sum_by length) (map lists_of l.ranks.items);
  few : l.count ≤ most_faces;
  places : l.places ≤ most_places;
  indices : list_all (list_all (are_indices most_indices 0)) (map lists_of l.ranks.items) ≡ true;
}
