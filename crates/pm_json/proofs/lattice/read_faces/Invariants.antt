-- What is left is read after what was read.
use Rattle.std.proofs.Common.{◌≡◌, ◌+◌, ◌≤◌, drop, length, map, true}
use Rattle.std.specs.List.{list_all, sum_by}
use Rattle.serde_json.specs.View.{items_view}
use Rattle.pm_types.specs.Forms.{are_indices}
use Rattle.pm_json.specs.Readings.{faces_from, with_front}
use Rattle.pm_json.proofs.lattice.read_faces.Given as goal
use Rattle.pm_limits.specs.Limits.{most_faces, most_indices, most_places}

abbrev pub invariant-loop-item : goal.invariant-loop-item
invariant-loop-item l = record {
  read : faces_from l.before l.places_before (items_view l.items)
      ≡ with_front (map (λ r. r.items) l.faces.items) (faces_from (l.before + length l.faces.items) l.places (items_view (drop l.item-index l.items)));
  few : l.before + length l.faces.items ≤ most_faces;
  counted : l.places ≡ l.places_before + sum_by length (map (λ r. r.items) l.faces.items);
  places : l.places ≤ most_places;
  indices : list_all (are_indices most_indices 0) (map (λ r. r.items) l.faces.items) ≡ true;
}
