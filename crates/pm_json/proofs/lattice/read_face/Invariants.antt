-- What is left is put into the face so far.
use Rattle.std.proofs.Common.{◌≡◌, ◌+◌, ◌≤◌, [], drop, length, true}
use Rattle.serde_json.specs.View.{items_view}
use Rattle.pm_types.specs.Forms.{are_indices}
use Rattle.pm_json.specs.Readings.{face_from}
use Rattle.pm_json.proofs.lattice.read_face.Given as goal
use Rattle.pm_limits.specs.Limits.{most_indices, most_places}

abbrev pub invariant-loop-item : goal.invariant-loop-item
invariant-loop-item l = (face_from l.before [] (items_view l.items) ≡ face_from (l.before + length l.face.items) l.face.items (items_view (drop l.item-index l.items)))
    × (l.before + length l.face.items ≤ most_places) × (are_indices most_indices 0 l.face.items ≡ true)
