-- What is left is added.
use Rattle.std.proofs.Common.{◌≡◌, ◌+◌, drop, length, map}
use Rattle.std.specs.List.{sum_by}
use Rattle.pm_json.proofs.lattice.place_count.Given as goal

abbrev pub invariant-loop-face : goal.invariant-loop-face
invariant-loop-face l = sum_by length (map (λ face. face.items) l.faces) ≡ l.places + sum_by length (map (λ face. face.items) (drop l.face-index l.faces))
