use Rattle.pm_lattice.proofs.lists.member_lists.Given as goal
use Rattle.pm_bits.specs.Sets.{members}
use Rattle.std.proofs.Common.{map, take, ◌≡◌}

abbrev pub invariant-loop-face : goal.invariant-loop-face
invariant-loop-face l = map (λ face. face.items) l.lists.items ≡ map members (take l.face-index l.faces)
