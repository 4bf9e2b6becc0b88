use Rattle.pm_bits.specs.Sets.{members}
use Rattle.pm_graph.proofs.face_graph.member_lists.Given as goal
use Rattle.std.proofs.Common.{map, take, ◌≡◌}

abbrev pub invariant-loop-row : goal.invariant-loop-row
invariant-loop-row l = map (λ list. list.items) l.lists.items ≡ map members (take l.row-index l.rows)
