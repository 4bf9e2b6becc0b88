use Rattle.pm_lattice.proofs.ListTurns.{AreLevels}
use Rattle.pm_lattice.proofs.lists.by_rank.Given as goal
use Rattle.std.proofs.Common.{take}

abbrev pub invariant-loop-place : goal.invariant-loop-place
invariant-loop-place l = AreLevels l.top (take l.place l.faces) (take l.place l.ranks) l.levels.items
