use Rattle.pm_beneath.proofs.cells.count_members.Given as goal
use Rattle.pm_beneath.specs.CellLists.{set_places}
use Rattle.std.proofs.Common.{◌≡◌, ◌≤◌}
use Rattle.std.specs.Prelude.{length, take}

abbrev pub invariant-loop-k : goal.invariant-loop-k
invariant-loop-k l = (l.count ≡ length (set_places l.zeros (take l.k-index l.cell))) × (l.count ≤ l.k-index)
