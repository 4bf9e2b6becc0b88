use Rattle.pm_lattice.proofs.lattice.place_count.Given as goal
use Rattle.pm_lattice.specs.Closures.{place_count}
use Rattle.std.proofs.Common.{take, ◌*◌, ◌≡◌, ◌≤◌}

abbrev pub invariant-loop-face : goal.invariant-loop-face
invariant-loop-face l = record {
  sum : l.places ≡ place_count (take l.face-index l.faces);
  small : l.places ≤ 4294967296 * l.face-index;
}
