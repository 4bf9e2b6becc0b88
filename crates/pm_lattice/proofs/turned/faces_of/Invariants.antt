use Rattle.pm_lattice.proofs.turned.faces_of.Given as goal
use Rattle.pm_lattice.specs.Turned.{IsShared}
use Rattle.std.proofs.Common.{[], get_or, length, ℕ, ◌<◌, ◌≡◌}

abbrev pub invariant-loop-set : goal.invariant-loop-set
invariant-loop-set l = record {
  as_many : length l.faces.items ≡ l.set-index;
  each : (k : ℕ) → k < l.set-index → IsShared l.columns (get_or l.sets k []) (get_or l.faces.items k []);
}
