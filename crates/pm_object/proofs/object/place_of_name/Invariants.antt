use Rattle.std.proofs.Common.{◌≡◌, drop}
use Rattle.std.specs.Prelude.{map, string_bytes}
use Rattle.pm_object.specs.State.{place_from}
use Rattle.pm_object.proofs.object.place_of_name.Given as goal

abbrev pub invariant-loop-i : goal.invariant-loop-i
invariant-loop-i l = place_from 0 l.name (map string_bytes l.names) ≡ place_from l.i l.name (map string_bytes (drop l.i l.names))
