-- The index goes behind the places so far.
use Rattle.std.proofs.Common.{◌≡◌, ◌++◌, take, drop}
use Rattle.pm_json.specs.Readings.{with_index}
use Rattle.pm_json.proofs.sets.place_of.Given as goal

abbrev pub invariant-loop-i : goal.invariant-loop-i
invariant-loop-i l = with_index l.j l.set ≡ take l.i l.set ++ with_index l.j (drop l.i l.set)
