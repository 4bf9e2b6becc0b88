-- What is left, and what was seen.
use Rattle.std.proofs.Common.{◌≡◌, drop, max}
use Rattle.pm_json.specs.Readings.{above_set}
use Rattle.pm_json.proofs.sets.above_set.Given as goal

abbrev pub invariant-loop-j : goal.invariant-loop-j
invariant-loop-j l = above_set l.set ≡ max l.above (above_set (drop l.j-index l.set))
