-- As many numbers as were read stand in the list.
use Rattle.std.proofs.Common.{◌≡◌, map, take}
use Rattle.serde_json.specs.View.{view}
use Rattle.pm_files.specs.ValueJson.{whole_json}
use Rattle.pm_files.proofs.value.counts_json.Given as goal

abbrev pub invariant-loop-k : goal.invariant-loop-k
invariant-loop-k l = map view l.numbers.items ≡ take l.k-index (map whole_json l.counts)
