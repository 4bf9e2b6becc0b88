-- As many indices as were read stand in the list.
use Rattle.std.proofs.Common.{◌≡◌, map, take}
use Rattle.serde_json.specs.View.{view}
use Rattle.pm_files.specs.ValueJson.{index_json}
use Rattle.pm_files.proofs.value.set_json.Given as goal

abbrev pub invariant-loop-j : goal.invariant-loop-j
invariant-loop-j l = map view l.indices.items ≡ take l.j-index (map index_json l.set)
