-- As many entries as were read stand in the list.
use Rattle.std.proofs.Common.{◌≡◌, map, take}
use Rattle.serde_json.specs.View.{view}
use Rattle.pm_files.specs.ValueJson.{fraction_json}
use Rattle.pm_files.proofs.value.row_json.Given as goal

abbrev pub invariant-loop-q : goal.invariant-loop-q
invariant-loop-q l = map view l.entries.items ≡ take l.q-index (map fraction_json l.row)
