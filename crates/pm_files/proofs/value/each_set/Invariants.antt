-- As many sets as were read stand in the list.
use Rattle.std.proofs.Common.{◌≡◌, map, take}
use Rattle.serde_json.specs.View.{view}
use Rattle.pm_files.specs.ValueJson.{set_json}
use Rattle.pm_files.proofs.value.each_set.Given as goal

abbrev pub invariant-loop-row : goal.invariant-loop-row
invariant-loop-row l = map view l.sets.items ≡ take l.row-index (map (λ r. set_json r.items) l.rows)
