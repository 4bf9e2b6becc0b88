-- As many rows as were read stand in the list.
use Rattle.std.proofs.Common.{◌≡◌, map, take}
use Rattle.serde_json.specs.View.{view}
use Rattle.pm_files.specs.ValueJson.{row_json}
use Rattle.pm_files.proofs.value.matrix_rows.Given as goal

abbrev pub invariant-loop-i : goal.invariant-loop-i
invariant-loop-i l = map view l.rows.items ≡ take l.i (map row_json l.m.rows)
