-- As many rows as were read stand in the list.
use Rattle.std.proofs.Common.{◌≡◌, map, take}
use Rattle.serde_json.specs.View.{view}
use Rattle.pm_files.specs.EvidenceJson.{whole_row_json}
use Rattle.pm_files.proofs.evidence.whole_rows_json.Given as goal

abbrev pub invariant-loop-row : goal.invariant-loop-row
invariant-loop-row l = map view l.items.items ≡ take l.row-index (map whole_row_json l.rows)
