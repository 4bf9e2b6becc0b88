-- As many entries as were read stand in the list.
use Rattle.std.proofs.Common.{◌≡◌, map, take}
use Rattle.serde_json.specs.View.{view}
use Rattle.pm_files.specs.EvidenceJson.{entry_json}
use Rattle.pm_files.proofs.evidence.whole_row_json.Given as goal

abbrev pub invariant-loop-n : goal.invariant-loop-n
invariant-loop-n l = map view l.entries.items ≡ take l.n-index (map entry_json l.row)
