-- As many marks as were read stand in the list.
use Rattle.std.proofs.Common.{◌≡◌, map, string_bytes, take}
use Rattle.serde_json.specs.View.{view}
use Rattle.pm_files.specs.Files.{mark_json}
use Rattle.pm_files.proofs.write.marks_json.Given as goal

abbrev pub invariant-loop-mark : goal.invariant-loop-mark
invariant-loop-mark l = map view l.marks.items ≡ take l.mark-index (map (λ m. mark_json (string_bytes m.0, m.1)) l.failed)
