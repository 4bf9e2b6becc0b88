-- What is left is written behind what was written.
use Rattle.std.proofs.Common.{drop, map, string_bytes, ◌++◌, ◌≡◌, not, ◌==◌}
use Rattle.serde_json.specs.View.{items_of}
use Rattle.serde_json.specs.Written.{compact_text, items_text}
use Rattle.pm_files.specs.ValueJson.{fraction_json, row_json}
use Rattle.pm_files.proofs.text.push_row.Given as goal

abbrev pub invariant-loop-j : goal.invariant-loop-j
invariant-loop-j l = string_bytes l.fn.text ++ compact_text (row_json l.row) ≡ string_bytes l.text ++ items_text (not (l.j == 0)) (items_of (map fraction_json (drop l.j l.row)))
