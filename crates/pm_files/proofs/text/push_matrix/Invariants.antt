-- What is left is written behind what was written.
use Rattle.std.proofs.Common.{drop, map, string_bytes, ◌++◌, ◌≡◌, not, ◌==◌}
use Rattle.serde_json.specs.View.{items_of}
use Rattle.serde_json.specs.Written.{compact_text, items_text}
use Rattle.pm_files.specs.ValueJson.{array_of, row_json}
use Rattle.pm_files.proofs.text.push_matrix.Given as goal

abbrev pub invariant-loop-i : goal.invariant-loop-i
invariant-loop-i l = string_bytes l.fn.text ++ compact_text (array_of (map row_json l.m.rows)) ≡ string_bytes l.text ++ items_text (not (l.i == 0)) (items_of (map row_json (drop l.i l.m.rows)))
