-- What is left is written after what was written.
use Rattle.std.proofs.Common.{string_bytes, ◌++◌, ◌≡◌, drop}
use Rattle.std.specs.Prelude.{flat_map}
use Rattle.pm_script.specs.Replies.{evidence_line, names_seen}
use Rattle.pm_script.proofs.shown.push_evidence.Given as goal

abbrev pub invariant-loop-e : goal.invariant-loop-e
invariant-loop-e l = string_bytes l.fn.text ++ flat_map (evidence_line (names_seen l.names)) l.excluded ≡ string_bytes l.text ++ flat_map (evidence_line (names_seen l.names)) (drop l.e-index l.excluded)
