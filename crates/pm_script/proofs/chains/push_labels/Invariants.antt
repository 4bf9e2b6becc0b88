-- What is left is written after what was written.
use Rattle.std.proofs.Common.{string_bytes, ◌++◌, ◌≡◌, drop}
use Rattle.std.specs.Prelude.{flat_map}
use Rattle.pm_script.specs.Replies.{names_seen, spaced_label}
use Rattle.pm_script.proofs.chains.push_labels.Given as goal

abbrev pub invariant-loop-id : goal.invariant-loop-id
invariant-loop-id l = string_bytes l.fn.text ++ flat_map (spaced_label (names_seen l.names)) l.chain ≡ string_bytes l.text ++ flat_map (spaced_label (names_seen l.names)) (drop l.id-index l.chain)
