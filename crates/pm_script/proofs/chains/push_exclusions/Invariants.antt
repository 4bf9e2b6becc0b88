-- What is left is written after what was written.
use Rattle.std.proofs.Common.{string_bytes, ◌++◌, ◌≡◌, drop}
use Rattle.std.specs.Prelude.{flat_map}
use Rattle.pm_script.specs.Replies.{names_seen, excluded_text}
use Rattle.pm_script.proofs.chains.push_exclusions.Given as goal

abbrev pub invariant-loop-e : goal.invariant-loop-e
invariant-loop-e l = string_bytes l.fn.text ++ flat_map (excluded_text (names_seen l.names)) l.excluded ≡ string_bytes l.text ++ flat_map (excluded_text (names_seen l.names)) (drop l.e-index l.excluded)
