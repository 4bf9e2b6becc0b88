-- What is left is written after what was written.
use Rattle.std.proofs.Common.{map, string_bytes, ◌++◌, ◌≡◌, drop}
use Rattle.std.specs.Prelude.{flat_map}
use Rattle.pm_script.specs.Replies.{spaced_name}
use Rattle.pm_script.proofs.reply.push_names.Given as goal

abbrev pub invariant-loop-name : goal.invariant-loop-name
invariant-loop-name l = string_bytes l.fn.text ++ flat_map spaced_name (map string_bytes l.names) ≡ string_bytes l.text ++ flat_map spaced_name (map string_bytes (drop l.name-index l.names))
