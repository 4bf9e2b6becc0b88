-- What is left is named after what was named.
use Rattle.std.proofs.Common.{◌≡◌, ◌++◌, map, string_bytes}
use Rattle.serde_json.specs.View.{members_view}
use Rattle.pm_filing.specs.FileParts.{names_read_over}
use Rattle.pm_filing.proofs.ignored.names_read_over.Given as goal

abbrev pub invariant-loop-key : goal.invariant-loop-key
invariant-loop-key l = names_read_over l.of (members_view l.members.entries) ≡ map string_bytes l.names.items ++ names_read_over l.of (members_view l.key-iterator)
