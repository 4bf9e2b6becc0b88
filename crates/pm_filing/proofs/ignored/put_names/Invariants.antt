-- What is left is named after what was named.
use Rattle.std.proofs.Common.{◌≡◌, ◌++◌, map, string_bytes}
use Rattle.serde_json.specs.View.{members_view}
use Rattle.pm_filing.specs.FileParts.{names_in_programs}
use Rattle.pm_filing.proofs.ignored.put_names.Given as goal

abbrev pub invariant-loop-key : goal.invariant-loop-key
invariant-loop-key l =
    map string_bytes l.fn.names.items ++ names_in_programs (members_view l.keys.entries)
    ≡ map string_bytes l.names.items ++ names_in_programs (members_view l.key-iterator)
