-- What is left is listed after what was listed.
use Rattle.std.proofs.Common.{◌≡◌, ◌++◌, map}
use Rattle.serde_json.specs.Data.{string}
use Rattle.serde_json.specs.View.{members_view, view}
use Rattle.pm_files.specs.Files.{stored_keys}
use Rattle.pm_files.proofs.write.stored_keys.Given as goal

abbrev pub invariant-loop-key : goal.invariant-loop-key
invariant-loop-key l = map string (stored_keys l.of l.stored (members_view l.members.entries)) ≡ map view l.keys.items ++ map string (stored_keys l.of l.stored (members_view l.key-iterator))
