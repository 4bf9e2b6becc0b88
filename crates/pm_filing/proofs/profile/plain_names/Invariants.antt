-- What is left is named behind what was named.
use Rattle.std.proofs.Common.{◌≡◌, ◌++◌, drop, length, map, string_bytes}
use Rattle.serde_json.specs.View.{items_view}
use Rattle.pm_filing.specs.Profiles.{plain_names_from}
use Rattle.pm_filing.proofs.profile.plain_names.Given as goal

abbrev pub invariant-loop-program : goal.invariant-loop-program
invariant-loop-program l = plain_names_from 0 (items_view l.list) ≡ map string_bytes l.names.items ++ plain_names_from (length l.names.items) (items_view (drop l._program-index l.list))
