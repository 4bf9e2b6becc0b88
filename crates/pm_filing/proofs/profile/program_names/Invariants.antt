-- What is left is read behind what was read.
use Rattle.std.proofs.Common.{◌≡◌, drop, map, string_bytes, true, bytes_eq}
use Rattle.serde_json.specs.View.{items_view}
use Rattle.pm_filing.specs.Profiles.{are_different, program_name_of, program_names}
use Rattle.pm_filing.proofs.ItemTurns.{different_behind}
use Rattle.pm_filing.proofs.profile.program_names.Given as goal

abbrev pub invariant-loop-program : goal.invariant-loop-program
invariant-loop-program l =
    (program_names (items_view l.list) ≡ different_behind bytes_eq program_name_of (map string_bytes l.names.items) (items_view (drop l.program-index l.list)))
    × (are_different bytes_eq (map string_bytes l.names.items) ≡ true)
