-- What is left is put among the keys so far.
use Rattle.std.proofs.Common.{◌≡◌, drop}
use Rattle.serde_json.specs.Data.{no_members}
use Rattle.serde_json.specs.View.{items_view, members_view}
use Rattle.pm_filing.specs.FileParts.{other_keys_from}
use Rattle.pm_filing.proofs.ignored.other_keys.Given as goal

abbrev pub invariant-loop-program : goal.invariant-loop-program
invariant-loop-program l = other_keys_from no_members (items_view l.list) ≡ other_keys_from (members_view l.keys.entries) (items_view (drop l.program-index l.list))
