use Rattle.std.proofs.Common.{◌≡◌, drop}
use Rattle.pm_filing.specs.FileReadings.{any_names_sites}
use Rattle.serde_json.specs.View.{items_view}
use Rattle.pm_filing.proofs.profile.any_names_sites.Given as goal

-- what is left decides
abbrev pub invariant-loop-name : goal.invariant-loop-name
invariant-loop-name l = any_names_sites l.of (items_view l.list) ≡ any_names_sites l.of (items_view (drop l.name-index l.list))
