-- What is left is read behind the properties that were read.
use Rattle.std.proofs.Common.{◌≡◌, drop, true, List}
use Rattle.pm_props.specs.Places.{same_property}
use Rattle.pm_props.specs.Sets.{set_of}
use Rattle.pm_props.specs.declared.property.PropId.{PropId}
use Rattle.serde_json.specs.View.{items_view}
use Rattle.pm_filing.specs.Profiles.{are_different, different_read, stored_property}
use Rattle.pm_filing.proofs.ItemTurns.{different_behind}
use Rattle.pm_filing.proofs.profile.stored_among.Given as goal

abbrev pub invariant-loop-name : goal.invariant-loop-name
invariant-loop-name l = (ps : List PropId)
    × (different_read same_property (stored_property l.of l.held) (items_view l.list) ≡ different_behind same_property (stored_property l.of l.held) ps (items_view (drop l.name-index l.list)))
    × (are_different same_property ps ≡ true)
    × (l.stored ≡ set_of ps)
