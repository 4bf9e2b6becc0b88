-- What is left is read behind what was read.
use Rattle.std.proofs.Common.{◌≡◌, drop, true}
use Rattle.serde_json.specs.View.{items_view}
use Rattle.pm_filing.specs.Profiles.{are_different, different_read, mark_of, same_label}
use Rattle.pm_filing.specs.ReadingViews.{marks_seen}
use Rattle.pm_filing.proofs.ItemTurns.{different_behind}
use Rattle.pm_filing.proofs.profile.marks_among.Given as goal

abbrev pub invariant-loop-item : goal.invariant-loop-item
invariant-loop-item l =
    (different_read same_label mark_of (items_view l.list) ≡ different_behind same_label mark_of (marks_seen l.marks.items) (items_view (drop l.item-index l.list)))
    × (are_different same_label (marks_seen l.marks.items) ≡ true)
