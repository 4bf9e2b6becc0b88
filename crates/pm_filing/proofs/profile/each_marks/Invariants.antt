-- What is left is read behind what was read.
use Rattle.std.proofs.Common.{◌≡◌, drop}
use Rattle.serde_json.specs.View.{items_view}
use Rattle.pm_filing.specs.Profiles.{each_read, marks_in}
use Rattle.pm_filing.specs.ReadingViews.{all_marks_seen}
use Rattle.pm_filing.proofs.ItemTurns.{each_behind}
use Rattle.pm_filing.proofs.profile.each_marks.Given as goal

abbrev pub invariant-loop-program : goal.invariant-loop-program
invariant-loop-program l = each_read marks_in (items_view l.list) ≡ each_behind marks_in (all_marks_seen l.all.items) (items_view (drop l.program-index l.list))
