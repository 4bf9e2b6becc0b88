-- What is left is listed behind what was listed.
use Rattle.std.proofs.Common.{◌≡◌, ◌++◌, drop}
use Rattle.serde_json.specs.View.{items_view}
use Rattle.pm_filing.specs.Profiles.{no_marks}
use Rattle.pm_filing.specs.ReadingViews.{all_marks_seen}
use Rattle.pm_filing.proofs.profile.no_marks.Given as goal

abbrev pub invariant-loop-program : goal.invariant-loop-program
invariant-loop-program l = no_marks (items_view l.list) ≡ all_marks_seen l.all.items ++ no_marks (items_view (drop l._program-index l.list))
