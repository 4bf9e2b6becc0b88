use Rattle.std.proofs.Common.{◌≡◌, drop, fold}
use Rattle.std.specs.Prelude.{flat_map}
use Rattle.pm_filing.specs.ReadingViews.{marks_seen}
use Rattle.pm_filing.specs.Filing.{mark_written, marks_written, with_mark}
use Rattle.pm_saving.proofs.save.marks_of.Given as goal

-- with the marks of what is left the marks are those of all
abbrev pub invariant-loop-e : goal.invariant-loop-e
invariant-loop-e l = fold with_mark (marks_seen l.failed.items) (flat_map (mark_written l.book l.sub) (drop l.e-index l.excluded)) ≡ marks_written l.book l.sub l.excluded
