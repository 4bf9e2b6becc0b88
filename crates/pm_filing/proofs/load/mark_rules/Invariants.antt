use Rattle.std.proofs.Common.{◌≡◌, ◌++◌, drop}
use Rattle.std.specs.Prelude.{flat_map}
use Rattle.pm_filing.specs.ReadingViews.{marks_seen}
use Rattle.pm_filing.specs.Filing.{mark_read}
use Rattle.pm_filing.proofs.load.mark_rules.Given as goal

-- what is left is put behind what was put
abbrev pub invariant-loop-label : goal.invariant-loop-label
invariant-loop-label l = record l.object.state { excluded = l.object.state.excluded ++ flat_map (mark_read l.book l.sub) (marks_seen (drop l.label-index l.failed)) }
    ≡ record l.fn.object.state { excluded = l.fn.object.state.excluded ++ flat_map (mark_read l.book l.sub) (marks_seen l.failed) }
