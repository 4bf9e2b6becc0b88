-- The evidence of a mark is of a number from 1 to 5.
use Rattle.pm_filing.proofs.Fitting.{mark_at}
use Rattle.pm_filing.proofs.load.mark_rules.Goals as goal

pub exclude-requires : goal.exclude-requires
exclude-requires c = record { numbered = mark_at c.args.failed.now c.loop-label.label-index c.loop-label-item.result c.loop-label-test.true c.loop-label-item.is c.requires.marks }
