use Rattle.pm_refine.proofs.Found.{start}
use Rattle.pm_refine.proofs.pairs.kept_of_all.Goals as goal
use Rattle.pm_refine.specs.CutRows.{cut_rows}
use Rattle.std.proofs.Common.{map}

pub loop-i-init : goal.loop-i-init
loop-i-init c = rw (c.new.ensures.items, c.new-2.ensures.items) (start c.args.cols (map cut_rows c.args.firsts.now) (map cut_rows c.args.seconds.now))
