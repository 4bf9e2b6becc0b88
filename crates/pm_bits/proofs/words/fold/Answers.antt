use Rattle.pm_bits.proofs.Folds.{folded_more}
use Rattle.pm_bits.proofs.words.fold.Goals as goal

pub loop-i-preserved : goal.loop-i-preserved
loop-i-preserved c = folded_more c.args.words.now c.loop-i.i c.loop-i.all c.loop-i.invariant
