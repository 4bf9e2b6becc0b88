use Rattle.pm_bits.proofs.Marks.{has_bit-marked_same, has_bit-marked_other}
use Rattle.pm_bits.proofs.words.set.Goals as goal

pub returns-clause-set : goal.returns-clause-set
returns-clause-set c = has_bit-marked_same c.args.words.now c.args.i c.requires

pub returns-clause-others : goal.returns-clause-others
returns-clause-others c = has_bit-marked_other c.args.words.now c.args.i c.requires
