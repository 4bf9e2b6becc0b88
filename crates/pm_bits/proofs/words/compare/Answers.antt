use Rattle.pm_bits.proofs.Firsts.{order_from_words, same_from_each_word}
use Rattle.pm_bits.proofs.words.compare.Goals as goal

pub returns-in_default : goal.returns-in_default
returns-in_default c =
    order_from_words c.compare_words.result c.args.a.now c.args.b.now c.loop-i.i c.loop-i.invariant c.in_default.not-Equal c.compare_words.ensures

pub returns : goal.returns
returns c =
    same_from_each_word c.args.a.now c.args.b.now c.loop-i.i c.requires c.loop-i-test.false c.loop-i.invariant
