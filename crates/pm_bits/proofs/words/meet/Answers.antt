use Rattle.std.proofs.Common.{arith, bit_and}
use Rattle.pm_bits.proofs.Bits.{bits_met}
use Rattle.pm_bits.proofs.Chunks.{AreMade-join}
use Rattle.pm_bits.proofs.words.meet.Goals as goal

pub returns : goal.returns
returns c =
    bits_met c.args.a.now c.args.b.now c.meet_rest.new.out c.requires.same_len (omega arith)
    (AreMade-join bit_and _ _ c.args.a.now c.args.b.now c.meet_chunks.new.out c.meet_rest.new.out c.meet_chunks.ensures c.meet_rest.ensures.below c.meet_rest.ensures.met)
