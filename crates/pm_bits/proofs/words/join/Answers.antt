use Rattle.std.proofs.Common.{arith, bit_or}
use Rattle.pm_bits.proofs.Bits.{bits_joined}
use Rattle.pm_bits.proofs.Chunks.{AreMade-join}
use Rattle.pm_bits.proofs.words.join.Goals as goal

pub returns : goal.returns
returns c =
    bits_joined c.args.a.now c.args.b.now c.join_rest.new.out c.requires.same_len (omega arith)
    (AreMade-join bit_or _ _ c.args.a.now c.args.b.now c.join_chunks.new.out c.join_rest.new.out c.join_chunks.ensures c.join_rest.ensures.below c.join_rest.ensures.joined)
