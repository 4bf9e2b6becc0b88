use Rattle.std.proofs.Common.{arith, ap₂, bit_and}
use Rattle.std.specs.Simd.Lanes.{zip2}
use Rattle.pm_bits.proofs.Chunks.{made_from_store}
use Rattle.pm_bits.proofs.words.meet_chunk.Goals as goal

pub returns-clause-met : goal.returns-clause-met
returns-clause-met c =
    made_from_store bit_and c.args.start 4 _ c.args.a.now c.args.b.now c.args.out.now _ (omega arith) (ap₂ (zip2 bit_and) c.lanes_at.ensures c.lanes_at-2.ensures) c.requires.in_a c.requires.in_b c.requires.in_out
