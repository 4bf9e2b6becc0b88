use Rattle.std.proofs.Common.{arith, ap₂, bit_or}
use Rattle.std.specs.Simd.Lanes.{zip2}
use Rattle.pm_bits.proofs.Chunks.{made_from_store}
use Rattle.pm_bits.proofs.words.join_chunk.Goals as goal

pub returns-clause-joined : goal.returns-clause-joined
returns-clause-joined c =
    made_from_store bit_or c.args.start 4 _ c.args.a.now c.args.b.now c.args.out.now _ (omega arith) (ap₂ (zip2 bit_or) c.lanes_at.ensures c.lanes_at-2.ensures) c.requires.in_a c.requires.in_b c.requires.in_out
