use Rattle.std.proofs.Common.{◌*◌, bit_or}
use Rattle.pm_bits.specs.Words.{AreMade}
use Rattle.pm_bits.proofs.words.join_chunks.Given as goal

abbrev pub invariant-loop-chunk : goal.invariant-loop-chunk
invariant-loop-chunk l = AreMade bit_or 0 (l.chunk * 4) l.a l.b l.out
