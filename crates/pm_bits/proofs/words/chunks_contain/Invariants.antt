use Rattle.std.proofs.Common.{◌*◌}
use Rattle.pm_bits.specs.Words.{EachWord, IsWithin}
use Rattle.pm_bits.proofs.words.chunks_contain.Given as goal

abbrev pub invariant-loop-chunk : goal.invariant-loop-chunk
invariant-loop-chunk l = EachWord IsWithin 0 (l.chunk * 4) l.a l.b
