use Rattle.std.proofs.Common.{◌≡◌, ◌*◌}
use Rattle.pm_bits.specs.Words.{EachWord}
use Rattle.pm_bits.proofs.words.chunks_are_equal.Given as goal

abbrev pub invariant-loop-chunk : goal.invariant-loop-chunk
invariant-loop-chunk l = EachWord (λ x y. x ≡ y) 0 (l.chunk * 4) l.a l.b
