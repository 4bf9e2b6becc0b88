use Rattle.std.proofs.Common.{◌≡◌, take, bit_and}
use Rattle.std.specs.Prelude.{sum_by, count_ones}
use Rattle.std.specs.Simd.Lanes.{zip2}
use Rattle.pm_bits.proofs.words.common_count.Given as goal

abbrev pub invariant-loop-i : goal.invariant-loop-i
invariant-loop-i l = l.ones ≡ sum_by count_ones (take l.i (zip2 bit_and l.a l.b))
