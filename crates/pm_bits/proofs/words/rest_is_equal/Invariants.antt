use Rattle.std.proofs.Common.{◌≡◌}
use Rattle.pm_bits.specs.Words.{EachWord}
use Rattle.pm_bits.proofs.words.rest_is_equal.Given as goal

abbrev pub invariant-loop-i : goal.invariant-loop-i
invariant-loop-i l = EachWord (λ x y. x ≡ y) l.start l.i l.a l.b
