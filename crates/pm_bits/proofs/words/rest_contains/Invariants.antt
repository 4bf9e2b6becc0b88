use Rattle.pm_bits.specs.Words.{EachWord, IsWithin}
use Rattle.pm_bits.proofs.words.rest_contains.Given as goal

abbrev pub invariant-loop-i : goal.invariant-loop-i
invariant-loop-i l = EachWord IsWithin l.start l.i l.a l.b
