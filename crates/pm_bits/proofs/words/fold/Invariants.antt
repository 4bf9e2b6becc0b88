use Rattle.pm_bits.specs.Words.{AreFolded}
use Rattle.pm_bits.proofs.words.fold.Given as goal

abbrev pub invariant-loop-i : goal.invariant-loop-i
invariant-loop-i l = AreFolded l.words l.i l.all
