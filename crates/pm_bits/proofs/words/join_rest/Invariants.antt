use Rattle.std.proofs.Common.{bit_or}
use Rattle.pm_bits.specs.Words.{AreMade, StayAsTheyWere}
use Rattle.pm_bits.proofs.words.join_rest.Given as goal

abbrev pub invariant-loop-i : goal.invariant-loop-i
invariant-loop-i l = record {
  joined : AreMade bit_or l.start l.i l.a l.b l.out;
  below : StayAsTheyWere 0 l.start l.fn.out l.out;
}
