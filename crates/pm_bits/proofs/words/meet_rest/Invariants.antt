use Rattle.std.proofs.Common.{bit_and}
use Rattle.pm_bits.specs.Words.{AreMade, StayAsTheyWere}
use Rattle.pm_bits.proofs.words.meet_rest.Given as goal

abbrev pub invariant-loop-i : goal.invariant-loop-i
invariant-loop-i l = record {
  met : AreMade bit_and l.start l.i l.a l.b l.out;
  below : StayAsTheyWere 0 l.start l.fn.out l.out;
}
