use Rattle.std.proofs.Common.{arith}
use Rattle.std.proofs.lemmas.Grind.{common_steps}
use Rattle.std.proofs.Math.Seq.{take-add}
use Rattle.std.proofs.lemmas.List.{take_all, take_rest}
use Rattle.pm_store.proofs.OutsideLemmas.{Gains-then}
use Rattle.pm_store.proofs.whole.write_all.Goals as goal

pub loop-done-preserved : goal.loop-done-preserved
loop-done-preserved g c = record {
  within = grind (arith, common_steps);
  gains = Gains-then _ _ _ _ _ _ c.loop-done.invariant.gains c.in_ok-done.ensures.takes (rw (take_rest, take-add));
  rises = omega (arith, c.in_ok-done.ensures.never_falls);
}

pub returns-clause-ok : goal.returns-clause-ok
returns-clause-ok g c = rw (take_all c.loop-done.done c.args.piece.now c.loop-done-test.false) at c.loop-done.invariant.gains
