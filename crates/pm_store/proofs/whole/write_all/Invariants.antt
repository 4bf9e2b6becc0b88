use Rattle.std.proofs.Common.{length, ◌-◌, ◌≤◌, take}
use Rattle.pm_store.specs.Outside.{GainsTold}
use Rattle.pm_store.proofs.whole.write_all.Given as goal

abbrev pub invariant-loop-done : goal.invariant-loop-done
invariant-loop-done g l = record {
  within : l.done ≤ length l.piece;
  gains : GainsTold (g.K.Sink.taken l.fn.sink) (g.K.Sink.taken l.sink) (take l.done l.piece);
  rises : g.K.Sink.faults l.fn.sink ≤ g.K.Sink.faults l.sink;
}

abbrev pub decreases-loop-done : goal.decreases-loop-done
decreases-loop-done g l = length l.piece - l.done
