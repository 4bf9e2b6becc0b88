use Rattle.std.proofs.Common.{◌≤◌, ◌-◌, vec_len}
use Rattle.pm_store.proofs.OutsideLemmas.{SoFar}
use Rattle.pm_store.proofs.whole.read_first.Given as goal

abbrev pub invariant-loop-chunk : goal.invariant-loop-chunk
invariant-loop-chunk g l = record {
  bound : vec_len l.bytes ≤ l.limit;
  so_far : SoFar (g.S.Source.left l.fn.source) (g.S.Source.left l.source) l.bytes.items;
  rises : g.S.Source.faults l.fn.source ≤ g.S.Source.faults l.source;
}

abbrev pub decreases-loop-chunk : goal.decreases-loop-chunk
decreases-loop-chunk g l = l.limit - vec_len l.bytes
