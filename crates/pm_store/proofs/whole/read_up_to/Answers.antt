use Rattle.std.proofs.Common.{arith}
use Rattle.std.proofs.lemmas.List.{length-take}
use Rattle.pm_store.proofs.OutsideLemmas.{SoFar-ends, SoFar-fails, SoFar-loses, SoFar-more, SoFar-passes}
use Rattle.pm_store.proofs.whole.read_up_to.Goals as goal

pub returns-in_err-count-clause-left : goal.returns-in_err-count-clause-left
returns-in_err-count-clause-left g c = SoFar-fails _ _ _ _ c.loop-bytes.invariant.so_far c.in_err-count.ensures.err

pub returns-then-count-eq0-clause-all : goal.returns-then-count-eq0-clause-all
returns-then-count-eq0-clause-all g c =
    SoFar-ends _ _ _ _ _ _ c.loop-bytes.invariant.so_far c.in_ok-count.ensures.moves
    (c.in_ok-count.ensures.end c.if-count-eq0.true (omega (arith, c.in_ok-count.ensures.same_length)))

pub returns-then-count-eq0-clause-bound : goal.returns-then-count-eq0-clause-bound
returns-then-count-eq0-clause-bound g c = c.loop-bytes.invariant.bound

pub returns-then-count-eq0-clause-left : goal.returns-then-count-eq0-clause-left
returns-then-count-eq0-clause-left g c = SoFar-loses _ _ _ _ _ _ c.loop-bytes.invariant.so_far c.in_ok-count.ensures.moves

pub returns-then-count-limit-clause-too_long : goal.returns-then-count-limit-clause-too_long
returns-then-count-limit-clause-too_long g c is =
    SoFar-passes _ _ _ _ _ _ _ c.loop-bytes.invariant.so_far c.in_ok-count.ensures.moves (omega (arith, c.if-count-limit.true))

pub returns-then-count-limit-clause-left : goal.returns-then-count-limit-clause-left
returns-then-count-limit-clause-left g c = SoFar-loses _ _ _ _ _ _ c.loop-bytes.invariant.so_far c.in_ok-count.ensures.moves

pub returns-in_err-extend_from_slice-clause-left : goal.returns-in_err-extend_from_slice-clause-left
returns-in_err-extend_from_slice-clause-left g c = SoFar-loses _ _ _ _ _ _ c.loop-bytes.invariant.so_far c.in_ok-count.ensures.moves

pub loop-bytes-preserved : goal.loop-bytes-preserved
loop-bytes-preserved g c = record {
  bound = omega (arith, c.in_ok-extend_from_slice.ensures.len, length-take c.in_ok-count.count c.read.new.buf);
  so_far = SoFar-more _ _ _ _ _ _ _ c.loop-bytes.invariant.so_far c.in_ok-count.ensures.moves c.in_ok-extend_from_slice.ensures.items;
  rises = omega (arith, c.in_ok-count.ensures.never_falls);
}
