use Rattle.pm_graph.proofs.Bounds.{all_hold, one_more_holds}
use Rattle.pm_graph.proofs.inclusions.face_bound.Goals as goal
use Rattle.std.proofs.Common.{arith, get_or, length, ◌<◌}
use Rattle.std.proofs.lemmas.List.{get_or_default}

pub loop-j-preserved : goal.loop-j-preserved
loop-j-preserved c =
    let l : c.loop-j.j-index < length c.args.face.now = c.loop-j-test.true in
    let x = get_or c.args.face.now c.loop-j.j-index 0 in
    record {
      above = one_more_holds (λ j. j < c.loop-j.bound) (λ j. j < c.max-bound.result) c.args.face.now c.loop-j.j-index x (λ y h. omega (arith, c.max-bound.ensures)) l (get_or_default c.args.face.now c.loop-j.j-index 0 x l) c.loop-j.invariant.above (omega (arith, c.max-bound.ensures));
      least = let h = c.loop-j.invariant.least in omega (arith, c.max-bound.ensures);
    }

pub returns-clause-above : goal.returns-clause-above
returns-clause-above c = all_hold (λ j. j < c.loop-j.bound) c.args.face.now c.loop-j.j-index (omega arith) c.loop-j.invariant.above
