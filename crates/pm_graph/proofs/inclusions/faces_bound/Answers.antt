use Rattle.pm_graph.proofs.Bounds.{all_hold, one_more_holds}
use Rattle.pm_graph.proofs.Views.{length_view, view_in}
use Rattle.pm_graph.proofs.inclusions.faces_bound.Goals as goal
use Rattle.std.proofs.Common.{arith, length, map, subst, ◌<◌}
use Rattle.std.proofs.lemmas.List.Elements.{All-weaker}
use Rattle.std.specs.List.{All}

pub loop-face-preserved : goal.loop-face-preserved
loop-face-preserved c =
    let l : c.loop-face.face-index < length c.args.faces.now = c.loop-face-test.true in
    record {
      above = one_more_holds (λ row. All (λ j. j < c.loop-face.bound) row) (λ row. All (λ j. j < c.face_bound-bound.result) row) (map (λ face. face.items) c.args.faces.now) c.loop-face.face-index c.face-item.result.items
          (λ row h. All-weaker (λ j. j < c.loop-face.bound) (λ j. j < c.face_bound-bound.result) (λ j q. let m = c.face_bound-bound.ensures.least in omega arith) row h)
          (let w = length_view (λ face. face.items) c.args.faces.now in omega arith) (view_in (λ face. face.items) c.args.faces.now c.loop-face.face-index c.face-item.result c.face-item.result.items l c.face-item.is) c.loop-face.invariant.above
          (subst (λ xs. All (λ j. j < c.face_bound-bound.result) xs) c.deref.ensures.value c.face_bound-bound.ensures.above);
      least = let h = c.loop-face.invariant.least in let m = c.face_bound-bound.ensures.least in omega arith;
    }

pub returns-clause-above : goal.returns-clause-above
returns-clause-above c = all_hold (λ row. All (λ j. j < c.loop-face.bound) row) (map (λ face. face.items) c.args.faces.now) c.loop-face.face-index (let w = length_view (λ face. face.items) c.args.faces.now in omega arith) c.loop-face.invariant.above
