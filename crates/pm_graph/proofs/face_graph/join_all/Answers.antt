use Rattle.pm_graph.proofs.Pairs.{one_face_more}
use Rattle.pm_graph.proofs.Views.{length_view, view_in}
use Rattle.pm_graph.proofs.face_graph.join_all.Goals as goal
use Rattle.pm_graph.specs.Edges.{IsPairAmong, IsPairOf, Joins}
use Rattle.pm_graph.specs.Tables.{HaveLength}
use Rattle.std.proofs.Common.{arith, length, map, subst, ◌<◌}
use Rattle.std.proofs.lemmas.List.{take_all}

pub loop-face-preserved : goal.loop-face-preserved
loop-face-preserved c =
    let l : c.loop-face.face-index < length c.args.faces.now = c.loop-face-test.true in
    record {
      lengths = subst (λ n. HaveLength n c.join.new.rows) c.loop-face.auto.rows c.join.ensures.lengths;
      joined = one_face_more (length c.args.rows.now) c.loop-face.face-index (map (λ face. face.items) c.args.faces.now) c.face-item.result.items c.deref.result.now c.args.rows.now c.loop-face.rows c.join.new.rows
          (let w = length_view (λ face. face.items) c.args.faces.now in omega arith) (view_in (λ face. face.items) c.args.faces.now c.loop-face.face-index c.face-item.result c.face-item.result.items l c.face-item.is) c.deref.ensures.value c.loop-face.auto.rows c.loop-face.invariant.joined
          (subst (λ n. Joins (IsPairOf n c.deref.result.now) c.loop-face.rows c.join.new.rows) c.loop-face.auto.rows c.join.ensures.joined);
    }

pub returns-clause-joined : goal.returns-clause-joined
returns-clause-joined c = subst (λ fs. Joins (IsPairAmong (length c.args.rows.now) fs) c.args.rows.now c.loop-face.rows) (take_all c.loop-face.face-index (map (λ face. face.items) c.args.faces.now) (let w = length_view (λ face. face.items) c.args.faces.now in omega arith)) c.loop-face.invariant.joined
