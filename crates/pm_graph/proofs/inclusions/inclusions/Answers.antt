use Rattle.pm_graph.proofs.PlaceCounts.{count_bound, place_count_more}
use Rattle.pm_graph.proofs.Views.{length_view, slice_below, view_at}
use Rattle.pm_graph.proofs.inclusions.inclusions.Goals as goal
use Rattle.pm_graph.specs.Counts.{IsMeetOfColumns}
use Rattle.std.proofs.Common.{arith, length, map, refl, subst, ◌<◌, ◌≡◌, ◌∙◌}

pub meet_columns-requires-clause-below : goal.meet_columns-requires-clause-below
meet_columns-requires-clause-below c = slice_below (λ face. face.items) c.args.lower.now (length c.args.columns.now) (length c.args.columns.now) c.loop-face.face-index c.face-item.result c.deref.result.now c.loop-face-test.true c.face-item.is c.deref.ensures.value refl c.requires.below

pub loop-face-preserved : goal.loop-face-preserved
loop-face-preserved c =
    let l : c.loop-face.face-index < length c.args.lower.now = c.loop-face-test.true in
    let n : length c.meet_columns.new.meet ≡ c.args.count = c.meet_columns.ensures.meet_len ∙ c.meet_into.ensures.len ∙ c.loop-face.invariant.meet_len in
    let m = subst (λ f. IsMeetOfColumns c.args.columns.now f c.meet_columns.new.meet) c.deref.ensures.value c.meet_columns.ensures.meet in
    record {
      meet_len = n;
      spare_len = c.meet_columns.ensures.spare_len ∙ c.meet_into.ensures.len ∙ c.loop-face.invariant.meet_len;
      total = place_count_more c.args.columns.now c.args.count c.loop-face.face-index c.loop-face.total c.count.result (map (λ face. face.items) c.args.lower.now) c.face-item.result.items c.meet_columns.new.meet (let w = length_view (λ face. face.items) c.args.lower.now in omega arith) (view_at (λ face. face.items) c.args.lower.now c.loop-face.face-index c.face-item.result l c.face-item.is) c.loop-face.invariant.total n m c.count.ensures;
      small = let b = count_bound c.meet_columns.new.meet c.args.count n in let s = c.loop-face.invariant.small in omega (arith, c.count.ensures);
    }
