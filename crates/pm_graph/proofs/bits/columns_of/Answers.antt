use Rattle.pm_graph.proofs.Turns.{all_lengths, one_column_more}
use Rattle.pm_graph.proofs.Views.{length_view, slice_below, view_at, written_back}
use Rattle.pm_graph.proofs.bits.columns_of.Goals as goal
use Rattle.pm_graph.specs.Tables.{AreColumnsOf, HaveLength, IsMarked}
use Rattle.std.proofs.Common.{[], ap, arith, length, map, slice_index_or, subst, sym, take, ◌+◌, ◌<◌, ◌∙◌}

pub mark-requires-clause-below : goal.mark-requires-clause-below
mark-requires-clause-below c = slice_below (λ set. set.items) c.args.sets.now c.args.len (length c.deref_mut.result.now) c.loop-place.place c.index-sets-place.result c.deref.result.now c.loop-place-test.true c.index-sets-place.is c.deref.ensures.value (ap length c.deref_mut.ensures.value ∙ c.loop-place.invariant.columns.count) c.requires

pub loop-place-preserved : goal.loop-place-preserved
loop-place-preserved c =
    let k = c.loop-place.place in
    let l : c.loop-place.place < length c.args.sets.now = c.loop-place-test.true in
    let back = written_back c.loop-place.rows.len c.mark.new.rows c.loop-place.rows.items (c.mark.auto.rows ∙ ap length c.deref_mut.ensures.value) (omega arith) in
    let len = c.mark.auto.rows ∙ ap length c.deref_mut.ensures.value in
    let m = subst (λ s. IsMarked s c.loop-place.place c.deref_mut.result.now c.mark.new.rows) c.deref.ensures.value c.mark.ensures.marked in
    let m' = subst (λ o. IsMarked c.index-sets-place.result.items c.loop-place.place o c.mark.new.rows) c.deref_mut.ensures.value m in
    record {
      lengths = subst (λ r. HaveLength (length c.args.sets.now) r) (sym back) (all_lengths (length c.args.sets.now) c.loop-place.rows.items c.mark.new.rows len (λ j. c.mark.ensures.lengths j ∙ ap (λ rs. length (slice_index_or rs j [])) c.deref_mut.ensures.value) c.loop-place.invariant.lengths);
      columns = subst (λ r. AreColumnsOf c.args.len (take (c.loop-place.place + 1) (map (λ set. set.items) c.args.sets.now)) r) (sym back) (one_column_more c.args.len (map (λ set. set.items) c.args.sets.now) c.loop-place.rows.items c.mark.new.rows c.loop-place.place c.index-sets-place.result.items (let w = length_view (λ set. set.items) c.args.sets.now in omega arith) (view_at (λ set. set.items) c.args.sets.now c.loop-place.place c.index-sets-place.result l c.index-sets-place.is) len m' c.loop-place.invariant.columns);
    }
