use Rattle.pm_graph.proofs.Turns.{one_row_more}
use Rattle.pm_graph.proofs.Views.{length_view, slice_below, view_at}
use Rattle.pm_graph.proofs.bits.table_of.Goals as goal
use Rattle.pm_geom.specs.Graphs.{holds}
use Rattle.std.proofs.Common.{ap, arith, length, map, refl, rules, ◌<◌, ◌∙◌}

pub row_of-requires : goal.row_of-requires
row_of-requires c = slice_below (λ set. set.items) c.args.sets.now c.args.len c.args.len c.loop-set.set-index c.set-item.result c.deref.result.now c.loop-set-test.true c.set-item.is c.deref.ensures.value refl c.requires

pub loop-set-preserved : goal.loop-set-preserved
loop-set-preserved c =
    let l : c.loop-set.set-index < length c.args.sets.now = c.loop-set-test.true in
    record {
      len = search rules;
      rows = one_row_more (map (λ set. set.items) c.args.sets.now) c.loop-set.table c.push_row.new.table c.loop-set.set-index c.set-item.result.items c.in_ok-row_of.field-0 (let w = length_view (λ set. set.items) c.args.sets.now in omega arith) (view_at (λ set. set.items) c.args.sets.now c.loop-set.set-index c.set-item.result l c.set-item.is) c.in_ok-push_row.ensures.rows (λ j. c.in_ok-row_of.ensures.members j ∙ ap (λ xs. holds xs j) c.deref.ensures.value) c.loop-set.invariant.rows;
    }
