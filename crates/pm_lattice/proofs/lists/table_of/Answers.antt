use Rattle.pm_lattice.proofs.ListTurns.{mapped_item, small_row, tested_more}
use Rattle.pm_lattice.proofs.lists.table_of.Goals as goal
use Rattle.std.proofs.Common.{ap, rules, ◌∙◌}
use Rattle.pm_geom.specs.Graphs.{holds}

pub row_of-requires : goal.row_of-requires
row_of-requires c = small_row c.args.s.now.rows c.args.s.now.cols c.cols-len.result c.loop-set.set-index c.set-item.result.items c.deref.result.now c.requires c.cols-len.ensures c.deref.ensures.value
    (mapped_item (λ r. r.items) c.rows-set-items.result.now c.args.s.now.rows c.loop-set.set-index c.set-item.result c.rows-set-items.ensures c.loop-set-test.true c.set-item.is)

pub loop-set-preserved : goal.loop-set-preserved
loop-set-preserved c =
    let item = mapped_item (λ r. r.items) c.rows-set-items.result.now c.args.s.now.rows c.loop-set.set-index c.set-item.result c.rows-set-items.ensures c.loop-set-test.true c.set-item.is in
    record {
      len = search rules;
      rows = tested_more c.args.s.now.rows c.loop-set.table.rows c.push.new.self.rows c.loop-set.set-index c.set-item.result.items c.in_ok-row_of.field-0 item.0 item.1 c.in-Ok.ensures.ok (λ j. c.in_ok-row_of.ensures.members j ∙ ap (λ xs. holds xs j) c.deref.ensures.value) c.loop-set.invariant.rows;
    }
