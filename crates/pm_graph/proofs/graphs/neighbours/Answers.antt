use Rattle.pm_bits.specs.Table.{OtherContains}
use Rattle.pm_graph.proofs.Neighbours.{alone_from, not_alone, one_more, passed_by}
use Rattle.pm_graph.proofs.graphs.neighbours.Goals as goal
use Rattle.std.proofs.Common.{inl, inr, true, ◌≡◌, ◌∙◌}

pub loop-k-preserved-then-k-i : goal.loop-k-preserved-then-k-i
loop-k-preserved-then-k-i c = record { meet_len = c.loop-k.invariant.meet_len; list = passed_by c.args.table.now c.args.i c.loop-k.k c.loop-k.list.items (inl c.if-k-i.true) c.loop-k.invariant.list }

pub loop-k-preserved-then-third_contains : goal.loop-k-preserved-then-third_contains
loop-k-preserved-then-third_contains c = record {
  meet_len = c.meet_into.ensures.len ∙ c.loop-k.invariant.meet_len;
  list = passed_by c.args.table.now c.args.i c.loop-k.k c.loop-k.list.items
      (inr (not_alone c.args.table.now c.args.i c.loop-k.k c.row.result.now c.row-in-loop-k.result.now c.meet_into.new.out c.row.ensures.value c.row-in-loop-k.ensures.value c.meet_into.ensures.members (c.third_contains.ensures.0 c.if-third_contains.true)))
      c.loop-k.invariant.list;
}

pub loop-k-preserved : goal.loop-k-preserved
loop-k-preserved c =
    let none : ¬ (OtherContains c.args.table.now c.meet_into.new.out c.args.i c.loop-k.k) = λ s. let t : c.third_contains.result ≡ true = c.third_contains.ensures.1 s in let f = c.if-third_contains.false in cc in
    record {
      meet_len = c.meet_into.ensures.len ∙ c.loop-k.invariant.meet_len;
      list = one_more c.args.table.now c.args.i c.loop-k.k c.loop-k.list.items c.push.new.self.items c.if-k-i.false
          (alone_from c.args.table.now c.args.i c.loop-k.k c.row.result.now c.row-in-loop-k.result.now c.meet_into.new.out c.row.ensures.value c.row-in-loop-k.ensures.value c.meet_into.ensures.members none)
          c.in_ok-push.ensures.items c.loop-k.invariant.list;
    }
