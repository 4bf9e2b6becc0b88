use Rattle.pm_graph.proofs.LevelWalks.{first_level_as, first_unseen, front_below, turn_ends, turn_goes}
use Rattle.pm_graph.proofs.Views.{length_view, none_of, some_of, written_back}
use Rattle.pm_graph.proofs.distances.eccentricity.Goals as goal
use Rattle.std.proofs.Common.{ap, arith, length, map, rules, sym, ◌<◌, ◌∙◌}

pub loop-next-init : goal.loop-next-init
loop-next-init c = record {
  level = first_level_as (map (λ row. row.items) c.args.rows.now) c.args.start (length c.args.rows.now) c.in_ok-seen.seen.items c.in_ok-front.front.items (sym (length_view (λ row. row.items) c.args.rows.now)) c.requires.start (search rules) c.in_ok-front.ensures.items;
  left = first_unseen c.args.start (length c.args.rows.now) c.in_ok-seen.seen.items c.requires.start (search rules);
  small = let l = c.requires.start in omega arith;
  empty = c.new-next.ensures.items;
}

pub next_level-requires-clause-front : goal.next_level-requires-clause-front
next_level-requires-clause-front c = front_below (map (λ row. row.items) c.args.rows.now) c.args.start c.loop-next.far (length c.args.rows.now) c.loop-next.seen.items c.loop-next.front.items c.deref.result.now c.loop-next.invariant.level (sym (length_view (λ row. row.items) c.args.rows.now)) c.deref.ensures.value

pub returns-then-is_empty-clause-farthest : goal.returns-then-is_empty-clause-farthest
returns-then-is_empty-clause-farthest c = turn_ends (map (λ row. row.items) c.args.rows.now) c.args.start c.loop-next.far (length c.args.rows.now) c.loop-next.left c.loop-next.seen.items c.next_level.new.seen c.deref_mut.result.now c.loop-next.front.items c.deref.result.now c.next_level.new.next.items
    (record {
      level = c.loop-next.invariant.level;
      nodes = sym (length_view (λ row. row.items) c.args.rows.now);
      below = c.requires.neighbours;
      seen_is = c.deref_mut.ensures.value;
      slice_is = c.deref.ensures.value;
      marks = c.in_ok-next_level.ensures.marks;
      are_new = c.in_ok-next_level.ensures.new;
      len = c.next_level.auto.seen;
    })
    (none_of c.next_level.new.next.items c.next_level.new.next.len (omega arith) c.if-is_empty.ensures)

pub loop-next-preserved : goal.loop-next-preserved
loop-next-preserved c =
    let some : 0 < length c.next_level.new.next.items = some_of c.next_level.new.next.items c.next_level.new.next.len (omega arith) c.if-is_empty.ensures in
    let back = written_back c.loop-next.seen.len c.next_level.new.seen c.loop-next.seen.items (c.next_level.auto.seen ∙ ap length c.deref_mut.ensures.value) (omega arith) in
    record {
      level = turn_goes (map (λ row. row.items) c.args.rows.now) c.args.start c.loop-next.far (length c.args.rows.now) c.loop-next.left c.loop-next.seen.items c.next_level.new.seen c.deref_mut.result.now c.loop-next.front.items c.deref.result.now c.next_level.new.next.items
          (record {
            level = c.loop-next.invariant.level;
            nodes = sym (length_view (λ row. row.items) c.args.rows.now);
            below = c.requires.neighbours;
            seen_is = c.deref_mut.ensures.value;
            slice_is = c.deref.ensures.value;
            marks = c.in_ok-next_level.ensures.marks;
            are_new = c.in_ok-next_level.ensures.new;
            len = c.next_level.auto.seen;
          })
          _ c.swap.new.x.items some back (ap (λ v. v.items) c.swap.ensures.x_after);
      left = rw back (omega (arith, c.in_ok-next_level.ensures.count));
      small = let s = c.loop-next.invariant.small in omega (arith, c.in_ok-next_level.ensures.count);
      empty = c.clear.ensures.items;
    }
