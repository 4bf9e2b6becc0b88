use Rattle.pm_graph.proofs.PlaceCounts.{counts_turn, lower_count_itself, one_count_more}
use Rattle.pm_graph.proofs.Views.{all_in_view, length_view, view_in}
use Rattle.pm_graph.proofs.inclusions.counts_below.Goals as goal
use Rattle.pm_graph.specs.Counts.{lower_count}
use Rattle.pm_graph.specs.Levels.{AreBelow}
use Rattle.pm_types.specs.Lists.{lists_of}
use Rattle.std.proofs.Common.{[], ap, arith, length, map, subst, sym, ◌<◌, ◌^◌, ◌≡◌, ◌∙◌}
use Rattle.std.proofs.lemmas.List.Elements.{All-push}
use Rattle.std.specs.List.{All, range_with_len}

pub columns_of-requires : goal.columns_of-requires
columns_of-requires c = subst (λ xs. AreBelow c.args.len (map (λ set. set.items) xs)) (sym c.deref.ensures.value) (all_in_view (AreBelow c.args.len) lists_of c.args.ranks.now c.args.k c.index-ranks-k.result c.requires.within c.index-ranks-k.is c.requires.below)

pub inclusions-requires-clause-below : goal.inclusions-requires-clause-below
inclusions-requires-clause-below c =
    let l : c.loop-i.i < length c.args.ranks.now = (let a = c.requires.within in let b = c.loop-i-test.true in omega arith) in
    let b = subst (λ xs. AreBelow c.args.len (map (λ set. set.items) xs)) (sym c.deref-in-loop-i.ensures.value) (all_in_view (AreBelow c.args.len) lists_of c.args.ranks.now c.loop-i.i c.index-ranks-i.result l c.index-ranks-i.is c.requires.below) in
    subst (λ n. AreBelow n (map (λ set. set.items) c.deref-in-loop-i.result.now)) (sym (ap length c.deref-in-loop-i-2.ensures.value ∙ c.in_ok-columns.ensures.columns.count)) b

pub loop-i-preserved : goal.loop-i-preserved
loop-i-preserved c =
    let lk : c.loop-i.i < c.args.k = c.loop-i-test.true in
    let l : c.loop-i.i < length c.args.ranks.now = (let a = c.requires.within in omega arith) in
    let below = subst (λ xs. AreBelow c.args.len (map (λ set. set.items) xs)) (sym c.deref-in-loop-i.ensures.value) (all_in_view (AreBelow c.args.len) lists_of c.args.ranks.now c.loop-i.i c.index-ranks-i.result l c.index-ranks-i.is c.requires.below) in
    let e = counts_turn (map lists_of c.args.ranks.now) c.args.k c.loop-i.i c.args.len c.len.result c.in_ok-inclusions.field-0 c.in_ok-columns.columns.items c.deref-in-loop-i-2.result.now (map (λ set. set.items) c.deref.result.now) (map (λ face. face.items) c.deref-in-loop-i.result.now) lk c.deref-in-loop-i-2.ensures.value (let v = length_view (λ set. set.items) c.deref.result.now in let d = ap length c.deref.ensures.value in omega (arith, c.len.ensures)) c.in_ok-columns.ensures.columns below
    (ap (map (λ set. set.items)) c.deref.ensures.value ∙ view_in lists_of c.args.ranks.now c.args.k c.index-ranks-k.result [] c.requires.within c.index-ranks-k.is)
    (ap (map (λ set. set.items)) c.deref-in-loop-i.ensures.value ∙ view_in lists_of c.args.ranks.now c.loop-i.i c.index-ranks-i.result [] l c.index-ranks-i.is)
    c.in_ok-inclusions.ensures.count in
    record {
      counts = one_count_more (lower_count (map lists_of c.args.ranks.now) c.args.k) c.loop-i.i c.loop-i.counts.items c.push.new.self.items c.in_ok-inclusions.field-0 c.in_ok-push.ensures.items e c.loop-i.invariant.counts;
      small = subst (λ xs. All (λ n. n < 2 ^ 126) xs) (sym c.in_ok-push.ensures.items) (All-push (λ n. n < 2 ^ 126) c.loop-i.counts.items c.in_ok-inclusions.field-0 c.loop-i.invariant.small c.in_ok-inclusions.ensures.small);
    }

pub returns-clause-counts : goal.returns-clause-counts
returns-clause-counts c =
    let e = lower_count_itself (map lists_of c.args.ranks.now) c.args.k in
    let f = ap length (view_in lists_of c.args.ranks.now c.args.k c.index-ranks-k.result [] c.requires.within c.index-ranks-k.is) in
    let v = length_view (λ set. set.items) c.index-ranks-k.result.items in
    let k : c.loop-i.i ≡ c.args.k = omega arith in
    one_count_more (lower_count (map lists_of c.args.ranks.now) c.args.k) c.args.k c.loop-i.counts.items c.push-2.new.self.items c.len-2.result c.in_ok-push-2.ensures.items (omega (arith, c.len-2.ensures)) (c.loop-i.invariant.counts ∙ ap (λ n. map (lower_count (map lists_of c.args.ranks.now) c.args.k) (range_with_len 0 n)) k)
