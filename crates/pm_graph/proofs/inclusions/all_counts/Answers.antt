use Rattle.pm_graph.proofs.PlaceCounts.{mapped_more}
use Rattle.pm_graph.proofs.inclusions.all_counts.Goals as goal
use Rattle.pm_graph.specs.Counts.{lower_counts}
use Rattle.pm_types.specs.Lists.{lists_of}
use Rattle.std.proofs.Common.{[], ap, map, subst, sym, ◌<◌, ◌^◌, ◌∷◌, ◌∙◌}
use Rattle.std.proofs.lemmas.List.{map-append}
use Rattle.std.proofs.lemmas.List.Elements.{All-push}
use Rattle.std.specs.List.{All}

pub loop-k-preserved : goal.loop-k-preserved
loop-k-preserved c = record {
  counts = mapped_more (λ row. row.items) (lower_counts (map lists_of c.args.ranks.now)) c.loop-k.k c.loop-k.rows.items c.push.new.self.items c.in_ok-counts_below.field-0 c.in_ok-push.ensures.items c.in_ok-counts_below.ensures.counts c.loop-k.invariant.counts;
  small = subst (λ xs. All (All (λ n. n < 2 ^ 126)) xs) (sym (ap (map (λ row. row.items)) c.in_ok-push.ensures.items ∙ map-append (λ row. row.items) c.loop-k.rows.items (c.in_ok-counts_below.field-0 ∷ []))) (All-push (All (λ n. n < 2 ^ 126)) (map (λ row. row.items) c.loop-k.rows.items) c.in_ok-counts_below.field-0.items c.loop-k.invariant.small c.in_ok-counts_below.ensures.small);
}
