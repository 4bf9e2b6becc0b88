use Rattle.pm_refine.proofs.ConeFacets.{cone_fail, cone_item, cone_more}
use Rattle.pm_refine.proofs.Indexed.{map_last}
use Rattle.pm_refine.proofs.cones.facets_of_cones.Goals as goal
use Rattle.pm_refine.specs.CutRows.{cut_rows}
use Rattle.std.proofs.Common.{ap, arith, map, ◌∙◌}

pub to_facets-requires-clause-ray_cols : goal.to_facets-requires-clause-ray_cols
to_facets-requires-clause-ray_cols c = rw c.deref.ensures.value (cone_item (λ v. v.items) c.args.cols c.args.cones.now c.args.lines.now c.loop-i.i c.index-cones-i.result c.loop-i-test.true c.index-cones-i.is c.requires.fan).0

pub to_facets-requires-clause-few_rays : goal.to_facets-requires-clause-few_rays
to_facets-requires-clause-few_rays c =
    let few = (cone_item (λ v. v.items) c.args.cols c.args.cones.now c.args.lines.now c.loop-i.i c.index-cones-i.result c.loop-i-test.true c.index-cones-i.is c.requires.fan).1 in
    rw c.deref.ensures.value (omega arith)

pub returns-in-Err-clause-failed : goal.returns-in-Err-clause-failed
returns-in-Err-clause-failed c = rw c.not_made.ensures (cone_fail (λ v. v.items) c.args.cols c.args.cones.now c.args.lines.now c.loop-i.i c.index-cones-i.result c.loop-i-test.true c.index-cones-i.is c.in-Err.fail (rw c.deref.ensures.value at c.in-Err.ensures.shown))

pub loop-i-preserved : goal.loop-i-preserved
loop-i-preserved c = cone_more (λ v. v.items) c.args.cols c.args.cones.now c.args.lines.now c.loop-i.i c.index-cones-i.result c.loop-i-test.true c.index-cones-i.is (map cut_rows c.loop-i.made.items) (map cut_rows c.push.new.self.items) c.in-Ok.facets.facets.items c.in-Ok.facets.hull.items c.loop-i.invariant
    (rw c.deref.ensures.value at c.in-Ok.ensures.facets) c.in-Ok.ensures.few (ap (map cut_rows) c.in_ok-push-in-Ok.ensures.items ∙ map_last cut_rows c.loop-i.made.items c.in-Ok.facets)
