use Rattle.pm_geom.specs.Generators.{AreGenerators}
use Rattle.pm_laws_normal_fans.specs.Refinements.{InHalfSpaces}
use Rattle.pm_refine.proofs.pairs.cut_out_by_both.Goals as goal
use Rattle.std.proofs.Common.{IfOk, ◌++◌}

pub returns-clause-generators : goal.returns-clause-generators
returns-clause-generators c =
    let found : IfOk c.to_generators.result (λ g. AreGenerators c.args.cols (InHalfSpaces (c.args.first.now.facets.items ++ c.args.second.now.facets.items) (c.args.first.now.hull.items ++ c.args.second.now.hull.items)) g.rays.items g.lineality.items) =
    rw (c.deref-5.ensures.value, c.deref-6.ensures.value, c.in_ok-rows.ensures, c.in_ok-equations.ensures, c.deref.ensures.value, c.deref-2.ensures.value, c.deref-3.ensures.value, c.deref-4.ensures.value) at c.to_generators.ensures.generators in
    found
