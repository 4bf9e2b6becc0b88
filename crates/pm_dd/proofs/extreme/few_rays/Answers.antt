use Rattle.pm_dd.proofs.MixedLaws.{same_cols, same_generators}
use Rattle.pm_dd.proofs.Outcomes.{some_weaker}
use Rattle.pm_dd.proofs.extreme.few_rays.Goals as goal
use Rattle.pm_geom.specs.Cones.{CutOut}
use Rattle.pm_geom.specs.Generators.{AreGenerators}
use Rattle.std.specs.Prelude.{IfSome}

pub rays_within-requires-clause-columns : goal.rays_within-requires-clause-columns
rays_within-requires-clause-columns c = rw c.deref.ensures.value (same_cols c.args.cols c.args.rows.now c.in-Ok.sorted.items c.in-Ok.ensures.same c.requires.columns)

pub returns-in-Ok-rays_within-clause-generators : goal.returns-in-Ok-rays_within-clause-generators
returns-in-Ok-rays_within-clause-generators c =
    let found : IfSome c.in-Ok-rays_within.found (λ g. AreGenerators c.args.cols (CutOut c.in-Ok.sorted.items) g.rays.items g.lineality.items) = rw c.deref.ensures.value at c.in-Ok-rays_within.ensures.generators in
    some_weaker c.in-Ok-rays_within.found _ _ (λ g h. same_generators c.args.cols c.args.rows.now c.in-Ok.sorted.items g.rays.items g.lineality.items c.in-Ok.ensures.same h) found
