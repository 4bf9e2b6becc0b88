use Rattle.pm_dd.proofs.MixedLaws.{same_cols, same_generators}
use Rattle.pm_dd.proofs.Outcomes.{err_weaker}
use Rattle.pm_dd.proofs.TameLaws.{tame_shown}
use Rattle.pm_dd.proofs.extreme.rays_of.Goals as goal
use Rattle.pm_geom.specs.Cones.{CutOut}
use Rattle.pm_geom.specs.Generators.{AreGenerators}

pub stated_rays-requires-clause-columns : goal.stated_rays-requires-clause-columns
stated_rays-requires-clause-columns c = rw c.deref.ensures.value (same_cols c.args.cols c.args.rows.now c.in_ok-mixed.mixed.items c.in_ok-mixed.ensures.same c.requires.columns)

pub returns-in-Ok-clause-generators : goal.returns-in-Ok-clause-generators
returns-in-Ok-clause-generators c =
    let found : AreGenerators c.args.cols (CutOut c.in_ok-mixed.mixed.items) c.in-Ok.found.rays.items c.in-Ok.found.lineality.items = rw c.deref.ensures.value at c.in-Ok.ensures.generators in
    same_generators c.args.cols c.args.rows.now c.in_ok-mixed.mixed.items c.in-Ok.found.rays.items c.in-Ok.found.lineality.items c.in_ok-mixed.ensures.same found

pub returns : goal.returns
returns c = record {
  generators = c.stated_rays-in-Err.ensures.generators;
  few = c.stated_rays-in-Err.ensures.few;
  shown = c.stated_rays-in-Err.ensures.shown;
  lost = c.stated_rays-in-Err.ensures.lost;
  tame = λ t. err_weaker c.stated_rays-in-Err.result _ _ (λ f h. tame_shown c.args.cols c.args.rows.now c.requires.columns t f h) c.stated_rays-in-Err.ensures.shown;
}
