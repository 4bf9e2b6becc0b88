use Rattle.pm_dd.specs.Lost.{DescriptionIsLost, IfWide}
use Rattle.pm_dd.specs.Refusals.{IsShown}
use Rattle.pm_geom.specs.Cones.{CutOut}
use Rattle.pm_geom.specs.Generators.{AreGenerators}
use Rattle.pm_dd.proofs.Outcomes.{err_weaker, ok_weaker, wide_weaker}
use Rattle.pm_dd.proofs.HullLaws.{list_cols, list_generators, list_length}
use Rattle.pm_dd.proofs.hull.cone_generators.Goals as goal
use Rattle.std.proofs.Common.{IfErr, IfOk, arith, inl, inr}
use Rattle.std.proofs.lemmas.Result.{err_from_is_err_and}

pub rays_of-requires-clause-columns : goal.rays_of-requires-clause-columns
rays_of-requires-clause-columns c = rw c.deref-2.ensures.value (list_cols c.args.cols c.args.equations.now c.args.rows.now c.in_ok-list.list.items c.in_ok-list.ensures.list c.requires.row_cols)

pub rays_of-requires-clause-few_rows : goal.rays_of-requires-clause-few_rows
rays_of-requires-clause-few_rows c = let l = list_length c.args.cols c.args.equations.now c.args.rows.now c.in_ok-list.list.items c.in_ok-list.ensures.list in rw c.deref-2.ensures.value (omega arith)

pub returns-clause-generators : goal.returns-clause-generators
returns-clause-generators c =
    let found : IfOk c.rays_of.result (λ g. AreGenerators c.args.cols (CutOut c.in_ok-list.list.items) g.rays.items g.lineality.items) = rw c.deref-2.ensures.value at c.rays_of.ensures.generators in
    ok_weaker c.rays_of.result _ _ (λ g h. list_generators c.args.cols c.args.equations.now c.args.rows.now c.in_ok-list.list.items c.in_ok-list.ensures.list h) found

pub returns-clause-shown : goal.returns-clause-shown
returns-clause-shown c =
    let shown : IfErr c.rays_of.result (λ f. IsShown c.args.cols c.in_ok-list.list.items f) = rw c.deref-2.ensures.value at c.rays_of.ensures.shown in
    err_weaker c.rays_of.result _ _ (λ f h. inr (c.in_ok-list.list.items, c.in_ok-list.ensures.list, h)) shown

pub returns-in_err-list-clause-lost : goal.returns-in_err-list-clause-lost
returns-in_err-list-clause-lost c = λ e.
    let p = err_from_is_err_and c.from_residual.result c.from_residual.ensures.1 in
    rw (p.1, p.2) (wide_weaker c.in_err-list.field-0.0 _ _ (λ h. inl h) (c.in_err-list.ensures.lost e))

pub returns-clause-lost : goal.returns-clause-lost
returns-clause-lost c = λ e.
    let lost : IfErr c.rays_of.result (λ f. IfWide f (DescriptionIsLost c.args.cols c.in_ok-list.list.items)) = rw c.deref-2.ensures.value at (c.rays_of.ensures.lost e) in
    err_weaker c.rays_of.result _ _ (λ f h. wide_weaker f _ _ (λ q. inr (c.in_ok-list.list.items, c.in_ok-list.ensures.list, q)) h) lost

pub few_rays-requires-clause-columns : goal.few_rays-requires-clause-columns
few_rays-requires-clause-columns c = rw c.deref.ensures.value (list_cols c.args.cols c.args.equations.now c.args.rows.now c.in_ok-list.list.items c.in_ok-list.ensures.list c.requires.row_cols)

pub few_rays-requires-clause-few_rows : goal.few_rays-requires-clause-few_rows
few_rays-requires-clause-few_rows c = let l = list_length c.args.cols c.args.equations.now c.args.rows.now c.in_ok-list.list.items c.in_ok-list.ensures.list in rw c.deref.ensures.value (omega arith)

pub returns-in-Some-clause-generators : goal.returns-in-Some-clause-generators
returns-in-Some-clause-generators c =
    let found : AreGenerators c.args.cols (CutOut c.in_ok-list.list.items) c.in-Some.found.rays.items c.in-Some.found.lineality.items = rw c.deref.ensures.value at c.in-Some.ensures.generators in
    list_generators c.args.cols c.args.equations.now c.args.rows.now c.in_ok-list.list.items c.in_ok-list.ensures.list found
