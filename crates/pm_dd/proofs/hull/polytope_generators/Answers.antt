use Rattle.pm_vector.specs.Rows.{entry}
use Rattle.pm_vector.specs.Evidence.{unit}
use Rattle.pm_dd.specs.Fronts.{HalfSpaces}
use Rattle.pm_geom.specs.Generators.{AreGenerators}
use Rattle.pm_dd.proofs.HullLaws.{empty_generators, no_point, proper_generators}
use Rattle.pm_dd.proofs.hull.polytope_generators.Goals as goal
use Rattle.std.specs.Prelude.{Any}
use Rattle.std.proofs.Common.{[], ◌++◌, ◌∷◌}
use Rattle.std.proofs.lemmas.Result.{err_from_is_err_and}
use lib.IntN.{pos}
use lib.Signed.{◌<ℤ◌}

pub returns-then-has_point-clause-generators : goal.returns-then-has_point-clause-generators
returns-then-has_point-clause-generators c =
    let found : AreGenerators c.args.cols (HalfSpaces c.args.equations.now (c.args.rows.now ++ unit c.args.cols 0 ∷ [])) c.in_ok-found.found.rays.items c.in_ok-found.found.lineality.items = rw (c.deref.ensures.value, c.in_ok-all.ensures) at c.in_ok-found.ensures.generators in
    let some : Any (λ v. pos 0 <ℤ entry v 0) c.in_ok-found.found.rays.items = rw c.deref-2.ensures.value at (c.has_point.ensures.0 c.if-has_point.true) in
    proper_generators c.args.cols c.args.rows.now c.args.equations.now found some

pub returns-clause-generators : goal.returns-clause-generators
returns-clause-generators c =
    let found : AreGenerators c.args.cols (HalfSpaces c.args.equations.now (c.args.rows.now ++ unit c.args.cols 0 ∷ [])) c.in_ok-found.found.rays.items c.in_ok-found.found.lineality.items = rw (c.deref.ensures.value, c.in_ok-all.ensures) at c.in_ok-found.ensures.generators in
    let none : ¬ (Any (λ v. pos 0 <ℤ entry v 0) c.in_ok-found.found.rays.items) = λ w. let t = c.has_point.ensures.1 (rw c.deref-2.ensures.value w) in let f = c.if-has_point.false in cc in
    rw (c.new.ensures.items, c.new-2.ensures.items) (empty_generators c.args.cols c.args.rows.now c.args.equations.now c.requires.row_cols c.requires.equation_cols (no_point c.args.cols c.args.rows.now c.args.equations.now c.requires.row_cols c.requires.equation_cols found none))

pub returns-in_err-found-clause-lost : goal.returns-in_err-found-clause-lost
returns-in_err-found-clause-lost c = λ e.
    let p = err_from_is_err_and c.from_residual-in_err-found.result c.from_residual-in_err-found.ensures.1 in
    rw (p.1, p.2) (rw (c.deref.ensures.value, c.in_ok-all.ensures) at (c.in_err-found.ensures.lost e))
