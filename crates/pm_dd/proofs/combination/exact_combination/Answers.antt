use Rattle.pm_vector.specs.Divisors.{IsPrimitiveOf}
use Rattle.pm_vector.specs.Rows.{difference}
use Rattle.pm_dd.proofs.Combinations.{column_fail, combination_is}
use Rattle.pm_dd.proofs.Outcomes.{err_weaker, ok_weaker}
use Rattle.pm_dd.proofs.combination.exact_combination.Goals as goal
use Rattle.pm_dd.specs.Building.{IsCombination}
use Rattle.pm_dd.specs.StepFails.{IfColumn, IsCombinationFail, IsWideFactors}
use Rattle.std.proofs.Common.{FitsSigned, sym, ◌∙◌}
use Rattle.std.proofs.lemmas.Int.{fits_signed_from_abs, to_z-of_z}
use Rattle.std.specs.Int.{w128}

pub returns-clause-combination : goal.returns-clause-combination
returns-clause-combination c =
    let f : FitsSigned w128 c.in-Some.p = fits_signed_from_abs w128 c.in-Some.p c.in-Some.ensures.in_range in
    let g : FitsSigned w128 c.in-Some-exact_product.q = fits_signed_from_abs w128 c.in-Some-exact_product.q c.in-Some-exact_product.ensures.in_range in
    ok_weaker c.narrow_combination.result (λ w. IsPrimitiveOf (difference c.in-Some.p c.args.down.now c.in-Some-exact_product.q c.args.up.now) w) (λ w. IsCombination c.args.row.now c.args.up.now c.args.down.now w)
    (λ w h. combination_is c.args.row.now c.args.up.now c.args.down.now w c.in-Some.p c.in-Some-exact_product.q c.in-Some.ensures.exact c.in-Some-exact_product.ensures.exact h)
    (rw (to_z-of_z w128 c.in-Some.p f, to_z-of_z w128 c.in-Some-exact_product.q g) at c.narrow_combination.ensures.combination)

pub returns-clause-fail : goal.returns-clause-fail
returns-clause-fail c =
    let f : FitsSigned w128 c.in-Some.p = fits_signed_from_abs w128 c.in-Some.p c.in-Some.ensures.in_range in
    let g : FitsSigned w128 c.in-Some-exact_product.q = fits_signed_from_abs w128 c.in-Some-exact_product.q c.in-Some-exact_product.ensures.in_range in
    err_weaker c.narrow_combination.result (λ e. IfColumn e (λ k. IsWideFactors c.args.up.now c.in-Some.p c.args.down.now c.in-Some-exact_product.q k)) (λ e. IsCombinationFail c.args.row.now c.args.up.now c.args.down.now e)
    (λ e h. column_fail c.args.row.now c.args.up.now c.args.down.now c.in-Some.p c.in-Some-exact_product.q c.in-Some.ensures.exact c.in-Some-exact_product.ensures.exact (sym c.requires.down_cols ∙ c.requires.up_cols) e h)
    (rw (to_z-of_z w128 c.in-Some.p f, to_z-of_z w128 c.in-Some-exact_product.q g) at c.narrow_combination.ensures.wide)
