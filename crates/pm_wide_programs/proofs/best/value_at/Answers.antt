use Rattle.pm_fraction.specs.Fractions.{IsLowestTermsOf, ratio_of}
use Rattle.pm_vector.specs.Rows.{dot, entry}
use Rattle.pm_vector.specs.WideInts.{value_of}
use Rattle.pm_wide_programs.proofs.Slacks.{stands_made}
use Rattle.pm_wide_programs.proofs.best.value_at.Goals as goal
use Rattle.pm_wide_programs.specs.Slacks.{StandsAt}
use Rattle.std.proofs.Common.{ap₂, arith, pos, rules, subst, ◌*ℤ◌, ◌<ℤ◌, ◌≡◌, ◌∙◌}
use Rattle.std.proofs.lemmas.Int.{ints, to_z-of_z}
use Rattle.std.proofs.lemmas.Option.{IfSome_then}
use mir.Syntax.{w128}

pub returns : goal.returns
returns c =
    let up : pos 0 <ℤ entry c.args.x.now 0 = subst (λ z. pos 0 <ℤ z) c.get.ensures.value (let n = c.if-get-le0.false in omega (arith, ints)) in
    let product : value_of c.wide_dot-product.result ≡ dot c.args.objective.now.row c.args.x.now = c.wide_dot-product.ensures.value ∙ ap₂ dot c.as_slice.ensures.value c.as_slice-2.ensures.value in
    let first : value_of c.product.result ≡ entry c.args.x.now 0 *ℤ c.args.objective.now.times =
    c.product.ensures ∙ ap₂ (λ m o. m *ℤ o) (to_z-of_z w128 c.get-2.result (search rules) ∙ c.get-2.ensures.value) (to_z-of_z w128 c.args.objective.now.times (search rules)) in
    IfSome_then c.quotient.result {P = IsLowestTermsOf (ratio_of (value_of c.wide_dot-product.result) (value_of c.product.result))} {Q = StandsAt c.args.objective.now.times c.args.objective.now.row c.args.x.now} c.quotient.ensures.lowest
    (λ v l. stands_made c.args.objective.now.times c.args.objective.now.row c.args.x.now v (value_of c.wide_dot-product.result) (value_of c.product.result) up product first l)
