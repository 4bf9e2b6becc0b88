use Rattle.pm_vector.specs.Cones.{combination}
use Rattle.pm_vector.specs.Rows.{Same, plus}
use Rattle.pm_dual.proofs.Optimum.{infeasible_is}
use Rattle.pm_dual.proofs.check.infeasible.Goals as goal
use Rattle.std.proofs.Common.{[], arith, refl, rules, subst, ℤ, ◌++◌, ◌∷◌}
use Rattle.std.proofs.lemmas.Int.{ints, to_z-of_z}
use mir.Syntax.{w128}

pub returns : goal.returns
returns c k =
    infeasible_is c.args.inequalities.now c.args.equations.now c.args.multipliers.now c.in_ok-start.start c.args.constant c.in-Some.multipliers.items c.requires.as_many (c.if-not-sums_to.ensures.up refl) c.in_ok-start.ensures.zero
    (subst (λ (z : ℤ). Same (z ∷ []) (plus c.in_ok-start.start (combination c.args.multipliers.now (c.args.inequalities.now ++ c.args.equations.now)))) (to_z-of_z w128 c.args.constant (search rules)) (c.if-not-sums_to.ensures.sum refl))
    (let n = c.if-constant-ge0.false in omega (arith, ints)) (rw c.in-Some.is at c.in_ok-multipliers.ensures)
