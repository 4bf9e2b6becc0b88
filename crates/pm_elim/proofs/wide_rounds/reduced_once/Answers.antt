use Rattle.pm_elim.proofs.LostLaws.{err_lost, step_lost}
use Rattle.pm_elim.proofs.wide_rounds.reduced_once.Goals as goal
use Rattle.std.proofs.Common.{FitsSigned, rules}
use Rattle.std.proofs.lemmas.Int.{to_z-of_z}
use Rattle.std.specs.Int.{w128}

pub returns-clause-lost : goal.returns-clause-lost
returns-clause-lost c =
    let f : FitsSigned w128 c.factors_at-factors.result.first = search rules in
    let g : FitsSigned w128 c.factors_at-factors.result.second = search rules in
    let lost = rw (to_z-of_z w128 c.factors_at-factors.result.first f, to_z-of_z w128 c.factors_at-factors.result.second g) at c.primitive_difference.ensures.lost in
    err_lost c.primitive_difference.result _ _
    (step_lost {r = c.args.row.now} {b = c.args.by.now} c.factors_at-factors.ensures (λ e. let t = c.if-is_zero_at.ensures.1 e in cc))
    lost
