use Rattle.pm_elim.proofs.Options.{none_weaker, some_weaker}
use Rattle.pm_elim.proofs.StepLaws.{step_stays, step_stays_zero}
use Rattle.pm_elim.proofs.step.wide_column.Goals as goal
use Rattle.std.proofs.Common.{FitsSigned, rules, sym, true≢false, ◌∙◌}
use Rattle.std.proofs.lemmas.Int.{to_z-of_z}
use Rattle.std.specs.Int.{w128}

pub returns-clause-stays : goal.returns-clause-stays
returns-clause-stays c =
    let f : FitsSigned w128 c.factors_at-factors.result.first = search rules in
    let g : FitsSigned w128 c.factors_at-factors.result.second = search rules in
    none_weaker c.first_wide_place.result _ _ (λ d. step_stays c.factors_at-factors.ensures d)
    (rw (c.as_slice.ensures.value, c.as_slice-2.ensures.value, to_z-of_z w128 c.factors_at-factors.result.first f, to_z-of_z w128 c.factors_at-factors.result.second g) at c.first_wide_place.ensures.none)

pub returns-then-is_zero_at-clause-wide : goal.returns-then-is_zero_at-clause-wide
returns-then-is_zero_at-clause-wide c = tt

pub returns-then-is_zero_at-clause-stays : goal.returns-then-is_zero_at-clause-stays
returns-then-is_zero_at-clause-stays c = step_stays_zero (c.is_zero_at.ensures.0 c.if-is_zero_at.true)

pub returns-clause-within : goal.returns-clause-within
returns-clause-within c =
    some_weaker c.first_wide_place.result _ _ (λ i first. first.within) (rw c.as_slice.ensures.value at c.first_wide_place.ensures.some)

pub returns-clause-wide : goal.returns-clause-wide
returns-clause-wide c =
    let f : FitsSigned w128 c.factors_at-factors.result.first = search rules in
    let g : FitsSigned w128 c.factors_at-factors.result.second = search rules in
    some_weaker c.first_wide_place.result _ _
    (λ i first. record {
      p = c.factors_at-factors.result.first;
      q = c.factors_at-factors.result.second;
      not_zero = λ e. let t = c.is_zero_at.ensures.1 e in true≢false (sym t ∙ c.if-is_zero_at.false);
      factors = c.factors_at-factors.ensures;
      wide = first.wide;
    })
    (rw (c.as_slice.ensures.value, c.as_slice-2.ensures.value, to_z-of_z w128 c.factors_at-factors.result.first f, to_z-of_z w128 c.factors_at-factors.result.second g) at c.first_wide_place.ensures.some)
