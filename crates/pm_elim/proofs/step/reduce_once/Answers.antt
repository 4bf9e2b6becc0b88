use Rattle.pm_elim.proofs.StepLaws.{step_stays, step_stays_zero}
use Rattle.pm_elim.proofs.step.reduce_once.Goals as goal
use Rattle.std.proofs.Common.{FitsSigned, arith, inl, inr, refl, rules}
use Rattle.std.proofs.lemmas.Int.{to_z-of_z}
use Rattle.std.specs.Int.{w128}

pub returns-in-Ok-clause-stays : goal.returns-in-Ok-clause-stays
returns-in-Ok-clause-stays c =
    let f : FitsSigned w128 c.factors_at-factors.result.first = search rules in
    let g : FitsSigned w128 c.factors_at-factors.result.second = search rules in
    step_stays c.factors_at-factors.ensures (rw (to_z-of_z w128 c.factors_at-factors.result.first f, to_z-of_z w128 c.factors_at-factors.result.second g) at c.in-Ok.ensures.stays)

pub returns-in-Some-clause-wide : goal.returns-in-Some-clause-wide
returns-in-Some-clause-wide c =
    let f : FitsSigned w128 c.factors_at-factors.result.first = search rules in
    let g : FitsSigned w128 c.factors_at-factors.result.second = search rules in
    record {
      p = c.factors_at-factors.result.first;
      q = c.factors_at-factors.result.second;
      not_zero = λ e. let t = c.if-is_zero_at.ensures.1 e in cc;
      factors = c.factors_at-factors.ensures;
      wide = rw (c.as_slice.ensures.value, c.as_slice-in-Err.ensures.value, c.in-Err.ensures.unchanged, to_z-of_z w128 c.factors_at-factors.result.first f, to_z-of_z w128 c.factors_at-factors.result.second g) at c.in-Some.ensures.some.wide;
    }

pub returns-then-is_zero_at-clause-reduced : goal.returns-then-is_zero_at-clause-reduced
returns-then-is_zero_at-clause-reduced c = inl (c.if-is_zero_at.ensures.0 refl, refl)

pub returns-then-is_zero_at-clause-stays : goal.returns-then-is_zero_at-clause-stays
returns-then-is_zero_at-clause-stays c = step_stays_zero (c.if-is_zero_at.ensures.0 refl)

pub factors_at-factors-requires-clause-in_basis_row : goal.factors_at-factors-requires-clause-in_basis_row
factors_at-factors-requires-clause-in_basis_row c = let same = c.requires.same_length in let within = c.requires.within in omega arith

pub combine-requires : goal.combine-requires
combine-requires c = c.requires.same_length

pub first_wide_place-requires : goal.first_wide_place-requires
first_wide_place-requires c = rw (c.as_slice.ensures.value, c.as_slice-in-Err.ensures.value, c.in-Err.ensures.unchanged) c.requires.same_length

pub unreachable-unreachable : goal.unreachable-unreachable
unreachable-unreachable c = c.in-Err.ensures.wide (rw (c.as_slice.ensures.value, c.as_slice-in-Err.ensures.value, c.in-Err.ensures.unchanged) at c.in_default.ensures.none)

pub returns-in-Ok-clause-reduced : goal.returns-in-Ok-clause-reduced
returns-in-Ok-clause-reduced c =
    let f : FitsSigned w128 c.factors_at-factors.result.first = search rules in
    let g : FitsSigned w128 c.factors_at-factors.result.second = search rules in
    let value = rw (to_z-of_z w128 c.factors_at-factors.result.first f, to_z-of_z w128 c.factors_at-factors.result.second g) at c.in-Ok.ensures.value in
    inr (record {
      p = c.factors_at-factors.result.first;
      q = c.factors_at-factors.result.second;
      not_zero = λ e. let t = c.if-is_zero_at.ensures.1 e in cc;
      factors = c.factors_at-factors.ensures;
      result = rw value at c.primitive.ensures.primitive;
    })

pub returns-in-Some-clause-unchanged : goal.returns-in-Some-clause-unchanged
returns-in-Some-clause-unchanged c = c.in-Err.ensures.unchanged
