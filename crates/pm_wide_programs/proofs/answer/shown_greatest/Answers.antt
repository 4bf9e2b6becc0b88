use Rattle.pm_vector.specs.WideInts.{value_of}
use Rattle.pm_wide_programs.proofs.Shown.{shown_infeasible, shown_value}
use Rattle.pm_wide_programs.proofs.ValueRows.{length_values}
use Rattle.pm_wide_programs.proofs.answer.shown_greatest.Goals as goal
use Rattle.pm_wide_programs.specs.Values.{values}
use Rattle.std.proofs.Common.{length, refl, subst, sym, ℕ, ◌<◌, ◌≡◌, ◌∙◌}

pub returns-in_ok-value-in-Optimal : goal.returns-in_ok-value-in-Optimal
returns-in_ok-value-in-Optimal c = record {
  greatest = λ d t.
      let U = c.deref.result.now in
      let Y = c.deref-then-len-count.result.now in
      let nU : length (values U) ≡ length c.args.whole.now.row = length_values U ∙ c.deref.ensures.len ∙ sym c.len.ensures ∙ c.if-len-cols.true ∙ c.len-cols.ensures in
      let nY = length_values Y ∙ c.deref-then-len-count.ensures.len ∙ sym c.len-then-len-cols.ensures ∙ c.if-len-count.true in
      shown_value c.args.inequalities.now c.args.equations.now c.args.whole.now.times c.args.whole.now.row d t (values U) (value_of c.in-Optimal.multipliers.scale) (values Y) c.in_ok-value-in-Optimal.value
      (subst (λ (n : ℕ). 0 < n) (sym nU) c.requires.some) nU nY c.in_ok-value-in-Optimal.ensures;
}

pub returns-then-excludes_points : goal.returns-then-excludes_points
returns-then-excludes_points c = record {
  greatest = λ d t. shown_infeasible c.args.inequalities.now c.args.equations.now (values c.deref-then-len-count-2.result.now)
      (length_values c.deref-then-len-count-2.result.now ∙ c.deref-then-len-count-2.ensures.len ∙ sym c.len-in-Infeasible.ensures ∙ c.if-len-count-2.true) (c.if-excludes_points.ensures refl);
}
