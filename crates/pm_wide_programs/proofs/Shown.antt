-- What is shown by whole rows is right, whether or not its fractions fit the range.
use Rattle.pm_dual.specs.Answers.{IsAnswer}
use Rattle.pm_dual.specs.declared.answer.LpAnswer.TheVariants.{Infeasible, Optimal, Unbounded}
use Rattle.pm_dual.specs.declared.answer.LpAnswer.{LpAnswer}
use Rattle.pm_fraction.specs.Fractions.{ratio_of}
use Rattle.pm_geom.proofs.Duality.{direction_is_without_bound, infeasible_has_no_point, optimum_is_maximum}
use Rattle.pm_geom.specs.Programs.{HasNoPoint, IsDual, IsMaximum, IsTimes, IsWithoutBound, Solves}
use Rattle.pm_types.specs.Programs.{IsGreatest}
use Rattle.pm_vector.proofs.Ring.{ring}
use Rattle.pm_vector.proofs.RowLaws.{entry-plus, entry-times, length-times}
use Rattle.pm_vector.proofs.Signs.{pos_cancel}
use Rattle.pm_vector.specs.Cones.{combination}
use Rattle.pm_vector.specs.Numbers.{Ratio}
use Rattle.pm_vector.specs.Rows.{Row, Same, entry, plus, ratio_at, times}
use Rattle.pm_wide_programs.specs.Greatest.{greatest_in}
use Rattle.pm_wide_programs.specs.Shown.{IsShownInfeasible, IsShownUnbounded, IsShownValue}
use Rattle.std.proofs.Common.{ap, arith, subst, sym, ◌∙◌}
use Rattle.std.proofs.lemmas.Int.{ints}
use Rattle.std.proofs.lemmas.List.{get_or-map, length-map}
use Rattle.std.specs.Prelude.{List, [], length, map, ℕ, ◌+◌, ◌++◌, ◌<◌, ◌∷◌, ◌≡◌}
use lib.IntN.{pos, ℤ, ◌*ℤ◌, ◌+ℤ◌}
use lib.Signed.{◌<ℤ◌, ◌≤ℤ◌}

-- ---- whole numbers over one denominator, in whatever terms
abbrev over : ℤ → Row → List Ratio
over d Y = map (λ z. ratio_of z d) Y

length_over : (d : ℤ) (Y : Row) → length (over d Y) ≡ length Y
length_over d Y = simp length-map

over_at : (d : ℤ) (Y : Row) (i : ℕ) → i < length Y → ratio_at (over d Y) i ≡ ratio_of (entry Y i) d
over_at d Y i l = get_or-map (λ z. ratio_of z d) Y i (pos 0) _ l

times_over : (d : ℤ) (Y : Row) → pos 0 <ℤ d → IsTimes d (over d Y) Y
times_over d Y h = record {
  positive = h;
  cols = sym (length_over d Y);
  denominators = λ i l. subst (λ (r : Ratio). pos 0 <ℤ r.den) (sym (over_at d Y i (within i l))) h;
  same = λ i l. subst (λ (r : Ratio). entry Y i *ℤ r.den ≡ d *ℤ r.num) (sym (over_at d Y i (within i l))) (turn (entry Y i));
}
  where
    within : (i : ℕ) → i < length (over d Y) → i < length Y
    within i l = (let e = length_over d Y in omega arith)

    turn : (z : ℤ) → z *ℤ d ≡ d *ℤ z
    turn z = simp ring

-- ---- an optimum
module _ (A B : List Row) (k : ℤ) (X : Row) (c : List Ratio) (tc : IsTimes k c X) where
  dual_is : (d : ℤ) (Y : Row) (v : Ratio) (s : ℤ) → length Y ≡ length A + length B → ((i : ℕ) → i < length A → pos 0 ≤ℤ entry Y i) → pos 0 <ℤ (d *ℤ k) → pos 0 <ℤ v.den → v.num *ℤ (d *ℤ k) ≡ s *ℤ v.den
      → Same (s ∷ []) (plus (times d X) (combination Y (A ++ B))) → IsDual A B c v (over (d *ℤ k) Y)
  dual_is d Y v s nY up hd hv e sum = record {
    multipliers = record { as_many = length_over (d *ℤ k) Y ∙ nY; not_negative = λ i l. subst (λ (r : Ratio). pos 0 ≤ℤ r.num) (sym (over_at (d *ℤ k) Y i (omega arith))) (up i l) };
    k = d *ℤ k;
    objective = times d X;
    coefficients = Y;
    constant = s;
    objective_times = record {
      positive = hd;
      cols = length-times d X ∙ tc.cols;
      denominators = tc.denominators;
      same = λ i l. ap (λ z. z *ℤ (ratio_at c i).den) (entry-times d X i) ∙ more (entry X i) (ratio_at c i).den (ratio_at c i).num (tc.same i l);
    };
    coefficients_times = times_over (d *ℤ k) Y hd;
    positive = hv;
    constant_times = sym e ∙ turn v.num (d *ℤ k);
    sum = record { at = λ i. sym (sum.at i) };
  }
    where
      more : (x m n : ℤ) → x *ℤ m ≡ k *ℤ n → (d *ℤ x) *ℤ m ≡ (d *ℤ k) *ℤ n
      more x m n e = let f = simp ring at (ap (λ z. d *ℤ z) e) in simp ring (omega (arith, ints))

      turn : (a b : ℤ) → a *ℤ b ≡ b *ℤ a
      turn a b = simp ring

  pub shown_value : (U : Row) (d : ℤ) (Y : Row) (v : Ratio) → 0 < length U → length U ≡ length X → length Y ≡ length A + length B → IsShownValue A B k X U d Y v → IsMaximum (Solves A B) c v
  shown_value U d Y v some nU nY shown = optimum_is_maximum A B c v (over u U) (over (d *ℤ k) Y) (record {
    cols = length_over u U ∙ nU ∙ tc.cols;
    point = record { some = (let e = length_over u U in omega arith); first = ap (λ (r : Ratio). r.num) (over_at u U 0 some) ∙ sym (ap (λ (r : Ratio). r.den) (over_at u U 0 some)); k = u; whole = U; times = times_over u U u_up; solves = shown.solves };
    value = record { k = k; h = u; objective = X; point = U; objective_times = tc; point_times = times_over u U u_up; positive = shown.common.value.reduced.positive; value = sym shown.common.value.same ∙ regroup v.num u };
    dual = dual_is d Y v shown.common.constant nY shown.up shown.common.scale shown.common.bound.reduced.positive shown.common.bound.same shown.common.sum;
  })
    where
      u : ℤ
      u = entry U 0

      turn : (a b : ℤ) → a *ℤ b ≡ b *ℤ a
      turn a b = simp ring

      regroup : (n a : ℤ) → n *ℤ (a *ℤ k) ≡ (k *ℤ a) *ℤ n
      regroup n a = simp ring

      u_up : pos 0 <ℤ u
      u_up = pos_cancel tc.positive (subst (λ z. pos 0 <ℤ z) (turn u k) shown.common.first)

  -- ---- no bound
  pub shown_unbounded : (U W : Row) → length U ≡ length X → length W ≡ length X → IsShownUnbounded A B X U W → IsWithoutBound (Solves A B) c
  shown_unbounded U W nU nW shown = record {
    k = k;
    objective = X;
    point = U;
    direction = W;
    times = tc;
    point_cols = nU ∙ tc.cols;
    direction_cols = nW ∙ tc.cols;
    point_inside = shown.point;
    direction_inside = shown.direction;
    first = shown.first;
    level = shown.level;
    improves = shown.improves;
  }

-- ---- no point
pub shown_infeasible : (A B : List Row) (Y : Row) → length Y ≡ length A + length B → IsShownInfeasible A B Y → HasNoPoint (Solves A B)
shown_infeasible A B Y nY shown = infeasible_has_no_point A B (over (pos 1) Y) (record {
  multipliers = record { as_many = length_over (pos 1) Y ∙ nY; not_negative = λ i l. subst (λ (r : Ratio). pos 0 ≤ℤ r.num) (sym (over_at (pos 1) Y i (omega arith))) (shown.up i l) };
  k = pos 1;
  coefficients = Y;
  constant = shown.constant;
  coefficients_times = times_over (pos 1) Y (omega (arith, ints));
  negative = shown.negative;
  sum = record { at = λ i. sym (shown.sum.at i) };
})

-- a constant that rows make with what is 0 everywhere
pub without_none : (S T : Row) (v : ℤ) → ((i : ℕ) → entry S i ≡ pos 0) → Same (v ∷ []) (plus S T) → Same (v ∷ []) T
without_none S T v none sum = record { at = λ i. sum.at i ∙ entry-plus S T i ∙ same (entry S i) (entry T i) (none i) }
  where
    same : (s t : ℤ) → s ≡ pos 0 → s +ℤ t ≡ t
    same s t e = omega (arith, ints)

-- ---- what an answer tells is the greatest value at the solutions
pub told : (A E : List Row) (c : List Ratio) (answer : LpAnswer) → IsAnswer A E c answer → IsGreatest (Solves A E) c (greatest_in answer)
told A E c (Optimal value point dual) h = optimum_is_maximum A E c value point.items dual.items h
told A E c (Unbounded point direction) h = direction_is_without_bound A E c point.items direction.items h
told A E c (Infeasible multipliers) h = infeasible_has_no_point A E multipliers.items h
