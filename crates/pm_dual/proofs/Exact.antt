-- No program is such in two ways: a greatest value, no bound and no point exclude one another.
use Rattle.pm_vector.proofs.Ring.{ring}
use Rattle.pm_vector.proofs.RowLaws.{dot-plus, dot-times, entry-plus, entry-times}
use Rattle.pm_vector.proofs.Signs.{mul_le, mul_nonneg, mul_pos}
use Rattle.pm_vector.specs.Numbers.{Ratio}
use Rattle.pm_vector.specs.Rows.{Row, dot, entry, plus, times}
use Rattle.pm_dual.specs.Exact.{AnswersAreExact}
use Rattle.pm_dual.specs.declared.answer.LpAnswer.TheVariants.{Infeasible, Optimal, Unbounded}
use Rattle.pm_geom.proofs.Duality.{direction_is_without_bound, infeasible_has_no_point, optimum_is_maximum}
use Rattle.pm_geom.specs.Programs.{HasNoPoint, IsMaximum, IsWithoutBound, Solves}
use Rattle.std.proofs.Common.{ap, arith, refl, subst, sym, true≢false, ◌∙◌}
use Rattle.std.proofs.lemmas.Int.{ints}
use Rattle.std.specs.List.{AllByRecursion}
use Rattle.std.specs.Prelude.{List, [], ◌∷◌, ◌≡◌}
use lib.IntN.{pos, ℤ, ◌*ℤ◌, ◌+ℤ◌, ◌-ℤ◌}
use lib.Signed.{◌<ℤ◌, ◌≤ℤ◌}

-- ---- far along a direction
-- p + t d solves what p and d solve
module _ (t : ℤ) (p d : Row) (ht : pos 0 ≤ℤ t) where
  along : (a : Row) → dot a (plus p (times t d)) ≡ dot a p +ℤ t *ℤ dot a d
  along a = dot-plus a p (times t d) ∙ ap (λ z. dot a p +ℤ z) (dot-times a t d)

  up_at : (a : Row) → pos 0 ≤ℤ dot a p → pos 0 ≤ℤ dot a d → pos 0 ≤ℤ dot a (plus p (times t d))
  up_at a h k = let e = along a in let m = mul_nonneg ht k in omega (arith, ints)

  level_sum : (z u w : ℤ) → z ≡ u +ℤ t *ℤ w → u ≡ pos 0 → w ≡ pos 0 → z ≡ pos 0
  level_sum z u w e h k = e ∙ ap (λ x. u +ℤ t *ℤ x) k ∙ ap (λ x. x +ℤ t *ℤ pos 0) h ∙ (simp ring)

  ups : (A : List Row) → AllByRecursion (λ a. pos 0 ≤ℤ dot a p) A → AllByRecursion (λ a. pos 0 ≤ℤ dot a d) A → AllByRecursion (λ a. pos 0 ≤ℤ dot a (plus p (times t d))) A
  ups [] h k = tt
  ups (a ∷ A) h k = (up_at a h.0 k.0, ups A h.1 k.1)

  levels : (B : List Row) → AllByRecursion (λ b. dot b p ≡ pos 0) B → AllByRecursion (λ b. dot b d ≡ pos 0) B → AllByRecursion (λ b. dot b (plus p (times t d)) ≡ pos 0) B
  levels [] h k = tt
  levels (b ∷ B) h k = (level_sum (dot b (plus p (times t d))) (dot b p) (dot b d) (along b) h.0 k.0, levels B h.1 k.1)

  solves_along : (A B : List Row) → Solves A B p → Solves A B d → Solves A B (plus p (times t d))
  solves_along A B h k = record { inequalities = ups A h.inequalities k.inequalities; equations = levels B h.equations k.equations }

-- a value that grows by g D > 0 with each step exceeds R in the end
expanded : (a t g D : ℤ) → (a +ℤ t *ℤ g) *ℤ D ≡ a *ℤ D +ℤ t *ℤ (g *ℤ D)
expanded a t g D = simp ring

exceeds : (a g D R : ℤ) → (a *ℤ D) ≤ℤ R → pos 0 <ℤ g → pos 0 <ℤ D → ((a +ℤ ((R -ℤ a *ℤ D) +ℤ pos 1) *ℤ g) *ℤ D) ≤ℤ R → ⊥
exceeds a g D R h hg hD q =
    let m = mul_pos hg hD in
    let n : (((R -ℤ a *ℤ D) +ℤ pos 1) *ℤ pos 1) ≤ℤ (((R -ℤ a *ℤ D) +ℤ pos 1) *ℤ (g *ℤ D)) = mul_le {a = (R -ℤ a *ℤ D) +ℤ pos 1} {b = pos 1} {c = g *ℤ D} (omega (arith, ints)) (omega (arith, ints)) in
    last ((R -ℤ a *ℤ D) +ℤ pos 1) (a *ℤ D) (((R -ℤ a *ℤ D) +ℤ pos 1) *ℤ (g *ℤ D)) refl n (subst (λ z. z ≤ℤ R) (expanded a ((R -ℤ a *ℤ D) +ℤ pos 1) g D) q)
  where
    last : (t b w : ℤ) → t ≡ (R -ℤ b) +ℤ pos 1 → (t *ℤ pos 1) ≤ℤ w → (b +ℤ w) ≤ℤ R → ⊥
    last t b w e f k = omega (arith, ints)

-- ---- one at most
pub maximum_is_bound : (A B : List Row) (c : List Ratio) (v : Ratio) → IsMaximum (Solves A B) c v → IsWithoutBound (Solves A B) c → ⊥
maximum_is_bound A B c v m u =
    exceeds (dot u.objective u.point) (dot u.objective u.direction) v.den R start u.improves m.attained.positive
    (subst (λ z. (z *ℤ v.den) ≤ℤ R) (along t u.point u.direction steps u.objective) (subst (λ z. (dot u.objective far *ℤ v.den) ≤ℤ ((u.k *ℤ z) *ℤ v.num)) first
    (m.greatest.holds u.k u.objective far u.times (solves_along t u.point u.direction steps A B u.point_inside u.direction_inside) (subst (λ z. pos 0 <ℤ z) (sym first) u.first))))
  where
    R : ℤ
    R = (u.k *ℤ entry u.point 0) *ℤ v.num

    start : (dot u.objective u.point *ℤ v.den) ≤ℤ R
    start = m.greatest.holds u.k u.objective u.point u.times u.point_inside u.first

    t : ℤ
    t = (R -ℤ dot u.objective u.point *ℤ v.den) +ℤ pos 1

    steps : pos 0 ≤ℤ t
    steps = let h = start in omega (arith, ints)

    far : Row
    far = plus u.point (times t u.direction)

    still : (z x y : ℤ) → z ≡ x +ℤ t *ℤ y → y ≡ pos 0 → z ≡ x
    still z x y e f = e ∙ ap (λ w. x +ℤ t *ℤ w) f ∙ (simp ring (omega (arith, ints)))

    first : entry far 0 ≡ entry u.point 0
    first = still (entry far 0) (entry u.point 0) (entry u.direction 0) (entry-plus u.point (times t u.direction) 0 ∙ ap (λ z. entry u.point 0 +ℤ z) (entry-times t u.direction 0)) u.level

pub maximum_has_point : (A B : List Row) (c : List Ratio) (v : Ratio) → IsMaximum (Solves A B) c v → HasNoPoint (Solves A B) → ⊥
maximum_has_point A B c v m none = none m.attained.whole m.attained.inside m.attained.first

pub boundless_has_point : (A B : List Row) (c : List Ratio) → IsWithoutBound (Solves A B) c → HasNoPoint (Solves A B) → ⊥
boundless_has_point A B c u none = none u.point u.point_inside u.first

-- ---- the law
pub answers_are_exact : AnswersAreExact
answers_are_exact A B c (Optimal value point dual) h =
    let m = optimum_is_maximum A B c value point.items dual.items h in
    record {
      optimal = (λ e. record { value = value; maximum = m }, λ k. refl);
      value = m;
      unbounded = (λ e. absurd (true≢false (sym e)), λ u. absurd (maximum_is_bound A B c value m u));
      infeasible = (λ e. absurd (true≢false (sym e)), λ none. absurd (maximum_has_point A B c value m none));
    }
answers_are_exact A B c (Unbounded point direction) h =
    let u = direction_is_without_bound A B c point.items direction.items h in
    record {
      optimal = (λ e. absurd (true≢false (sym e)), λ k. absurd (maximum_is_bound A B c k.value k.maximum u));
      value = tt;
      unbounded = (λ e. u, λ k. refl);
      infeasible = (λ e. absurd (true≢false (sym e)), λ none. absurd (boundless_has_point A B c u none));
    }
answers_are_exact A B c (Infeasible multipliers) h =
    let none = infeasible_has_no_point A B multipliers.items h in
    record {
      optimal = (λ e. absurd (true≢false (sym e)), λ k. absurd (maximum_has_point A B c k.value k.maximum none));
      value = tt;
      unbounded = (λ e. absurd (true≢false (sym e)), λ u. absurd (boundless_has_point A B c u none));
      infeasible = (λ e. none, λ k. refl);
    }
