-- Weak duality, and that multipliers exclude a point.
use Rattle.pm_vector.proofs.Ring.{ring}
use Rattle.pm_vector.proofs.RowLaws.{dot-plus, dot-same, dot-times, dot_comm, entry-times}
use Rattle.pm_vector.proofs.Signs.{le_cancel, mul_cancel, mul_le, mul_nonneg, mul_pos, nonneg_cancel, pos_cancel}
use Rattle.pm_vector.specs.Cones.{combination}
use Rattle.pm_vector.specs.Numbers.{Ratio}
use Rattle.pm_vector.specs.Rows.{Row, dot, entry, plus, ratio_at, times}
use Rattle.pm_geom.specs.Duality.{DirectionIsWithoutBound, InfeasibleExcludes, InfeasibleHasNoPoint, OptimumIsMaximum, WeakDuality}
use Rattle.pm_geom.specs.Programs.{AreMultipliers, IsDual, IsTimes, Solves}
use Rattle.std.proofs.Common.{ap, arith, refl, sym, ◌∙◌}
use Rattle.std.proofs.lemmas.Int.{ints}
use Rattle.std.specs.List.{AllByRecursion}
use Rattle.std.specs.Prelude.{List, [], length, suc, zero, ℕ, ◌++◌, ◌<◌, ◌∷◌, ◌≡◌, ◌≤◌}
use lib.IntN.{neg_ℤ, pos, ℤ, ◌*ℤ◌, ◌+ℤ◌}
use lib.Signed.{◌<ℤ◌, ◌≤ℤ◌}
use native.Mathlib.Decide.{dec_lt}

times_zero : (p a b : ℤ) → b ≡ p *ℤ a → a ≡ pos 0 → b ≡ pos 0
times_zero p a b e h = let f = ap (λ t. p *ℤ t) h in e ∙ f ∙ (simp ring)

past_end : (x : Row) (i : ℕ) → length x ≤ i → entry x i ≡ pos 0
past_end [] i l = refl
past_end (a ∷ x) zero l = absurd (omega arith)
past_end (a ∷ x) (suc i) l = past_end x i (omega arith)

-- two whole multiples of one row
proportional : (k h : ℤ) (r : List Ratio) (x z : Row) → IsTimes k r x → IsTimes h r z → (i : ℕ) → entry (times h x) i ≡ entry (times k z) i
proportional k h r x z a b i = elim (dec_lt i (length r)) [
  | yes l ↦ entry-times h x i ∙ within (entry x i) (entry z i) (ratio_at r i).den (ratio_at r i).num (a.denominators i l) (a.same i l) (b.same i l) ∙ sym (entry-times k z i)
  | no n ↦
      let p = past_end x i (let c = a.cols in omega arith) in
      let q = past_end z i (let c = b.cols in omega arith) in
      entry-times h x i ∙ times_zero h (entry x i) (h *ℤ entry x i) refl p ∙ sym (entry-times k z i ∙ times_zero k (entry z i) (k *ℤ entry z i) refl q)
]
  where
    within : (u w d n : ℤ) → pos 0 <ℤ d → u *ℤ d ≡ k *ℤ n → w *ℤ d ≡ h *ℤ n → h *ℤ u ≡ k *ℤ w
    within u w d n hd e f =
        mul_cancel hd
        (let x' = simp ring at (ap (λ t. h *ℤ t) e) in
        let y' = ap (λ t. k *ℤ t) f in
        simp ring (omega (arith, ints)))

dot_proportional : (a : Row) (k h : ℤ) (r : List Ratio) (x z : Row) → IsTimes k r x → IsTimes h r z → h *ℤ dot a x ≡ k *ℤ dot a z
dot_proportional a k h r x z s t = sym (dot-times a h x) ∙ dot-same a (times h x) (times k z) (proportional k h r x z s t) ∙ dot-times a k z

dot_multiple : (a : Row) (m : ℤ) (X : Row) → dot a (times m X) ≡ m *ℤ dot a X
dot_multiple a m X = dot-times a m X

solves_multiple : (k h : ℤ) (r : List Ratio) (x z : Row) (A B : List Row) → IsTimes k r x → IsTimes h r z → Solves A B x → Solves A B z
solves_multiple k h r x z A B s t v = record { inequalities = ups A v.inequalities; equations = levels B v.equations }
  where
    up : (a : Row) → pos 0 ≤ℤ dot a x → pos 0 ≤ℤ dot a z
    up a p = nonneg_cancel s.positive (let e = dot_proportional a k h r x z s t in let q = mul_nonneg (let b = t.positive in let c : pos 0 ≤ℤ h = omega (arith, ints) in c) p in omega (arith, ints))

    level : (a : Row) → dot a x ≡ pos 0 → dot a z ≡ pos 0
    level a p = mul_cancel s.positive (let e = dot_proportional a k h r x z s t in let q = ap (λ u. h *ℤ u) p in simp ring (let q' = simp ring at q in omega (arith, ints)))

    ups : (A : List Row) → AllByRecursion (λ a. pos 0 ≤ℤ dot a x) A → AllByRecursion (λ a. pos 0 ≤ℤ dot a z) A
    ups [] h = tt
    ups (a ∷ A) (p, q) = (up a p, ups A q)

    levels : (B : List Row) → AllByRecursion (λ b. dot b x ≡ pos 0) B → AllByRecursion (λ b. dot b z ≡ pos 0) B
    levels [] h = tt
    levels (a ∷ B) (p, q) = (level a p, levels B q)

-- the sum of the rows is not negative at what solves them
level_sum : (B : List Row) (y x : Row) → AllByRecursion (λ b. dot b x ≡ pos 0) B → dot (combination y B) x ≡ pos 0
level_sum B [] x h = refl
level_sum [] (m ∷ y) x h = refl
level_sum (b ∷ B) (m ∷ y) x (p, q) =
    let r = level_sum B y x q in
    dot_comm (plus (times m b) (combination y B)) x ∙ dot-plus x (times m b) (combination y B)
    ∙ level_both (dot x (times m b)) (dot x (combination y B)) (dot-times x m b ∙ ap (λ u. m *ℤ u) (dot_comm x b ∙ p) ∙ (simp ring)) (dot_comm x (combination y B) ∙ r)
  where
    level_both : (u w : ℤ) → u ≡ pos 0 → w ≡ pos 0 → u +ℤ w ≡ pos 0
    level_both u w e f = omega (arith, ints)

up_sum : (A B : List Row) (y x : Row) → Solves A B x → ((i : ℕ) → i < length A → pos 0 ≤ℤ entry y i) → pos 0 ≤ℤ dot (combination y (A ++ B)) x
up_sum [] B y x s f = let e = level_sum B y x s.equations in omega (arith, ints)
up_sum (a ∷ A) B [] x s f = omega (arith, ints)
up_sum (a ∷ A) B (m ∷ y) x s f =
    let r = up_sum A B y x (record { inequalities = s.inequalities.1; equations = s.equations }) (λ i li. f (suc i) (omega arith)) in
    let p = mul_nonneg (f 0 (omega arith)) (s.inequalities.0) in
    both (dot a x) (dot (combination y (A ++ B)) x) (dot (plus (times m a) (combination y (A ++ B))) x)
    (dot_comm (plus (times m a) (combination y (A ++ B))) x ∙ dot-plus x (times m a) (combination y (A ++ B)) ∙ ap (λ u. u +ℤ dot x (combination y (A ++ B))) (dot-times x m a ∙ ap (λ u. m *ℤ u) (dot_comm x a)) ∙ ap (λ u. m *ℤ dot a x +ℤ u) (dot_comm x (combination y (A ++ B)))) p r
  where
    both : (u w t : ℤ) → t ≡ m *ℤ u +ℤ w → pos 0 ≤ℤ (m *ℤ u) → pos 0 ≤ℤ w → pos 0 ≤ℤ t
    both u w t e p r = omega (arith, ints)

coefficients_up : (A B : List Row) (k : ℤ) (y : List Ratio) (Y : Row) → AreMultipliers A B y → IsTimes k y Y → (i : ℕ) → i < length A → pos 0 ≤ℤ entry Y i
coefficients_up A B k y Y m t i li =
    let l : i < length y = (let a = m.as_many in omega arith) in
    let e = t.same i l in
    let p = mul_nonneg (let a = t.positive in let c : pos 0 ≤ℤ k = omega (arith, ints) in c) (m.not_negative i li) in
    nonneg_cancel (t.denominators i l) (swapped (entry Y i) (ratio_at y i).den (k *ℤ (ratio_at y i).num) e p)
  where
    swapped : (u d w : ℤ) → u *ℤ d ≡ w → pos 0 ≤ℤ w → pos 0 ≤ℤ (d *ℤ u)
    swapped u d w e h = omega (arith, ints)

dot_constant : (v : ℤ) (x : Row) → dot (v ∷ []) x ≡ v *ℤ entry x 0
dot_constant v [] = simp ring
dot_constant v (a ∷ x) = omega (arith, ints)

-- the first entry of k times a point is k
first_entry : (k : ℤ) (p : List Ratio) (x : Row) → 0 < length p → (ratio_at p 0).num ≡ (ratio_at p 0).den → IsTimes k p x → entry x 0 ≡ k
first_entry k p x l f t = mul_cancel (t.denominators 0 l) (first (entry x 0) (ratio_at p 0).den (ratio_at p 0).num (t.same 0 l) f)
  where
    first : (u d n : ℤ) → u *ℤ d ≡ k *ℤ n → n ≡ d → d *ℤ u ≡ d *ℤ k
    first u d n e g = let h = ap (λ z. k *ℤ z) g in omega (arith, ints)

pub infeasible_excludes : InfeasibleExcludes
infeasible_excludes A B y p h q =
    let e = dot-same q.whole (combination h.coefficients (A ++ B)) (h.constant ∷ []) h.sum.at in
    let u = up_sum A B h.coefficients q.whole q.solves (coefficients_up A B h.k y h.coefficients h.multipliers h.coefficients_times) in
    clash h.constant q.k (entry q.whole 0) (dot (combination h.coefficients (A ++ B)) q.whole)
    (dot_comm (combination h.coefficients (A ++ B)) q.whole ∙ e ∙ dot_comm q.whole (h.constant ∷ []) ∙ dot_constant h.constant q.whole) (first_entry q.k p q.whole q.some q.first q.times) q.times.positive h.negative u
  where
    clash : (v k x t : ℤ) → t ≡ v *ℤ x → x ≡ k → pos 0 <ℤ k → v <ℤ pos 0 → pos 0 ≤ℤ t → ⊥
    clash v k x t e f hk hv ht =
        let n : pos 0 <ℤ neg_ℤ v = omega (arith, ints) in
        let m = simp ring at (mul_pos hk n) in
        let g = ap (λ z. v *ℤ z) f in
        omega (arith, ints)

pub weak_duality : WeakDuality
weak_duality A B c v y h p w q val =
    let e = dot-same val.point (plus h.objective (combination h.coefficients (A ++ B))) (h.constant ∷ []) h.sum.at in
    let s = solves_multiple q.k val.h p q.whole val.point A B q.times val.point_times q.solves in
    let u = up_sum A B h.coefficients val.point s (coefficients_up A B h.k y h.coefficients h.multipliers h.coefficients_times) in
    let f = first_entry val.h p val.point q.some q.first val.point_times in
    let o = dot_proportional val.point val.k h.k c val.objective h.objective val.objective_times h.objective_times in
    bounded h.k val.k val.h h.constant (dot val.point h.objective) (dot val.point (combination h.coefficients (A ++ B))) (dot val.point val.objective) (entry val.point 0) v.num v.den w.num w.den
    (sym (dot-plus val.point h.objective (combination h.coefficients (A ++ B))) ∙ e ∙ dot_comm val.point (h.constant ∷ []) ∙ dot_constant h.constant val.point)
    f (let d = dot_comm (combination h.coefficients (A ++ B)) val.point in omega (arith, ints)) o (ap (λ t. t *ℤ w.den) (dot_comm val.point val.objective) ∙ val.value) h.constant_times
    h.objective_times.positive val.objective_times.positive val.point_times.positive h.positive val.positive
  where
    -- D + E = V x with E not negative; k C = l D; C wd = l h wn; V vd = k vn
    bounded : (k l h V D E C x vn vd wn wd : ℤ) → D +ℤ E ≡ V *ℤ x → x ≡ h → pos 0 ≤ℤ E → k *ℤ C ≡ l *ℤ D → C *ℤ wd ≡ (l *ℤ h) *ℤ wn → V *ℤ vd ≡ k *ℤ vn
        → pos 0 <ℤ k → pos 0 <ℤ l → pos 0 <ℤ h → pos 0 <ℤ vd → pos 0 <ℤ wd → (wn *ℤ vd) ≤ℤ (vn *ℤ wd)
    bounded k l h V D E C x vn vd wn wd e f hE o g c hk hl hh hv hw =
        let m = mul_pos (mul_pos hk hl) hh in
        let under : D ≤ℤ (V *ℤ h) = (let r = ap (λ z. V *ℤ z) f in omega (arith, ints)) in
        let l0 : pos 0 ≤ℤ l = omega (arith, ints) in
        let w0 : pos 0 ≤ℤ wd = omega (arith, ints) in
        let v0 : pos 0 ≤ℤ vd = omega (arith, ints) in
        let a = simp ring at (mul_le (mul_nonneg (mul_nonneg l0 w0) v0) under) in
        let b = simp ring at (ap (λ z. (wd *ℤ vd) *ℤ z) o) in
        let d = simp ring at (ap (λ z. (k *ℤ vd) *ℤ z) g) in
        let t = simp ring at (ap (λ z. (l *ℤ h *ℤ wd) *ℤ z) c) in
        le_cancel m (simp ring (omega (arith, ints)))

-- ---- the same of all whole rows that solve
dual_bounds : (A B : List Row) (c : List Ratio) (v : Ratio) (y : List Ratio) (h : IsDual A B c v y) (k : ℤ) (C x : Row) → IsTimes k c C → Solves A B x → (dot C x *ℤ v.den) ≤ℤ ((k *ℤ entry x 0) *ℤ v.num)
dual_bounds A B c v y h k C x t s =
    let e = dot-same x (plus h.objective (combination h.coefficients (A ++ B))) (h.constant ∷ []) h.sum.at in
    let u = up_sum A B h.coefficients x s (coefficients_up A B h.k y h.coefficients h.multipliers h.coefficients_times) in
    bounded h.k k h.constant (dot x h.objective) (dot x (combination h.coefficients (A ++ B))) (dot C x) (entry x 0) v.num v.den
    (sym (dot-plus x h.objective (combination h.coefficients (A ++ B))) ∙ e ∙ dot_comm x (h.constant ∷ []) ∙ dot_constant h.constant x)
    (let d = dot_comm (combination h.coefficients (A ++ B)) x in omega (arith, ints)) (ap (λ z. h.k *ℤ z) (dot_comm C x) ∙ dot_proportional x k h.k c C h.objective t h.objective_times) h.constant_times h.objective_times.positive t.positive h.positive
  where
    -- D + E = V x with E not negative; l C = k D; V vd = l vn
    bounded : (l k V D E C x vn vd : ℤ) → D +ℤ E ≡ V *ℤ x → pos 0 ≤ℤ E → l *ℤ C ≡ k *ℤ D → V *ℤ vd ≡ l *ℤ vn → pos 0 <ℤ l → pos 0 <ℤ k → pos 0 <ℤ vd → (C *ℤ vd) ≤ℤ ((k *ℤ x) *ℤ vn)
    bounded l k V D E C x vn vd e hE o c hl hk hd =
        let under : D ≤ℤ (V *ℤ x) = omega (arith, ints) in
        let k0 : pos 0 ≤ℤ k = omega (arith, ints) in
        let d0 : pos 0 ≤ℤ vd = omega (arith, ints) in
        let a = simp ring at (mul_le (mul_nonneg k0 d0) under) in
        let b = simp ring at (ap (λ z. vd *ℤ z) o) in
        let t = simp ring at (ap (λ z. (k *ℤ x) *ℤ z) c) in
        le_cancel hl (simp ring (omega (arith, ints)))

pub optimum_is_maximum : OptimumIsMaximum
optimum_is_maximum A B c v p y o =
    let f = first_entry o.value.h p o.value.point o.point.some o.point.first o.value.point_times in
    let hh = o.value.point_times.positive in
    record {
      attained = record {
        k = o.value.k;
        objective = o.value.objective;
        whole = o.value.point;
        times = o.value.objective_times;
        cols = o.value.point_times.cols ∙ o.cols;
        inside = solves_multiple o.point.k o.value.h p o.point.whole o.value.point A B o.point.times o.value.point_times o.point.solves;
        first = omega (arith, ints);
        positive = o.value.positive;
        value = o.value.value ∙ ap (λ z. (o.value.k *ℤ z) *ℤ v.num) (sym f);
      };
      greatest = record { holds = λ k C x t s h. dual_bounds A B c v y o.dual k C x t s };
    }

zero_first : (k : ℤ) (p : List Ratio) (x : Row) → 0 < length p → (ratio_at p 0).num ≡ pos 0 → IsTimes k p x → entry x 0 ≡ pos 0
zero_first k p x l f t = mul_cancel (t.denominators 0 l) (first (entry x 0) (ratio_at p 0).den (ratio_at p 0).num (t.same 0 l) f)
  where
    first : (u d n : ℤ) → u *ℤ d ≡ k *ℤ n → n ≡ pos 0 → d *ℤ u ≡ d *ℤ pos 0
    first u d n e g = let h = ap (λ z. k *ℤ z) g in let z : k *ℤ pos 0 ≡ pos 0 = simp ring in let w : d *ℤ pos 0 ≡ pos 0 = simp ring in omega (arith, ints)

pub direction_is_without_bound : DirectionIsWithoutBound
direction_is_without_bound A B c p d u =
    let f = first_entry u.point.k p u.point.whole u.point.some u.point.first u.point.times in
    let hp = u.point.times.positive in
    record {
      k = u.value.k;
      objective = u.value.objective;
      point = u.point.whole;
      direction = u.value.point;
      times = u.value.objective_times;
      point_cols = u.point.times.cols ∙ u.point_cols;
      direction_cols = u.value.point_times.cols ∙ u.direction_cols;
      point_inside = u.point.solves;
      direction_inside = solves_multiple u.direction.k u.value.h d u.direction.whole u.value.point A B u.direction.times u.value.point_times u.direction.solves;
      first = omega (arith, ints);
      level = zero_first u.value.h d u.value.point u.direction.some u.direction.first u.value.point_times;
      improves = pos_cancel u.value.positive (up u.value.k u.value.h (dot u.value.objective u.value.point) u.rate.num u.rate.den u.value.value u.value.objective_times.positive u.value.point_times.positive u.improves);
    }
  where
    up : (k h t n m : ℤ) → t *ℤ m ≡ (k *ℤ h) *ℤ n → pos 0 <ℤ k → pos 0 <ℤ h → pos 0 <ℤ n → pos 0 <ℤ (m *ℤ t)
    up k h t n m e hk hh hn = let q = mul_pos (mul_pos hk hh) hn in omega (arith, ints)

pub infeasible_has_no_point : InfeasibleHasNoPoint
infeasible_has_no_point A B y h x s f =
    let e = dot-same x (combination h.coefficients (A ++ B)) (h.constant ∷ []) h.sum.at in
    let u = up_sum A B h.coefficients x s (coefficients_up A B h.k y h.coefficients h.multipliers h.coefficients_times) in
    clash h.constant (entry x 0) (dot (combination h.coefficients (A ++ B)) x)
    (dot_comm (combination h.coefficients (A ++ B)) x ∙ e ∙ dot_comm x (h.constant ∷ []) ∙ dot_constant h.constant x) f h.negative u
  where
    clash : (v x t : ℤ) → t ≡ v *ℤ x → pos 0 <ℤ x → v <ℤ pos 0 → pos 0 ≤ℤ t → ⊥
    clash v x t e hx hv ht =
        let n : pos 0 <ℤ neg_ℤ v = omega (arith, ints) in
        let m = simp ring at (mul_pos hx n) in
        omega (arith, ints)
