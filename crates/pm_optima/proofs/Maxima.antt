-- The greatest value of an objective at the points of a cone, by the products with its rays and lines.
use Rattle.pm_vector.proofs.ConeLaws.{dot_in, in_generator, in_line, in_line_opposite}
use Rattle.pm_vector.proofs.Lists.{Among}
use Rattle.pm_vector.proofs.Ring.{ring}
use Rattle.pm_vector.proofs.RowLaws.{dot-difference, dot-same, dot-times, dot_comm, entry-opposite, entry-times, length-opposite, length-times, times-dot}
use Rattle.pm_vector.proofs.Signs.{le_cancel, mul_cancel, mul_le, mul_pos, weaken}
use Rattle.pm_vector.specs.Cones.{InCone}
use Rattle.pm_vector.specs.Numbers.{Ratio}
use Rattle.pm_vector.specs.Rows.{Row, difference, dot, entry, opposite, ratio_at, times}
use Rattle.pm_geom.specs.Programs.{HasNoPoint, IsMaximum, IsTimes, IsWithoutBound}
use Rattle.pm_optima.specs.Objectives.{IsScaleOf}
use Rattle.pm_types.specs.Programs.{HasValueAt}
use Rattle.std.proofs.Common.{ap, arith, refl, sym, ◌∙◌}
use Rattle.std.proofs.lemmas.Int.{by_lt_z, ints}
use Rattle.std.specs.Prelude.{List, [], length, suc, zero, ℕ, ◌∷◌, ◌≡◌, ◌≤◌}
use lib.IntN.{neg_ℤ, negsuc, pos, ℤ, ◌*ℤ◌, ◌-ℤ◌}
use lib.Signed.{◌<ℤ◌, ◌≤ℤ◌}
use native.Mathlib.Decide.{dec_lt}

past_end : (x : Row) (i : ℕ) → length x ≤ i → entry x i ≡ pos 0
past_end [] i l = refl
past_end (a ∷ x) zero l = absurd (omega arith)
past_end (a ∷ x) (suc i) l = past_end x i (omega arith)

-- ---- the first entry as a product
first : (m : ℤ) (x : Row) → dot (m ∷ []) x ≡ m *ℤ entry x 0
first m [] = simp ring
first m (a ∷ x) = omega (arith, ints)

-- m x0 - d w.x as a product
level : (m d : ℤ) (w x : Row) → dot (difference m (pos 1 ∷ []) d w) x ≡ m *ℤ entry x 0 -ℤ d *ℤ dot w x
level m d w x =
    let e : dot x (pos 1 ∷ []) ≡ entry x 0 = dot_comm x (pos 1 ∷ []) ∙ first (pos 1) x ∙ (simp ring) in
    dot_comm (difference m (pos 1 ∷ []) d w) x ∙ dot-difference x m (pos 1 ∷ []) d w ∙ ap (λ z. m *ℤ z -ℤ d *ℤ dot x w) e ∙ ap (λ z. m *ℤ entry x 0 -ℤ d *ℤ z) (dot_comm x w)

-- ---- an objective that is s times the row w
module _ (c : List Ratio) (w : Row) (s : Ratio) (sc : IsScaleOf c w s) where
  pub whole_times : IsTimes s.den c (times s.num w)
  whole_times = record {
    positive = sc.den;
    cols = length-times s.num w ∙ sc.cols;
    denominators = sc.denominators;
    same = λ i l. ap (λ z. z *ℤ (ratio_at c i).den) (entry-times s.num w i) ∙ turned s.num (entry w i) (ratio_at c i).den (s.den *ℤ (ratio_at c i).num) (sc.same i l);
  }
    where
      turned : (n e d m : ℤ) → n *ℤ (e *ℤ d) ≡ m → (n *ℤ e) *ℤ d ≡ m
      turned n e d m h = (simp ring) ∙ h

  -- each whole multiple of it, s.den times, is a multiple of w
  entries : (k : ℤ) (X : Row) → IsTimes k c X → (i : ℕ) → entry (times s.den X) i ≡ entry (times (k *ℤ s.num) w) i
  entries k X t i = elim (dec_lt i (length c)) [
    | yes l ↦ entry-times s.den X i ∙ within (entry X i) (entry w i) (ratio_at c i).den (ratio_at c i).num (sc.denominators i l) (t.same i l) (sc.same i l) ∙ sym (entry-times (k *ℤ s.num) w i)
    | no n ↦
        let p = past_end X i (let e = t.cols in omega arith) in
        let q = past_end w i (let e = sc.cols in omega arith) in
        entry-times s.den X i ∙ none s.den (entry X i) p ∙ sym (entry-times (k *ℤ s.num) w i ∙ none (k *ℤ s.num) (entry w i) q)
  ]
    where
      none : (m z : ℤ) → z ≡ pos 0 → m *ℤ z ≡ pos 0
      none m z e = ap (λ u. m *ℤ u) e ∙ (simp ring)

      within : (u e d n : ℤ) → pos 0 <ℤ d → u *ℤ d ≡ k *ℤ n → s.num *ℤ (e *ℤ d) ≡ s.den *ℤ n → s.den *ℤ u ≡ (k *ℤ s.num) *ℤ e
      within u e d n hd f g =
          mul_cancel hd
          (let a = simp ring at (ap (λ z. s.den *ℤ z) f) in
          let b = simp ring at (ap (λ z. k *ℤ z) g) in
          simp ring (omega (arith, ints)))

  pub products : (k : ℤ) (X x : Row) → IsTimes k c X → s.den *ℤ dot X x ≡ (k *ℤ s.num) *ℤ dot w x
  products k X x t =
      ap (λ z. s.den *ℤ z) (dot_comm X x) ∙ sym (dot-times x s.den X) ∙ dot-same x (times s.den X) (times (k *ℤ s.num) w) (entries k X t) ∙ dot-times x (k *ℤ s.num) w
      ∙ ap (λ z. (k *ℤ s.num) *ℤ z) (dot_comm x w)

  -- ---- a point x with w.x = r x0, and q = r s
  module _ (x : Row) (r : Ratio) (rd : pos 0 <ℤ r.den) (at : r.num *ℤ entry x 0 ≡ dot w x *ℤ r.den) (q : Ratio) (qs : q.num *ℤ (r.den *ℤ s.den) ≡ (r.num *ℤ s.num) *ℤ q.den) where
    value : dot (times s.num w) x *ℤ q.den ≡ (s.den *ℤ entry x 0) *ℤ q.num
    value = ap (λ z. z *ℤ q.den) (times-dot s.num w x) ∙ made (dot w x) (entry x 0) r.num r.den s.num s.den q.num q.den rd at qs
      where
        made : (p y rn rd sn sd qn qd : ℤ) → pos 0 <ℤ rd → rn *ℤ y ≡ p *ℤ rd → qn *ℤ (rd *ℤ sd) ≡ (rn *ℤ sn) *ℤ qd → (sn *ℤ p) *ℤ qd ≡ (sd *ℤ y) *ℤ qn
        made p y rn rd sn sd qn qd h e f =
            mul_cancel h
            (let a = simp ring at (ap (λ z. (sn *ℤ qd) *ℤ z) e) in
            let b = simp ring at (ap (λ z. y *ℤ z) f) in
            simp ring (omega (arith, ints)))

    pub value_at : HasValueAt c q x
    value_at = record { k = s.den; objective = times s.num w; times = whole_times; value = value }

    -- a point of the cone with no greater quotient at any ray
    module _ (V L : List Row) (inside : Among x V) (cols : length x ≡ length c) (up : pos 0 <ℤ entry x 0) (qd : pos 0 <ℤ q.den)
        (least : (g : Row) → Among g V → (dot w g *ℤ r.den) ≤ℤ (r.num *ℤ entry g 0)) (null : (l : Row) → Among l L → dot w l ≡ pos 0) (flat : (l : Row) → Among l L → entry l 0 ≡ pos 0) where
      bounded : (y : Row) → InCone V L y → pos 0 ≤ℤ (r.num *ℤ entry y 0 -ℤ r.den *ℤ dot w y)
      bounded y h = rw (← level r.num r.den w y) (dot_in (difference r.num (pos 1 ∷ []) r.den w) V L (λ g i. rw (level r.num r.den w g) (at_ray g (least g i))) (λ l i. level r.num r.den w l ∙ at_line (entry l 0) (dot w l) (flat l i) (null l i)) h)
        where
          at_ray : (g : Row) → (dot w g *ℤ r.den) ≤ℤ (r.num *ℤ entry g 0) → pos 0 ≤ℤ (r.num *ℤ entry g 0 -ℤ r.den *ℤ dot w g)
          at_ray g e = omega (arith, ints)

          at_line : (a b : ℤ) → a ≡ pos 0 → b ≡ pos 0 → r.num *ℤ a -ℤ r.den *ℤ b ≡ pos 0
          at_line a b e f = rw (e, f) (simp ring)

      exceeded : (k D W y rn rd sn sd qn qd : ℤ) → sd *ℤ D ≡ (k *ℤ sn) *ℤ W → pos 0 ≤ℤ (rn *ℤ y -ℤ rd *ℤ W) → qn *ℤ (rd *ℤ sd) ≡ (rn *ℤ sn) *ℤ qd
          → pos 0 <ℤ k → pos 0 <ℤ sn → pos 0 <ℤ sd → pos 0 <ℤ rd → pos 0 <ℤ qd → (D *ℤ qd) ≤ℤ ((k *ℤ y) *ℤ qn)
      exceeded k D W y rn rd sn sd qn qd e h f hk hn hd hr hq =
          let under : (rd *ℤ W) ≤ℤ (rn *ℤ y) = omega (arith, ints) in
          let a = simp ring at (mul_le (weaken (mul_pos (mul_pos hk hn) hq)) under) in
          let b = simp ring at (ap (λ z. (rd *ℤ qd) *ℤ z) e) in
          let d = simp ring at (ap (λ z. (k *ℤ y) *ℤ z) f) in
          le_cancel (mul_pos hd hr) (simp ring (omega (arith, ints)))

      pub is_maximum : IsMaximum (InCone V L) c q
      is_maximum = record {
        attained = record {
          k = s.den;
          objective = times s.num w;
          whole = x;
          times = whole_times;
          cols = cols;
          inside = in_generator inside;
          first = up;
          positive = qd;
          value = value;
        };
        greatest = record { holds = λ k X y t h p. exceeded k (dot X y) (dot w y) (entry y 0) r.num r.den s.num s.den q.num q.den (products k X y t) (bounded y h) qs t.positive sc.num sc.den rd qd };
      }

  -- ---- directions without bound
  module _ (V L : List Row) (x : Row) (inside : Among x V) (cols : length x ≡ length c) (up : pos 0 <ℤ entry x 0) where
    grows_along : (d : Row) → InCone V L d → length d ≡ length c → entry d 0 ≡ pos 0 → pos 0 <ℤ dot w d → IsWithoutBound (InCone V L) c
    grows_along d h ld flat more = record {
      k = s.den;
      objective = times s.num w;
      point = x;
      direction = d;
      times = whole_times;
      point_cols = cols;
      direction_cols = ld;
      point_inside = in_generator inside;
      direction_inside = h;
      first = up;
      level = flat;
      improves = rw (times-dot s.num w d) (mul_pos sc.num more);
    }

    pub grows_by_ray : (g : Row) → Among g V → length g ≡ length c → entry g 0 ≡ pos 0 → pos 0 <ℤ dot w g → IsWithoutBound (InCone V L) c
    grows_by_ray g i lg flat more = grows_along g (in_generator i) lg flat more

    pub grows_by_line : (l : Row) → Among l L → length l ≡ length c → entry l 0 ≡ pos 0 → ¬ (dot w l ≡ pos 0) → IsWithoutBound (InCone V L) c
    unfolding opposite
    grows_by_line l i ll flat some =
        by_lt_z (pos 0) (dot w l) (λ up. grows_along l (in_line i) ll flat up) (λ low. grows_along (opposite l) (in_line_opposite i) (length-opposite l ∙ ll) (entry-opposite l 0 ∙ turned (entry l 0) flat) (more low))
      where
        turned : (z : ℤ) → z ≡ pos 0 → neg_ℤ z ≡ pos 0
        turned z e = omega (arith, ints)

        more : (dot w l) ≤ℤ pos 0 → pos 0 <ℤ dot w (opposite l)
        more low = let e = dot-times w (negsuc 0) l in omega (arith, ints)

-- where no ray lies ahead there is no point
pub no_point : (V L : List Row) → ((g : Row) → Among g V → entry g 0 ≡ pos 0) → ((l : Row) → Among l L → entry l 0 ≡ pos 0) → HasNoPoint (InCone V L)
no_point V L at_rays at_lines x h up =
    let p = dot_in (negsuc 0 ∷ []) V L (λ g i. let e = first (negsuc 0) g in let f = at_rays g i in omega (arith, ints)) (λ l i. let e = first (negsuc 0) l in let f = at_lines l i in omega (arith, ints)) h in
    let e = first (negsuc 0) x in
    omega (arith, ints)
