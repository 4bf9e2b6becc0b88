-- The row that vanishes where an objective has a value.
use Rattle.pm_vector.proofs.Ring.{ring}
use Rattle.pm_vector.proofs.RowLaws.{dot-difference, dot_comm, entry-difference, length-difference}
use Rattle.pm_vector.proofs.Signs.{mul_cancel, mul_pos}
use Rattle.pm_vector.specs.Numbers.{Ratio}
use Rattle.pm_vector.specs.Rows.{Row, Stands, difference, dot, entry, ratio_at}
use Rattle.pm_vector.proofs.DotLaws.{dot-unit}
use Rattle.pm_elim.proofs.ExtendedLaws.{length-unit, unit_one, unit_zero}
use Rattle.pm_vector.specs.Evidence.{unit}
use Rattle.pm_geom.specs.Programs.{IsTimes}
use Rattle.pm_optima.proofs.Maxima.{products}
use Rattle.pm_optima.specs.Objectives.{IsScaleOf}
use Rattle.pm_simplex.specs.OptimumEvidence.{IsLevelRow}
use Rattle.pm_types.specs.Programs.{HasValueAt}
use Rattle.std.proofs.Common.{ap, arith, suc, sym, zero, ◌∙◌}
use Rattle.std.proofs.lemmas.Int.{ints}
use Rattle.std.specs.Prelude.{List, length, ℕ, ◌<◌, ◌≡◌, ◌↔◌}
use lib.IntN.{neg_ℤ, pos, ℤ, ◌*ℤ◌, ◌+ℤ◌, ◌-ℤ◌}
use lib.Signed.{◌<ℤ◌}

-- a primitive row by the fraction that scales it
pub scale_of : (c : List Ratio) (w : Row) (h : Stands c w) → IsScaleOf c w (record { num = h.p; den = h.q })
scale_of c w h = record { num = h.p_positive; den = h.q_positive; cols = h.cols; denominators = h.denominators; same = h.same }

module _ (c : List Ratio) (w : Row) (st : Stands c w) (some : 0 < length c) (v : Ratio) (vd : pos 0 <ℤ v.den) (r : List Ratio) (level : IsLevelRow c v r) (u : Row) (su : Stands r u) where
  abbrev pub n : ℕ
  n = length c

  -- a whole multiple of c: k v e0 less the row u, which is a multiple of v e0 - c
  abbrev pub k : ℤ
  k = su.q *ℤ v.den

  abbrev pub X : Row
  X = difference (su.q *ℤ v.num) (unit n 0) (su.p *ℤ v.den) u

  first_entry : (p q x rn rd vn vd cn cd : ℤ) → pos 0 <ℤ rd → p *ℤ (x *ℤ rd) ≡ q *ℤ rn → rn *ℤ (vd *ℤ cd) ≡ (vn *ℤ cd +ℤ neg_ℤ cn *ℤ vd) *ℤ rd
      → ((q *ℤ vn) *ℤ pos 1 -ℤ (p *ℤ vd) *ℤ x) *ℤ cd ≡ (q *ℤ vd) *ℤ cn
  first_entry p q x rn rd vn vd cn cd hr e f =
      mul_cancel hr
      (let a = simp ring at (ap (λ z. (vd *ℤ cd) *ℤ z) e) in
      let b = simp ring at (ap (λ z. q *ℤ z) f) in
      simp ring (omega (arith, ints)))

  other_entry : (p q x vn vd cn cd : ℤ) → p *ℤ (x *ℤ cd) ≡ q *ℤ neg_ℤ cn → ((q *ℤ vn) *ℤ pos 0 -ℤ (p *ℤ vd) *ℤ x) *ℤ cd ≡ (q *ℤ vd) *ℤ cn
  other_entry p q x vn vd cn cd e = let a = simp ring at (ap (λ z. vd *ℤ z) e) in simp ring (omega (arith, ints))

  entry_at : (i : ℕ) → i < n → entry X i *ℤ (ratio_at c i).den ≡ k *ℤ (ratio_at c i).num
  entry_at zero l =
      let below : 0 < length r = (let e = level.cols in omega arith) in
      rw (entry-difference (su.q *ℤ v.num) (unit n 0) (su.p *ℤ v.den) u 0, unit_one n 0 l)
      (first_entry su.p su.q (entry u 0) (ratio_at r 0).num (ratio_at r 0).den v.num v.den (ratio_at c 0).num (ratio_at c 0).den (su.denominators 0 below) (su.same 0 below) level.first.same)
  entry_at (suc i) l =
      let below : suc i < length r = (let e = level.cols in omega arith) in
      rw (entry-difference (su.q *ℤ v.num) (unit n 0) (su.p *ℤ v.den) u (suc i), unit_zero n 0 (suc i) (λ e. absurd (omega arith)))
      (other_entry su.p su.q (entry u (suc i)) v.num v.den (ratio_at c (suc i)).num (ratio_at c (suc i)).den (rw (level.others i l) at (su.same (suc i) below)))

  times : IsTimes k c X
  times = record {
    positive = mul_pos su.q_positive vd;
    cols = length-difference n (su.q *ℤ v.num) (unit n 0) (su.p *ℤ v.den) u (length-unit n 0) (su.cols ∙ level.cols);
    denominators = st.denominators;
    same = entry_at;
  }

  product : (x : Row) → dot X x ≡ (su.q *ℤ v.num) *ℤ entry x 0 -ℤ (su.p *ℤ v.den) *ℤ dot u x
  product x =
      dot_comm X x ∙ dot-difference x (su.q *ℤ v.num) (unit n 0) (su.p *ℤ v.den) u ∙ ap (λ z. (su.q *ℤ v.num) *ℤ z -ℤ (su.p *ℤ v.den) *ℤ dot x u) (dot-unit x n 0 some)
      ∙ ap (λ z. (su.q *ℤ v.num) *ℤ entry x 0 -ℤ (su.p *ℤ v.den) *ℤ z) (dot_comm x u)

  value_there : (q p vn vd y U D : ℤ) → D ≡ (q *ℤ vn) *ℤ y -ℤ (p *ℤ vd) *ℤ U → U ≡ pos 0 → D *ℤ vd ≡ ((q *ℤ vd) *ℤ y) *ℤ vn
  value_there q p vn vd y U D e f = let g : D ≡ (q *ℤ vn) *ℤ y = e ∙ ap (λ z. (q *ℤ vn) *ℤ y -ℤ (p *ℤ vd) *ℤ z) f ∙ (simp ring (omega (arith, ints))) in ap (λ z. z *ℤ vd) g ∙ (simp ring)

  -- another whole multiple of c, with the value
  scaled : (h D E W y sn sd kk vn vd : ℤ) → sd *ℤ E ≡ (h *ℤ sn) *ℤ W → sd *ℤ D ≡ (kk *ℤ sn) *ℤ W → E *ℤ vd ≡ (h *ℤ y) *ℤ vn → pos 0 <ℤ h → pos 0 <ℤ sd → D *ℤ vd ≡ (kk *ℤ y) *ℤ vn
  scaled h D E W y sn sd kk vn vd e f g hh hs =
      mul_cancel (mul_pos hh hs)
      (let a = simp ring at (ap (λ z. (kk *ℤ vd) *ℤ z) e) in
      let b = simp ring at (ap (λ z. (h *ℤ vd) *ℤ z) f) in
      let d = simp ring at (ap (λ z. (kk *ℤ sd) *ℤ z) g) in
      simp ring (omega (arith, ints)))

  vanishing : (q p vn vd y U D : ℤ) → pos 0 <ℤ p → pos 0 <ℤ vd → D ≡ (q *ℤ vn) *ℤ y -ℤ (p *ℤ vd) *ℤ U → D *ℤ vd ≡ ((q *ℤ vd) *ℤ y) *ℤ vn → U ≡ pos 0
  vanishing q p vn vd y U D hp hv e f =
      mul_cancel (mul_pos (mul_pos hp hv) hv)
      (let a = simp ring at (sym (ap (λ z. z *ℤ vd) e) ∙ f) in
      simp ring (omega (arith, ints)))

  -- it vanishes where c has the value, and only there
  pub level_vanishes : (x : Row) → dot u x ≡ pos 0 ↔ HasValueAt c v x
  level_vanishes x = (
    λ e. record { k = k; objective = X; times = times; value = value_there su.q su.p v.num v.den (entry x 0) (dot u x) (dot X x) (product x) e },
    λ h.
        vanishing su.q su.p v.num v.den (entry x 0) (dot u x) (dot X x) su.p_positive vd (product x)
        (scaled h.k (dot X x) (dot h.objective x) (dot w x) (entry x 0) st.p st.q k v.num v.den (products c w (record { num = st.p; den = st.q }) (scale_of c w st) h.k h.objective x h.times)
        (products c w (record { num = st.p; den = st.q }) (scale_of c w st) k X x times) h.value h.times.positive st.q_positive),
  )
