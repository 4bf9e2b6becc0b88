-- An objective has its greatest value at a ray exactly where it has it at each row that is alike to the ray.
use Rattle.pm_vector.proofs.ConeLaws.{in_cone_set}
use Rattle.pm_vector.proofs.Ring.{ring}
use Rattle.pm_vector.proofs.RowLaws.{dot-difference, dot-plus, dot-same, dot-times, dot_comm, entry-opposite, entry-plus}
use Rattle.pm_vector.proofs.Signs.{mul_cancel}
use Rattle.pm_vector.specs.Cones.{InCone}
use Rattle.pm_vector.specs.Numbers.{Ratio}
use Rattle.pm_vector.specs.Rows.{Row, difference, dot, entry, opposite, plus, times}
use Rattle.pm_geom.proofs.Facets.{dot-opposite}
use Rattle.pm_geom.specs.Cones.{InLineality, SameModulo}
use Rattle.pm_geom.specs.Faces.{ray}
use Rattle.pm_geom.specs.Programs.{IsMaximum}
use Rattle.pm_optima.proofs.Maxima.{products}
use Rattle.pm_optima.specs.Objectives.{IsScaleOf}
use Rattle.pm_relations.proofs.Standing.{in_order_at, in_order_length, stand_at, stand_length, zero_with_stands}
use Rattle.pm_types.specs.Programs.{ArePlacesOfValue, HasExtendedAt, HasValueAt, IsGreatest}
use Rattle.pm_types.specs.Right.{InOrder, StandFor}
use Rattle.pm_types.specs.Values.{Extended, finite, minus_infinity, plus_infinity}
use Rattle.std.proofs.Common.{ap, arith, refl, subst, sym, ◌∙◌}
use Rattle.std.proofs.lemmas.Int.{ints}
use Rattle.std.specs.Prelude.{List, [], length, ℕ, ◌<◌, ◌∷◌, ◌↔◌, ◌≡◌}
use lib.IntN.{pos, ℤ, ◌*ℤ◌, ◌+ℤ◌, ◌-ℤ◌}
use lib.Signed.{◌<ℤ◌, ◌≤ℤ◌}

first : (x : Row) → dot (pos 1 ∷ []) x ≡ entry x 0
first [] = refl
first (a ∷ x) = simp ring (omega (arith, ints))

module _ (n : ℕ) (G L : List Row) (flat : (x : Row) → length x ≡ n → InLineality (InCone G L) x → entry x 0 ≡ pos 0) (c : List Ratio) (v : Ratio) (m : IsMaximum (InCone G L) c v) where
  abbrev k : ℤ
  k = m.attained.k

  abbrev C : Row
  C = m.attained.objective

  abbrev w : Row
  w = m.attained.whole

  -- k v x0 less the value of k c, times the denominator: it vanishes where c has the value v
  abbrev D : Row
  D = difference (k *ℤ v.num) (pos 1 ∷ []) v.den C

  gap : (x : Row) → dot D x ≡ (k *ℤ v.num) *ℤ entry x 0 -ℤ v.den *ℤ dot C x
  gap x =
      dot_comm D x ∙ dot-difference x (k *ℤ v.num) (pos 1 ∷ []) v.den C ∙ ap (λ z. (k *ℤ v.num) *ℤ z -ℤ v.den *ℤ dot x C) (dot_comm x (pos 1 ∷ []) ∙ first x)
      ∙ ap (λ z. (k *ℤ v.num) *ℤ entry x 0 -ℤ v.den *ℤ z) (dot_comm x C)

  scale : IsScaleOf c C (record { num = pos 1; den = k })
  scale = record {
    num = omega (arith, ints);
    den = m.attained.times.positive;
    cols = m.attained.times.cols;
    denominators = m.attained.times.denominators;
    same = λ i l. let e = m.attained.times.same i l in simp ring (omega (arith, ints));
  }

  vanishing : (h y d vn vd e : ℤ) → d *ℤ vd ≡ (h *ℤ y) *ℤ vn → k *ℤ d ≡ (h *ℤ pos 1) *ℤ e → pos 0 <ℤ h → (k *ℤ vn) *ℤ y -ℤ vd *ℤ e ≡ pos 0
  vanishing h y d vn vd e p q up =
      mul_cancel up
      (let a = simp ring at (ap (λ z. k *ℤ z) p) in
      let b = simp ring at (ap (λ z. vd *ℤ z) q) in
      simp ring (omega (arith, ints)))

  at_value : (x : Row) → HasValueAt c v x ↔ dot D x ≡ pos 0
  at_value x = (
    λ h. gap x ∙ vanishing h.k (entry x 0) (dot h.objective x) v.num v.den (dot C x) h.value (products c C (record { num = pos 1; den = k }) scale h.k h.objective x h.times) h.times.positive,
    λ e. record { k = k; objective = C; times = m.attained.times; value = back v.num v.den (entry x 0) (dot C x) (sym (gap x) ∙ e) },
  )
    where
      back : (vn vd y e : ℤ) → (k *ℤ vn) *ℤ y -ℤ vd *ℤ e ≡ pos 0 → e *ℤ vd ≡ (k *ℤ y) *ℤ vn
      back vn vd y e h = let a = simp ring at h in simp ring (omega (arith, ints))

  at_point : dot D w ≡ pos 0
  at_point = (at_value w).0 (record { k = k; objective = C; times = m.attained.times; value = m.attained.value })

  -- not below 0 at the points
  above : (x : Row) → InCone G L x → pos 0 <ℤ entry x 0 → pos 0 ≤ℤ dot D x
  above x h up = subst (λ z. pos 0 ≤ℤ z) (sym (gap x)) (turned v.num v.den (entry x 0) (dot C x) (m.greatest.holds k C x m.attained.times h up))
    where
      turned : (vn vd y e : ℤ) → (e *ℤ vd) ≤ℤ ((k *ℤ y) *ℤ vn) → pos 0 ≤ℤ ((k *ℤ vn) *ℤ y -ℤ vd *ℤ e)
      turned vn vd y e h = let a = simp ring at h in simp ring (omega (arith, ints))

  beside : (l : Row) → InCone G L l → entry l 0 ≡ pos 0 → pos 0 ≤ℤ dot D l
  beside l h e =
      let cs = in_cone_set G L in
      let p = above (plus w l) (cs.sum m.attained.inside h) (let f = m.attained.first in rw (entry-plus w l 0) (omega (arith, ints))) in
      let q = dot-plus D w l in
      let z = at_point in
      omega (arith, ints)

  on_lines : (l : Row) → length l ≡ n → InLineality (InCone G L) l → dot D l ≡ pos 0
  on_lines l ll h =
      let e = flat l ll h in
      let a = beside l h.inside e in
      let b = beside (opposite l) h.opposed (let o = entry-opposite l 0 in omega (arith, ints)) in
      let d = dot-opposite D l in
      omega (arith, ints)

  alike : (r u : Row) → SameModulo n (InCone G L) r u → dot D r ≡ pos 0 ↔ dot D u ≡ pos 0
  alike r u s =
      let line = on_lines s.w s.cols s.line in
      let e : s.p *ℤ dot D u ≡ s.k *ℤ dot D r +ℤ dot D s.w = sym (dot-times D s.p u) ∙ dot-same D (times s.p u) (plus (times s.k r) s.w) s.same.at ∙ dot-plus D (times s.k r) s.w ∙ ap (λ z. z +ℤ dot D s.w) (dot-times D s.k r) in
      (λ z. mul_cancel s.p_positive (to s.p s.k (dot D r) (dot D u) (dot D s.w) e line z), λ z. mul_cancel s.k_positive (from s.p s.k (dot D r) (dot D u) (dot D s.w) e line z))
    where
      to : (p h a b z : ℤ) → p *ℤ b ≡ h *ℤ a +ℤ z → z ≡ pos 0 → a ≡ pos 0 → p *ℤ b ≡ p *ℤ pos 0
      to p h a b z e f g = let i = ap (λ y. h *ℤ y) g in let o : h *ℤ pos 0 ≡ pos 0 = simp ring in let q : p *ℤ pos 0 ≡ pos 0 = simp ring in omega (arith, ints)

      from : (p h a b z : ℤ) → p *ℤ b ≡ h *ℤ a +ℤ z → z ≡ pos 0 → b ≡ pos 0 → h *ℤ a ≡ h *ℤ pos 0
      from p h a b z e f g = let i = ap (λ y. p *ℤ y) g in let o : h *ℤ pos 0 ≡ pos 0 = simp ring in let q : p *ℤ pos 0 ≡ pos 0 = simp ring in omega (arith, ints)

  -- at a ray, and at a row that stands for a row that is alike to it
  value_alike : (r : List Ratio) (v' x y : Row) → SameModulo n (InCone G L) v' x → Rattle.pm_vector.specs.Rows.Stands r x → Rattle.pm_vector.specs.Rows.Stands r y → HasValueAt c v y ↔ HasValueAt c v v'
  value_alike r v' x y s p q = (
    λ h. (at_value v').1 ((alike v' x s).1 (zero_with_stands D q p ((at_value y).0 h))),
    λ h. (at_value y).1 (zero_with_stands D p q ((alike v' x s).0 ((at_value v').0 h))),
  )

module _ (n : ℕ) (G L : List Row) (flat : (x : Row) → length x ≡ n → InLineality (InCone G L) x → entry x 0 ≡ pos 0) (c : List Ratio) where
  extended_alike : (e : Extended) → IsGreatest (InCone G L) c e → (r : List Ratio) (v x y : Row) → SameModulo n (InCone G L) v x → Rattle.pm_vector.specs.Rows.Stands r x → Rattle.pm_vector.specs.Rows.Stands r y → HasExtendedAt c e y ↔ HasExtendedAt c e v
  extended_alike (finite q) m r v x y s p k = value_alike n G L flat c q m r v x y s p k
  extended_alike plus_infinity m r v x y s p k = (λ h. h, λ h. h)
  extended_alike minus_infinity m r v x y s p k = (λ h. h, λ h. h)

  -- so the places of rows that stand for rows alike to the rays are those of the rays
  pub places_alike : (e : Extended) → IsGreatest (InCone G L) c e → (V xs Y : List Row) (rows : List (List Ratio)) → InOrder (SameModulo n (InCone G L)) V xs → StandFor rows xs → StandFor rows Y → (ks : List ℤ) → ArePlacesOfValue c e Y ks → ArePlacesOfValue c e V ks
  places_alike e m V xs Y rows order sx sy ks h = record {
    js = h.js;
    places = h.places;
    ascending = h.ascending;
    each = λ j. (
      λ i. let w = (h.each j).0 i in let l : j < length V = below j w.0 in (l, (at j l).0 w.1),
      λ w. (h.each j).1 (let a = lengths in let l = w.0 in omega arith, (at j w.0).1 w.1),
    );
  }
    where
      lengths : length Y ≡ length V
      lengths = stand_length rows Y sy ∙ sym (stand_length rows xs sx) ∙ in_order_length (SameModulo n (InCone G L)) V xs order

      below : (j : ℕ) → j < length Y → j < length V
      below j l = let a = lengths in omega arith

      at : (j : ℕ) → j < length V → HasExtendedAt c e (ray Y j) ↔ HasExtendedAt c e (ray V j)
      at j l =
          let a = lengths in
          let b = in_order_length (SameModulo n (InCone G L)) V xs order in
          extended_alike e m (Rattle.pm_relations.proofs.Standing.ratios_at rows j) (ray V j) (ray xs j) (ray Y j) (in_order_at (SameModulo n (InCone G L)) V xs order j l) (stand_at rows xs sx j (omega arith)) (stand_at rows Y sy j (omega arith))
