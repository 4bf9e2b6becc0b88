-- The optimum on a cone that rays and lines generate, by their products with the primitive row of the objective.
use Rattle.pm_vector.proofs.Lists.{Among, all_at, among_All}
use Rattle.pm_vector.proofs.Ring.{ring}
use Rattle.pm_vector.proofs.Signs.{mul_le, weaken}
use Rattle.pm_vector.specs.Cones.{InCone}
use Rattle.pm_vector.specs.Numbers.{Ratio}
use Rattle.pm_vector.specs.Rows.{HasCols, Row, dot, entry}
use Rattle.pm_vector.specs.Bases.{row_at}
use Rattle.pm_geom.specs.Programs.{HasNoPoint, IsMaximum, IsWithoutBound}
use Rattle.pm_optima.proofs.Lists.{among_place, place_among, product_at, products_length}
use Rattle.pm_optima.proofs.Maxima.{grows_by_line, grows_by_ray, is_maximum, no_point, value_at}
use Rattle.pm_optima.specs.Objectives.{IsScaleOf}
use Rattle.pm_optima.specs.Quotients.{Grows, HasNone, IsBest}
use Rattle.pm_optima.specs.declared.quotients.Best.{Best}
use Rattle.pm_types.specs.Programs.{HasValueAt}
use Rattle.std.proofs.Common.{ap, arith, inl, inr, refl, subst, suc, sym, zero, ◌∙◌}
use Rattle.std.proofs.lemmas.Int.{by_lt_z, ints}
use Rattle.std.specs.List.{All}
use Rattle.std.specs.Prelude.{List, length, map, ◌<◌, ◌≡◌}
use lib.IntN.{negsuc, pos, ℤ, ◌*ℤ◌}
use lib.Signed.{◌<ℤ◌, ◌≤ℤ◌}

module _ (c : List Ratio) (w : Row) (s : Ratio) (sc : IsScaleOf c w s) (V L : List Row) (rays : HasCols (length c) V) (lines : HasCols (length c) L)
    (ahead : All (λ x. pos 0 ≤ℤ entry x 0) V) (flat : All (λ x. entry x 0 ≡ pos 0) L) where
  ray_cols : (g : Row) → Among g V → length g ≡ length c
  ray_cols g i = all_at (λ (x : Row). length x ≡ length c) i rays

  line_flat : (l : Row) → Among l L → entry l 0 ≡ pos 0
  line_flat l i = among_All (λ (x : Row). entry x 0 ≡ pos 0) i flat

  -- ---- no ray lies ahead
  pub no_point_found : HasNone V (length V) → HasNoPoint (InCone V L)
  no_point_found none = no_point V L at_ray line_flat
    where
      at_ray : (g : Row) → Among g V → entry g 0 ≡ pos 0
      at_ray g i =
          let (j, l, e) = among_place i in
          let a = among_All (λ (x : Row). pos 0 ≤ℤ entry x 0) i ahead in
          let n : ¬ (pos 0 <ℤ entry g 0) = subst (λ (x : Row). ¬ (pos 0 <ℤ entry x 0)) e (none j l) in
          by_lt_z (pos 0) (entry g 0) (λ up. absurd (n up)) (λ low. omega (arith, ints))

  -- ---- one ray has the greatest quotient
  module _ (b : Best) (best : IsBest (map (dot w) V) V (length V) b) where
    abbrev pub x : Row
    x = row_at V b.place

    inside : Among x V
    inside = place_among V b.place best.within

    quotient : b.quotient.num *ℤ entry x 0 ≡ dot w x *ℤ b.quotient.den
    quotient = best.quotient.same ∙ ap (λ z. z *ℤ b.quotient.den) (product_at w V b.place best.within)

    pub grows_found : Grows (map (dot w) V) V (map (dot w) L) → IsWithoutBound (InCone V L) c
    grows_found (inl (j, r)) =
        grows_by_ray c w s sc V L x inside (ray_cols x inside) best.first (row_at V j) (place_among V j r.within) (ray_cols (row_at V j) (place_among V j r.within)) r.level
        (subst (λ z. pos 0 <ℤ z) (product_at w V j r.within) r.positive)
    grows_found (inr (j, t)) =
        let l : j < length L = (let e = products_length w L in let k = t.within in omega arith) in
        grows_by_line c w s sc V L x inside (ray_cols x inside) best.first (row_at L j) (place_among L j l) (all_at (λ (y : Row). length y ≡ length c) (place_among L j l) lines) (line_flat (row_at L j) (place_among L j l))
        (λ e. t.some (product_at w L j l ∙ e))

    module _ (bounded : ¬ (Grows (map (dot w) V) V (map (dot w) L))) (q : Ratio) (qd : pos 0 <ℤ q.den) (qs : q.num *ℤ (b.quotient.den *ℤ s.den) ≡ (b.quotient.num *ℤ s.num) *ℤ q.den) where
      far : (m d y p : ℤ) → y ≡ pos 0 → p ≤ℤ pos 0 → pos 0 <ℤ d → (p *ℤ d) ≤ℤ (m *ℤ y)
      far m d y p e f hd =
          let a : m *ℤ y ≡ pos 0 = ap (λ z. m *ℤ z) e ∙ (simp ring) in
          let g = mul_le (weaken hd) f in
          let h : d *ℤ pos 0 ≡ pos 0 = simp ring in
          omega (arith, ints)

      least : (g : Row) → Among g V → (dot w g *ℤ b.quotient.den) ≤ℤ (b.quotient.num *ℤ entry g 0)
      least g i =
          let (j, l, e) = among_place i in
          let a = among_All (λ (y : Row). pos 0 ≤ℤ entry y 0) i ahead in
          subst (λ (y : Row). (dot w y *ℤ b.quotient.den) ≤ℤ (b.quotient.num *ℤ entry y 0)) e
          (by_lt_z (pos 0) (entry (row_at V j) 0) (λ up. subst (λ z. (z *ℤ b.quotient.den) ≤ℤ (b.quotient.num *ℤ entry (row_at V j) 0)) (product_at w V j l) (best.greatest j l up))
          (λ low.
          let z : entry (row_at V j) 0 ≡ pos 0 = (let a' = subst (λ (y : Row). pos 0 ≤ℤ entry y 0) (sym e) a in omega (arith, ints)) in
          far b.quotient.num b.quotient.den (entry (row_at V j) 0) (dot w (row_at V j)) z
          (by_lt_z (pos 0) (dot w (row_at V j)) (λ up. absurd (bounded (inl (j, record { within = l; level = z; positive = rw (product_at w V j l) up })))) (λ at. at))
          best.quotient.reduced.positive))

      null : (l : Row) → Among l L → dot w l ≡ pos 0
      null l i =
          let (j, k, e) = among_place i in
          subst (λ (y : Row). dot w y ≡ pos 0) e
          (level (dot w (row_at L j)) (λ n. bounded (inr (j, record { within = (let f = products_length w L in omega arith); some = λ z. n (sym (product_at w L j k) ∙ z) }))))
        where
          level : (z : ℤ) → ¬ (¬ (z ≡ pos 0)) → z ≡ pos 0
          level (pos zero) h = refl
          level (pos (suc k)) h = absurd (h (λ e. absurd (omega (arith, ints))))
          level (negsuc k) h = absurd (h (λ e. absurd (omega (arith, ints))))

      pub maximum_found : IsMaximum (InCone V L) c q
      maximum_found = is_maximum c w s sc x b.quotient best.quotient.reduced.positive quotient q qs V L inside (ray_cols x inside) best.first qd least null line_flat

      pub maximum_at : HasValueAt c q x
      maximum_at = value_at c w s sc x b.quotient best.quotient.reduced.positive quotient q qs
