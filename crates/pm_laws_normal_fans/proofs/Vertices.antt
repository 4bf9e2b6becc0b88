-- Vertices of a bounded cone: each is determined by the objectives that are least there, and what is least at a point
-- is least at some vertex.
use Rattle.pm_geom.proofs.Enough.{Enough, enough}
use Rattle.pm_vector.proofs.ConeLaws.{in_divide, in_of, in_same, in_to_after}
use Rattle.pm_vector.proofs.Lists.{Among, among_All, here, there}
use Rattle.pm_vector.proofs.Ring.{ring}
use Rattle.pm_vector.proofs.RowLaws.{dot-difference, entry-difference, entry-opposite, entry-plus, entry-times, length-difference, length-opposite, dot-plus}
use Rattle.pm_vector.proofs.Signs.{mul_pos, pos_cancel, weaken}
use Rattle.pm_vector.specs.Cones.{InCone}
use Rattle.pm_vector.specs.Rows.{HasCols, Row, Same, SameDirection, difference, dot, entry, opposite, plus, times}
use Rattle.pm_geom.proofs.Polar.{cols_at, cut_at, cut_from, generated_is_cut}
use Rattle.pm_geom.proofs.Reduce.{extremes_generate}
use Rattle.pm_geom.specs.Cones.{IsExtreme}
use Rattle.pm_laws_normal_fans.proofs.Numbers.{from_part, least_vanishes, part_least, valid_least}
use Rattle.pm_laws_normal_fans.proofs.PointSums.{value-same, value-times}
use Rattle.pm_laws_normal_fans.proofs.SumLaws.{IsMultiple, IsPointed, least_all, multiple}
use Rattle.pm_laws_normal_fans.specs.Sums.{IsLeastAt, IsVertex, value}
use Rattle.std.proofs.Common.{ap, arith, sym, ◌∙◌}
use Rattle.std.proofs.lemmas.Int.{by_lt_z, ints}
use Rattle.std.specs.Prelude.{List, [], length, suc, ℕ, ◌∷◌, ◌≡◌}
use lib.IntN.{*ℤ_comm, pos, ℤ, ◌*ℤ◌, ◌+ℤ◌}
use lib.Signed.{◌<ℤ◌, ◌≤ℤ◌}

-- ---- a row as a first number and an objective
pub dot_value : (b : ℤ) (c x : Row) → dot (b ∷ c) x ≡ b *ℤ entry x 0 +ℤ value c x
dot_value b c [] = simp ring
dot_value b c (a ∷ x) = simp ring (omega (arith, ints))

module _ (n : ℕ) (G L : List Row) (hg : HasCols n G) (hl : HasCols n L) (ps : IsPointed n (InCone G L)) where
  -- a valid row that vanishes at z does not grow towards y, where each objective least at z is least at y
  valid_low : (b z y : Row) → length b ≡ n → ((x : Row) → length x ≡ n → InCone G L x → pos 0 ≤ℤ dot b x) → length z ≡ n → InCone G L z → pos 0 <ℤ entry z 0 →
      ((c : Row) → IsLeastAt n (InCone G L) z c → IsLeastAt n (InCone G L) y c) → dot b z ≡ pos 0 → dot b y ≤ℤ pos 0
  valid_low [] z y lb v lz iz up f e = omega (arith, ints)
  valid_low (b ∷ c) z y lb v lz iz up f e =
      let ez : b *ℤ entry z 0 +ℤ value c z ≡ pos 0 = sym (dot_value b c z) ∙ e in
      let at_z : IsLeastAt n (InCone G L) z c = record { cols = lb; least = λ x lx ix ux. let w = v x lx ix in let q = dot_value b c x in valid_least b (entry z 0) (value c z) (entry x 0) (value c x) (weaken up) ez (omega (arith, ints)) } in
      let k = (f c at_z).least z lz iz up in
      let w = least_vanishes b (entry z 0) (value c z) (entry y 0) (value c y) up ez k in
      let q = dot_value b c y in
      omega (arith, ints)

  -- a vertex is determined by what is least there
  pub determined : (z y : Row) → IsVertex n (InCone G L) z → length y ≡ n → InCone G L y → pos 0 <ℤ entry y 0 →
      ((c : Row) → IsLeastAt n (InCone G L) z c → IsLeastAt n (InCone G L) y c) → SameDirection z y
  determined z y vz ly iy up f =
      let cut = generated_is_cut n G L hg hl in
      let lz = vz.extreme.cols in
      let iz = vz.extreme.inside in
      let w : Enough cut.0 z y = enough cut.0 z y (λ g i. cut_at z i ((cut.2 z lz).0 iz)) (λ g i. valid_low g z y (cols_at i cut.1) (λ x lx ix. cut_at x i ((cut.2 x lx).0 ix)) lz iz vz.point f) in
      let ld : length (difference w.m z (pos 1) y) ≡ n = length-difference n w.m z (pos 1) y lz ly in
      let rest : InCone G L (difference w.m z (pos 1) y) = (cut.2 (difference w.m z (pos 1) y) ld).1 (cut_from cut.0 (difference w.m z (pos 1) y) (λ g i. let a = w.above g i in simp (dot-difference, ring) (omega (arith, ints)))) in
      let t = (vz.extreme.summands w.m y (difference w.m z (pos 1) y) w.positive ly ld iy rest (record { at = λ i. simp (entry-times, entry-plus, entry-difference, ring) (omega (arith, ints)) })).0 in
      direction z y vz.point up (multiple n (InCone G L) ps z y t)
    where
      direction : (z y : Row) → pos 0 <ℤ entry z 0 → pos 0 <ℤ entry y 0 → IsMultiple z y → SameDirection z y
      direction z y uz uy t =
          let e = simp entry-times at (t.same.at 0) in
          let p = mul_pos t.positive uy in
          let o : pos 0 <ℤ (entry z 0 *ℤ t.k) = let q = *ℤ_comm (entry z 0) t.k in omega (arith, ints) in
          record { p = t.k; q = t.p; p_positive = pos_cancel uz o; q_positive = t.positive; same = record { at = λ i. sym (t.same.at i) } }

  -- ---- a vertex that a point is a sum with
  record HasPart (x : Row) : Type 0 where
    r : Row
    s : Row
    m : ℤ
    k : ℤ
    vertex : IsVertex n (InCone G L) r
    s_cols : length s ≡ n
    rest : InCone G L s
    m_positive : pos 0 <ℤ m
    k_positive : pos 0 <ℤ k
    same : Same (times m x) (plus (times k r) s)

  pub extreme_vertex : (r : Row) → IsExtreme n (InCone G L) r → IsVertex n (InCone G L) r
  extreme_vertex r e = record {
    extreme = e;
    point = by_lt_z (pos 0) (entry r 0) (λ up. up) (λ low.
        let a = ps.first r e.cols e.inside in
        let o = ps.bounded.only_zero r e.cols e.inside (omega (arith, ints)) in
        absurd (e.not_line (in_same (record { at = λ i. let z = o i in simp (entry-opposite, z) }) e.inside)));
  }

  module _ (V K : List Row) (lines : (x : Row) → length x ≡ n → InCone [] K x → pos 0 <ℤ entry x 0 → ⊥) (inside : (x : Row) → length x ≡ n → InCone V K x → InCone G L x) where
    find : (W : List Row) → ((g : Row) → Among g W → Among g V) → ((g : Row) → Among g W → IsVertex n (InCone G L) g) → (x : Row) → length x ≡ n → pos 0 <ℤ entry x 0 → InCone W K x → HasPart x
    find [] sub f x lx up h = absurd (lines x lx h up)
    find (g ∷ W) sub f x lx up h =
        let t = in_to_after W K g x h in
        by_lt_z (pos 0) t.q
        (λ q. let ld = length-difference n t.p x t.q g lx (f g here).extreme.cols in record {
          r = g;
          s = difference t.p x t.q g;
          m = t.p;
          k = t.q;
          vertex = f g here;
          s_cols = ld;
          rest = inside (difference t.p x t.q g) ld (in_of V W K (λ b i. sub b (there i)) t.rest);
          m_positive = t.positive;
          k_positive = q;
          same = record { at = λ i. simp (entry-times, entry-plus, entry-difference, ring) (omega (arith, ints)) };
        })
        (λ none. let a = t.not_negative in let o : t.q ≡ pos 0 = omega (arith, ints) in
        find W (λ b i. sub b (there i)) (λ b i. f b (there i)) x lx up (in_divide t.positive (in_same (record { at = λ i. simp (entry-times, entry-difference, o, ring) (omega (arith, ints)) }) t.rest)))

  has_part : (x : Row) → length x ≡ n → pos 0 <ℤ entry x 0 → InCone G L x → HasPart x
  has_part x lx up h =
      let e = extremes_generate n G L hg hl in
      let V = e.0 in
      let K = e.1 in
      find V K (λ y ly k uy. let i = (e.4 y ly).1 k in let a = ps.first (opposite y) (length-opposite y ∙ ly) i.opposed in let b = simp entry-opposite at a in omega (arith, ints))
      (λ y ly k. (e.5 y ly).1 k) V (λ g i. i) (λ g i. extreme_vertex g (among_All (λ v. IsExtreme n (InCone G L) v) i e.3.each)) x lx up ((e.5 x lx).0 h)

  part_value : (x : Row) (t : HasPart x) (c : Row) → t.m *ℤ value c x ≡ t.k *ℤ value c t.r +ℤ value c t.s
  part_value x t c = sym (value-times c t.m x) ∙ value-same c (times t.m x) (plus (times t.k t.r) t.s) (λ i. t.same.at (suc i)) ∙ dot-plus (pos 0 ∷ c) (times t.k t.r) t.s ∙ ap (λ z. z +ℤ value c t.s) (value-times c t.k t.r)

  part_keeps : (y : Row) (up : pos 0 <ℤ entry y 0) (t : HasPart y) (c : Row) → IsLeastAt n (InCone G L) y c → IsLeastAt n (InCone G L) t.r c
  part_keeps y up t c h = record {
    cols = h.cols;
    least = λ x lx ix ux.
        let e = simp (entry-times, entry-plus) at (t.same.at 0) in
        let s = least_all n (InCone G L) ps y c h t.s t.s_cols t.rest in
        let q = part_least t.m t.k (entry y 0) (value c y) (entry t.r 0) (value c t.r) (entry t.s 0) (value c t.s) t.k_positive e (part_value y t c) s in
        from_part (entry y 0) (value c y) (entry t.r 0) (value c t.r) (entry x 0) (value c x) up (weaken t.vertex.point) (weaken ux) q (h.least x lx ix ux);
  }

  -- what is least at a point is least at some vertex, one for all objectives
  pub at_vertex : (y : Row) → length y ≡ n → pos 0 <ℤ entry y 0 → InCone G L y → (r : Row) × IsVertex n (InCone G L) r × ((c : Row) → IsLeastAt n (InCone G L) y c → IsLeastAt n (InCone G L) r c)
  at_vertex y ly up h = let t = has_part y ly up h in (t.r, t.vertex, part_keeps y up t)
