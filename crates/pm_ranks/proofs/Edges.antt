-- The neighbours of an extreme ray r: with r and the lineality they generate a cone that has the cone in it, and each of them is with r a face.
use Rattle.pm_vector.proofs.ConeLaws.{in_generator, in_line, in_line_opposite, in_more_lines}
use Rattle.pm_vector.proofs.Lists.{Among, among_All, here, there}
use Rattle.pm_vector.proofs.Ring.{ring}
use Rattle.pm_vector.proofs.RowLaws.{dot-plus, dot-same, dot-times, entry-plus, entry-times}
use Rattle.pm_vector.proofs.Signs.{mul_cancel, mul_pos, times_both}
use Rattle.pm_vector.specs.Cones.{InCone}
use Rattle.pm_vector.specs.Rows.{HasCols, Row, dot, entry, opposite, plus, times}
use Rattle.pm_geom.proofs.Polar.{cols_at}
use Rattle.pm_geom.proofs.Reduce.{generators}
use Rattle.pm_geom.specs.Cones.{InLineality, IsExtreme, IsValid, SameModulo}
use Rattle.pm_ranks.proofs.Alike.{OnLine, like_one, line_of}
use Rattle.pm_ranks.proofs.Sharp.{Above, above_all, valid_fewer_lines, valid_line}
use Rattle.std.proofs.Common.{arith, inl, inr}
use Rattle.std.proofs.lemmas.Int.{ints}
use Rattle.std.specs.Prelude.{List, length, ℕ, ◌∷◌, ◌≡◌, ◌⊎◌}
use lib.IntN.{pos, ℤ, ◌*ℤ◌, ◌+ℤ◌}
use lib.Signed.{◌<ℤ◌}

pub two_steps : (p q k m v t w r u : ℤ) → p *ℤ v ≡ k *ℤ t +ℤ w → q *ℤ w ≡ m *ℤ r +ℤ u → q *ℤ p *ℤ v ≡ q *ℤ k *ℤ t +ℤ m *ℤ r +ℤ u
two_steps p q k m v t w r u e f = let a = simp ring at (times_both q e) in simp ring (omega (arith, ints))

module _ (n : ℕ) (V K : List Row) (hv : HasCols n V) (hk : HasCols n K) (ex : (v : Row) → Among v V → IsExtreme n (InCone V K) v) (r : Row) (ir : Among r V) where
  er : IsExtreme n (InCone V K) r
  er = ex r ir

  -- ---- a row that is 0 on r and t and positive on the others
  pub record EdgeRow (t : Row) : Type 0 where
    pub a : Row
    pub valid : IsValid n V K a
    pub first : dot a r ≡ pos 0
    pub second : dot a t ≡ pos 0
    pub others : (v : Row) → Among v V → (SameModulo n (InCone V K) v t ⊎ SameModulo n (InCone V K) v r) ⊎ (pos 0 <ℤ dot a v)

  pub edge_row : (t : Row) → Among t V → IsExtreme n (InCone V (r ∷ K)) t → EdgeRow t
  edge_row t it et = record {
    a = up.a;
    valid = valid_fewer_lines n V K r up.a (valid_fewer_lines n V (r ∷ K) t up.a up.valid);
    first = valid_line n V (t ∷ r ∷ K) up.a up.valid r (er.cols) (record { inside = in_line (there here); opposed = in_line_opposite (there here) });
    second = valid_line n V (t ∷ r ∷ K) up.a up.valid t (et.cols) (record { inside = in_line here; opposed = in_line_opposite here });
    others = λ v i. elim (up.above v i) [ inr h ↦ inr h | inl h ↦ inl (like v i h) ];
  }
    where
      up : Above n V (t ∷ r ∷ K) V
      up = above_all n V (t ∷ r ∷ K) hv (et.cols, (er.cols, hk)) V (λ y i. (cols_at i hv, in_generator i))

      by_lines : (v : Row) → Among v V → (s : OnLine n V (r ∷ K) t et v) → (u : OnLine n V K r er s.w) → SameModulo n (InCone V K) v t ⊎ SameModulo n (InCone V K) v r
      by_lines v i s u =
          like_one n V K (u.p *ℤ s.p) (u.p *ℤ s.k) u.k v t r u.w (mul_pos u.positive s.positive) (ex v i) (ex t it) er u.cols u.line
          (λ e. two_steps s.p u.p s.k u.k (entry v e) (entry t e) (entry s.w e) (entry r e) (entry u.w e) (s.same e) (u.same e))

      like : (v : Row) → Among v V → InCone V (t ∷ r ∷ K) (opposite v) → SameModulo n (InCone V K) v t ⊎ SameModulo n (InCone V K) v r
      like v i h =
          let s = line_of n V (r ∷ K) t et v (cols_at i hv) (record { inside = in_generator i; opposed = h }) in
          by_lines v i s (line_of n V K r er s.w s.cols s.line)

  -- ---- the neighbours
  pub record Near : Type 0 where
    pub rows : List Row
    pub lines : List Row
    pub some : (t : Row) → Among t rows → Among t V
    pub each : (t : Row) → Among t rows → IsExtreme n (InCone V (r ∷ K)) t
    pub null : (a : Row) → dot a r ≡ pos 0 → ((w : Row) → length w ≡ n → InLineality (InCone V K) w → dot a w ≡ pos 0) → (l : Row) → Among l lines → dot a l ≡ pos 0
    pub enough : (x : Row) → InCone V K x → InCone rows lines x

  hrk : HasCols n (r ∷ K)
  hrk = (er.cols, hk)

  -- a row of the list whose opposite is in the cone with the line through r has products as r
  line_null : (a : Row) → dot a r ≡ pos 0 → ((w : Row) → length w ≡ n → InLineality (InCone V K) w → dot a w ≡ pos 0) → (l : Row) → length l ≡ n → InLineality (InCone V (r ∷ K)) l → dot a l ≡ pos 0
  line_null a z f l ll s =
      let u = line_of n V K r er l ll s in
      let w = f u.w u.cols u.line in
      let q = simp (dot-plus, dot-times, z, w, ring) at (dot-same a (times u.p l) (plus (times u.k r) u.w) (λ i. let e = u.same i in simp (entry-times, entry-plus) (omega (arith, ints)))) in
      mul_cancel u.positive (simp ring (omega (arith, ints)))

  pub near : Near
  near =
      let g = generators n V (r ∷ K) hv hrk in
      record {
        rows = g.rows;
        lines = g.lines;
        some = g.some;
        each = λ t i. among_All (λ v. IsExtreme n (InCone V (r ∷ K)) v) i g.order.each;
        null = λ a z f l i. line_null a z f l (cols_at i g.cols) (record { inside = (g.both_ways l i).0; opposed = (g.both_ways l i).1 });
        enough = λ x h. g.enough x (in_more_lines V K r h);
      }
