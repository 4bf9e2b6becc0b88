-- Whether a facet row vanishes on a ray does not depend on the representatives, up to positive scale, vanishing rows and lineality.
use Rattle.pm_vector.proofs.Ring.{ring}
use Rattle.pm_vector.proofs.RowLaws.{dot-plus, dot-same, dot-times, dot_comm, length-opposite, plus-dot, times-dot}
use Rattle.pm_vector.proofs.Signs.{mul_cancel, mul_pos, times_both}
use Rattle.pm_vector.specs.Cones.{InCone}
use Rattle.pm_vector.specs.Rows.{Row, dot, opposite, plus, times}
use Rattle.pm_geom.proofs.Facets.{dot-opposite}
use Rattle.pm_geom.specs.Cones.{InLineality, IsValid, SameModulo}
use Rattle.std.proofs.Common.{arith, sym, ◌∙◌}
use Rattle.std.proofs.lemmas.Int.{ints}
use Rattle.std.specs.Prelude.{List, length, ℕ, ◌↔◌, ◌≡◌}
use lib.IntN.{pos, ℤ, ◌*ℤ◌, ◌+ℤ◌}
use lib.Signed.{◌<ℤ◌}

-- q p z' = k l z with positive factors
scaled_zero : (p q k l z z' : ℤ) → pos 0 <ℤ p → pos 0 <ℤ q → pos 0 <ℤ k → pos 0 <ℤ l → (q *ℤ p) *ℤ z' ≡ (k *ℤ l) *ℤ z → z ≡ pos 0 ↔ z' ≡ pos 0
scaled_zero p q k l z z' hp hq hk hl e = (
  λ h. mul_cancel (mul_pos hq hp) (e ∙ (simp (h, ring))),
  λ h. mul_cancel (mul_pos hk hl) (sym e ∙ (simp (h, ring))),
)

module _ (n : ℕ) (G L : List Row) where
  -- a valid row vanishes on the lineality
  valid_on_line : (a w : Row) → IsValid n G L a → length w ≡ n → InLineality (InCone G L) w → dot a w ≡ pos 0
  valid_on_line a w v l h =
      let up = v.holds w l h.inside in
      let down = rw dot-opposite at (v.holds (opposite w) (length-opposite w ∙ l) h.opposed) in
      omega (arith, ints)

  -- a row of the lineality of the valid rows vanishes on the cone
  line_on_cone : (e x : Row) → InLineality (IsValid n G L) e → length x ≡ n → InCone G L x → dot e x ≡ pos 0
  line_on_cone e x h l i =
      let up = h.inside.holds x l i in
      let down = rw (dot_comm (opposite e) x, dot-opposite, dot_comm x e) at (h.opposed.holds x l i) in
      omega (arith, ints)

  product : (f v f' v' : Row) → (s : SameModulo n (InCone G L) v v') → (t : SameModulo n (IsValid n G L) f f') → IsValid n G L f → length v ≡ n → InCone G L v → (t.p *ℤ s.p) *ℤ dot f' v' ≡ (s.k *ℤ t.k) *ℤ dot f v
  product f v f' v' s t valid lv iv =
      let on_line : dot f s.w ≡ pos 0 = valid_on_line f s.w valid s.cols s.line in
      let on_ray : dot t.w v ≡ pos 0 = line_on_cone t.w v t.line lv iv in
      let on_both : dot t.w s.w ≡ pos 0 = line_on_cone t.w s.w t.line s.cols s.line.inside in
      let ray : s.p *ℤ dot f' v' ≡ s.k *ℤ dot f' v +ℤ dot f' s.w = simp (dot-plus, dot-times) at (dot-same f' (times s.p v') (plus (times s.k v) s.w) s.same.at) in
      let row_v : t.p *ℤ dot f' v ≡ t.k *ℤ dot f v +ℤ dot t.w v = facet v in
      let row_w : t.p *ℤ dot f' s.w ≡ t.k *ℤ dot f s.w +ℤ dot t.w s.w = facet s.w in
      combined t.p s.p t.k s.k (dot f' v') (dot f' v) (dot f' s.w) (dot f v) (dot f s.w) (dot t.w v) (dot t.w s.w) ray row_v row_w on_line on_ray on_both
    where
      facet : (x : Row) → t.p *ℤ dot f' x ≡ t.k *ℤ dot f x +ℤ dot t.w x
      facet x = sym (times-dot t.p f' x) ∙ dot_comm (times t.p f') x ∙ dot-same x (times t.p f') (plus (times t.k f) t.w) t.same.at ∙ dot_comm x (plus (times t.k f) t.w) ∙ (simp (plus-dot, times-dot))

      combined : (q p l k z a b c d e g : ℤ) → p *ℤ z ≡ k *ℤ a +ℤ b → q *ℤ a ≡ l *ℤ c +ℤ e → q *ℤ b ≡ l *ℤ d +ℤ g → d ≡ pos 0 → e ≡ pos 0 → g ≡ pos 0 → (q *ℤ p) *ℤ z ≡ (k *ℤ l) *ℤ c
      combined q p l k z a b c d e g h1 h2 h3 hd he hg =
          let x1 = simp ring at (times_both q h1) in
          let x2 = simp ring at (times_both k h2) in
          let x3 = simp (hd, hg, ring) at h3 in
          let x4 = simp (he, ring) at x2 in
          simp ring (omega (arith, ints))

  pub same_zero : (f v f' v' : Row) → SameModulo n (InCone G L) v v' → SameModulo n (IsValid n G L) f f' → IsValid n G L f → length v ≡ n → InCone G L v → dot f v ≡ pos 0 ↔ dot f' v' ≡ pos 0
  same_zero f v f' v' s t valid lv iv = scaled_zero s.p t.p s.k t.k (dot f v) (dot f' v') s.p_positive t.p_positive s.k_positive t.k_positive (product f v f' v' s t valid lv iv)
