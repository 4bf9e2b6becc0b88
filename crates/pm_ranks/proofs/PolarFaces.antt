-- The polar of a face: the places of the facet rows that vanish on it. Ranks of the two add up to that of the whole.
use Rattle.pm_vector.proofs.ConeLaws.{After, dot_in, in_generator, in_line, in_line_opposite, in_plus, in_same, in_to_after}
use Rattle.pm_vector.proofs.Lists.{Among, all_append, all_from, among_All, among_append, among_append_left, among_append_right, here, there}
use Rattle.pm_vector.proofs.Ring.{ring}
use Rattle.pm_vector.proofs.RowLaws.{dot_comm, entry-difference, entry-plus, entry-times, length-difference}
use Rattle.pm_vector.proofs.Signs.{mul_cancel, mul_nonneg, weaken}
use Rattle.pm_vector.specs.Cones.{InCone, InSpan}
use Rattle.pm_vector.specs.Rows.{HasCols, Row, difference, dot}
use Rattle.pm_vector.proofs.Rank.{rank_is_determined}
use Rattle.pm_vector.proofs.Spans.{at_place, place_of, span_difference, span_divide, span_from, span_of, span_times, span_to}
use Rattle.pm_vector.specs.Bases.{IsRank}
use Rattle.pm_vector.proofs.DotLaws.{dot_span_zero}
use Rattle.pm_geom.proofs.Dimension.{rank_is_left, some_basis}
use Rattle.pm_geom.proofs.Faces.{difference-dot, total, total_back, total_down, total_valid}
use Rattle.pm_geom.proofs.Facets.{order_as, valid_by_products}
use Rattle.pm_geom.proofs.Lineality.{facet_order_cuts_out}
use Rattle.pm_geom.proofs.Polar.{cols_at}
use Rattle.pm_geom.proofs.Spans.{order_cols}
use Rattle.pm_geom.proofs.ValidRows.{null_in}
use Rattle.pm_geom.specs.Cones.{IsExtreme, IsOrder, IsValid, Vanishes}
use Rattle.pm_geom.specs.Faces.{IsFace, ray}
use Rattle.pm_ranks.proofs.Chosen.{Large, chosen_from, chosen_some, chosen_to, large_on}
use Rattle.pm_ranks.proofs.Sharp.{valid_line}
use Rattle.pm_ranks.proofs.Tests.{and_both, and_first, and_second, is_zero, is_zero_from, is_zero_to}
use Rattle.pm_ranks.proofs.Walls.{positive_some}
use Rattle.pm_ranks.specs.Chosen.{chosen}
use Rattle.std.proofs.Common.{arith, inl, inr, refl, subst, sym, ◌∙◌}
use Rattle.std.proofs.lemmas.Int.{by_lt_z, ints}
use Rattle.std.specs.Prelude.{Bool, IsTrue, List, [], length, true, ℕ, ◌&&◌, ◌++◌, ◌+◌, ◌↔◌, ◌∷◌, ◌≡◌}
use lib.IntN.{pos, ℤ, ◌*ℤ◌, ◌-ℤ◌}
use lib.Signed.{◌<ℤ◌, ◌≤ℤ◌}

-- ---- a row that is 0 on all rows of a list, and the sum of these
unfoldable all_zero : Row → List Row → Bool
all_zero a [] = true
all_zero a (v ∷ X) = is_zero (dot a v) && all_zero a X

all_zero_to : (a : Row) (X : List Row) → IsTrue (all_zero a X) → (v : Row) → Among v X → dot a v ≡ pos 0
unfolding all_zero
all_zero_to a [] t v i = elim i [ ]
all_zero_to a (x ∷ X) t v here = is_zero_to (dot a x) (and_first (is_zero (dot a x)) (all_zero a X) t)
all_zero_to a (x ∷ X) t v (there i) = all_zero_to a X (and_second (is_zero (dot a x)) (all_zero a X) t) v i

all_zero_from : (a : Row) (X : List Row) → ((v : Row) → Among v X → dot a v ≡ pos 0) → IsTrue (all_zero a X)
unfolding all_zero
all_zero_from a [] f = refl
all_zero_from a (x ∷ X) f = and_both (is_zero (dot a x)) (all_zero a X) (is_zero_from (dot a x) (f x here)) (all_zero_from a X (λ v i. f v (there i)))

-- y = p x - q g, with x = 0 and the others not negative
parts_zero : (p q x y g : ℤ) → pos 0 <ℤ q → x ≡ pos 0 → y ≡ p *ℤ x -ℤ q *ℤ g → pos 0 ≤ℤ y → pos 0 ≤ℤ g → (y ≡ pos 0) × (g ≡ pos 0)
parts_zero p q x y g hq ex e hy hg =
    let a = simp (ex, ring) at e in
    let b = mul_nonneg (weaken hq) hg in
    (omega (arith, ints), mul_cancel hq (simp ring (omega (arith, ints))))

module _ (n : ℕ) (V K : List Row) (hv : HasCols n V) (hk : HasCols n K) (o : IsOrder n (InCone V K) V) (F E : List Row) (he : HasCols n E) (oF : IsOrder n (IsValid n V K) F) (vanish : (a : Row) → length a ≡ n → Vanishes n V K a ↔ InSpan E a) where
  pub valid_is : (a : Row) → length a ≡ n → IsValid n V K a ↔ InCone F E a
  valid_is = (facet_order_cuts_out n V K hv hk F E he oF vanish).0

  pub own_facets : IsOrder n (InCone F E) F
  own_facets = order_as n (IsValid n V K) (InCone F E) (λ a la. (valid_is a la).0) (λ a la. (valid_is a la).1) oF

  pub facet_cols : HasCols n F
  facet_cols = order_cols n (IsValid n V K) F oF

  pub facet_valid : (g : Row) → Among g F → IsValid n V K g
  facet_valid g i = (among_All (λ a. IsExtreme n (IsValid n V K) a) i oF.each).inside

  hull_null : (e : Row) → Among e E → (x : Row) → length x ≡ n → InCone V K x → dot x e ≡ pos 0
  hull_null e i x lx hx = dot_comm x e ∙ ((vanish e (cols_at i he)).1 (in_line i)).holds x lx hx

  module _ (f : ℕ → Bool) (face : IsFace n V K V f) where
    pub polar : ℕ → Bool
    polar i = all_zero (ray F i) (chosen f V)

    pub polar_to : (i : ℕ) → IsTrue (polar i) → (v : Row) → Among v (chosen f V) → dot (ray F i) v ≡ pos 0
    unfolding polar
    polar_to i t = all_zero_to (ray F i) (chosen f V) t

    pub polar_from : (i : ℕ) → ((v : Row) → Among v (chosen f V) → dot (ray F i) v ≡ pos 0) → IsTrue (polar i)
    unfolding polar
    polar_from i h = all_zero_from (ray F i) (chosen f V) h

    ray_cols : (v : Row) → Among v (chosen f V) → length v ≡ n
    ray_cols v i = cols_at (chosen_some f V i) hv

    ray_in : (v : Row) → Among v (chosen f V) → InCone V K v
    ray_in v i = in_generator (chosen_some f V i)

    -- a valid row that is 0 on the face is a combination of those facet rows that are, and of rows that vanish
    module _ (X : List Row) (hull : (e : Row) → Among e E → InSpan X e) where
      not_below : (W : List Row) → ((c : Row) → Among c W → IsValid n V K c) → (y : Row) → InCone W E y → (v : Row) → Among v (chosen f V) → pos 0 ≤ℤ dot y v
      not_below W h y k v i = rw dot_comm (dot_in v W E (λ c j. rw dot_comm ((h c j).holds v (ray_cols v i) (ray_in v i))) (λ e j. hull_null e j v (ray_cols v i) (ray_in v i)) k)

      spanned_more : (g : Row) (W : List Row) (x : Row) → IsValid n V K g → (((v : Row) → Among v (chosen f V) → dot g v ≡ pos 0) → InSpan X g) → ((c : Row) → Among c W → IsValid n V K c) → (t : After (InCone W E) g x) → pos 0 <ℤ t.q →
          ((v : Row) → Among v (chosen f V) → dot x v ≡ pos 0) → (((v : Row) → Among v (chosen f V) → dot (difference t.p x t.q g) v ≡ pos 0) → InSpan X (difference t.p x t.q g)) → InSpan X x
      spanned_more g W x vg hg h t up z rest =
          let parts : (v : Row) → Among v (chosen f V) → (dot (difference t.p x t.q g) v ≡ pos 0) × (dot g v ≡ pos 0) = λ v i. parts_zero t.p t.q (dot x v) (dot (difference t.p x t.q g) v) (dot g v) up (z v i) (difference-dot t.p x t.q g v) (not_below W h (difference t.p x t.q g) t.rest v i) (vg.holds v (ray_cols v i) (ray_in v i)) in
          span_divide (positive_some t.positive) (in_same (record { at = λ i. simp (entry-plus, entry-times, entry-difference) (omega (arith, ints)) }) (in_plus (rest (λ v i. (parts v i).0)) (span_times t.q (hg (λ v i. (parts v i).1)))))

      spanned_same : (g : Row) (W : List Row) (x : Row) → (t : After (InCone W E) g x) → t.q ≡ pos 0 → ((v : Row) → Among v (chosen f V) → dot x v ≡ pos 0) → (((v : Row) → Among v (chosen f V) → dot (difference t.p x t.q g) v ≡ pos 0) → InSpan X (difference t.p x t.q g)) → InSpan X x
      spanned_same g W x t none z rest = span_divide (positive_some t.positive) (in_same (record { at = λ i. simp (entry-times, entry-difference, none, ring) (omega (arith, ints)) }) (rest (λ v i. let e = z v i in difference-dot t.p x t.q g v ∙ simp (e, none, ring))))

      pub spanned : (W : List Row) → ((g : Row) → Among g W → IsValid n V K g × (((v : Row) → Among v (chosen f V) → dot g v ≡ pos 0) → InSpan X g)) → (x : Row) → InCone W E x → ((v : Row) → Among v (chosen f V) → dot x v ≡ pos 0) → InSpan X x
      spanned [] h x k z = span_of X E hull k
      spanned (g ∷ W) h x k z =
          let t = in_to_after W E g x k in
          let rest : ((v : Row) → Among v (chosen f V) → dot (difference t.p x t.q g) v ≡ pos 0) → InSpan X (difference t.p x t.q g) = λ y. spanned W (λ c j. h c (there j)) (difference t.p x t.q g) t.rest y in
          by_lt_z (pos 0) t.q
          (λ up. spanned_more g W x (h g here).0 (h g here).1 (λ c j. (h c (there j)).0) t up z rest)
          (λ low. let q = t.not_negative in spanned_same g W x t (omega (arith, ints)) z rest)

    polar_row : (g : Row) → Among g F → ((v : Row) → Among v (chosen f V) → dot g v ≡ pos 0) → InSpan (chosen polar F ++ E) g
    polar_row g i h = let w = place_of i in subst (λ u. InSpan (chosen polar F ++ E) u) w.2 (in_line (among_append_left E (chosen_from polar F w.0 w.1 (polar_from w.0 (λ v k. subst (λ u. dot u v ≡ pos 0) (sym w.2) (h v k))))))

    in_polar : (x : Row) → IsValid n V K x → ((v : Row) → Among v (chosen f V) → dot x v ≡ pos 0) → InSpan (chosen polar F ++ E) x
    in_polar x vx z = spanned (chosen polar F ++ E) (λ e i. in_line (among_append_right (chosen polar F) i)) F (λ g i. (facet_valid g i, polar_row g i)) x ((valid_is x vx.cols).0 vx) z

    face_null : (v : Row) → Among v (chosen f V) → dot face.a v ≡ pos 0
    face_null v i = let w = chosen_to f V i in subst (λ u. dot face.a u ≡ pos 0) w.3 ((face.places w.0 w.1).0 w.2)

    on_face : (v : Row) → Among v V → dot face.a v ≡ pos 0 → Among v (chosen f V)
    on_face v i z = let w = place_of i in subst (λ u. Among u (chosen f V)) w.2 (chosen_from f V w.0 w.1 ((face.places w.0 w.1).1 (subst (λ u. dot face.a u ≡ pos 0) (sym w.2) z)))

    hf : HasCols n (chosen f V)
    hf = all_from (λ (x : Row). length x ≡ n) (chosen f V) ray_cols

    -- a row that is 0 on the face is a combination of them, too
    polar_spans : (b : Row) → length b ≡ n → Vanishes n (chosen f V) K b → InSpan (chosen polar F ++ E) b
    polar_spans b lb vb =
        let N = large_on V face.a b (λ v i. face.valid.holds v (cols_at i hv) (in_generator i)) (λ v i z. let q = b_null v (on_face v i z) in omega (arith, ints)) in
        let y = in_polar (difference N.N face.a (pos 1) b) (valid N) (λ v i. let p = face_null v i in let q = b_null v i in difference-dot N.N face.a (pos 1) b v ∙ simp (p, q, ring)) in
        in_same (record { at = λ i. simp (entry-difference, ring) (omega (arith, ints)) }) (span_difference N.N (pos 1) (in_polar face.a face.valid face_null) y)
      where
        b_null : (v : Row) → Among v (chosen f V) → dot b v ≡ pos 0
        b_null v i = vb.holds v (ray_cols v i) (in_generator i)

        valid : (N : Large V face.a b) → IsValid n V K (difference N.N face.a (pos 1) b)
        valid N = valid_by_products n V K hv hk (difference N.N face.a (pos 1) b) (length-difference n N.N face.a (pos 1) b face.valid.cols lb)
            (λ v i. let h = N.at v i in let e = simp ring at (difference-dot N.N face.a (pos 1) b v) in omega (arith, ints))
            (λ k i. let p = valid_line n V K face.a face.valid k (cols_at i hk) (record { inside = in_line i; opposed = in_line_opposite i }) in let q = vb.holds k (cols_at i hk) (in_line i) in difference-dot N.N face.a (pos 1) b k ∙ simp (p, q, ring))

    polar_back : (b : Row) → length b ≡ n → InSpan (chosen polar F ++ E) b → Vanishes n (chosen f V) K b
    polar_back b lb h = record { cols = lb; holds = λ x lx hx. null_in b (chosen f V) K (λ v i. dot_comm b v ∙ dot_span_zero v (chosen polar F ++ E) b (at_ray v i) h) (λ k i. dot_comm b k ∙ dot_span_zero k (chosen polar F ++ E) b (at_line k i) h) hx }
      where
        at_ray : (v : Row) → Among v (chosen f V) → (g : Row) → Among g (chosen polar F ++ E) → dot v g ≡ pos 0
        at_ray v i g j = elim (among_append (chosen polar F) E j) [
          | inl q ↦ let w = chosen_to polar F q in subst (λ u. dot v u ≡ pos 0) w.3 (dot_comm v (ray F w.0) ∙ polar_to w.0 w.2 v i)
          | inr q ↦ hull_null g q v (ray_cols v i) (ray_in v i)
        ]

        at_line : (k : Row) → Among k K → (g : Row) → Among g (chosen polar F ++ E) → dot k g ≡ pos 0
        at_line k i g j = elim (among_append (chosen polar F) E j) [
          | inl q ↦ dot_comm k g ∙ valid_line n V K g (facet_valid g (chosen_some polar F q)) k (cols_at i hk) (record { inside = in_line i; opposed = in_line_opposite i })
          | inr q ↦ hull_null g q k (cols_at i hk) (in_line i)
        ]

    -- so the dimensions of the two add up to n
    pub polar_sum : (d e : ℕ) → IsRank (chosen f V ++ K) d → IsRank (chosen polar F ++ E) e → e + d ≡ n
    polar_sum d e r s =
        let b = some_basis n (chosen polar F ++ E) (all_append (λ (x : Row). length x ≡ n) (chosen polar F) E (all_from (λ (x : Row). length x ≡ n) (chosen polar F) (λ g i. cols_at (chosen_some polar F i) facet_cols)) he) in
        let c = (rank_is_left n (chosen f V) K hf hk b.rows b.cols b.independent (λ x lx. (λ v. span_from b.span (polar_spans x lx v), λ h. polar_back x lx (span_to b.span h))) d).0 r in
        let q = rank_is_determined (chosen polar F ++ E) e (length b.rows) s (record { basis = b.rows; independent = b.independent; span = b.span; as_many = refl }) in
        omega arith

    -- and the polar is a face of the cone of the valid rows
    pub polar_face : IsFace n F E F polar
    polar_face = record {
      a = total n F E (chosen f V);
      valid = total_valid n F E (chosen f V) rays_valid;
      places = λ i li. (
        λ t. total_back n F E (chosen f V) (ray F i) (λ v k. dot_comm v (ray F i) ∙ polar_to i t v k),
        λ z. polar_from i (λ v k. dot_comm (ray F i) v ∙ total_down n F E (chosen f V) rays_valid (ray F i) (cols_at (at_place F i li) facet_cols) (in_generator (at_place F i li)) z v k),
      );
    }
      where
        rays_valid : (v : Row) → Among v (chosen f V) → IsValid n F E v
        rays_valid v i = record { cols = ray_cols v i; holds = λ a la h. rw dot_comm (((valid_is a la).1 h).holds v (ray_cols v i) (ray_in v i)) }
