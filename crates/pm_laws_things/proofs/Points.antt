-- A polytope is told by its points: what is so of these is so of the whole cone.
use Rattle.pm_vector.proofs.ConeLaws.{dot_in, in_cone_set, in_generator, in_zero, none_to_zero}
use Rattle.pm_vector.proofs.Lists.{All_among, Among, among_All, here}
use Rattle.pm_vector.proofs.Ring.{ring}
use Rattle.pm_vector.proofs.RowLaws.{dot-nil, dot-plus, dot-same, dot-times, entry-plus, entry-times, length-plus, length-times, times-dot}
use Rattle.pm_vector.proofs.Signs.{mul_cancel, mul_le, mul_nonneg, nonneg_cancel}
use Rattle.pm_vector.specs.Cones.{InCone, IsConeSet}
use Rattle.pm_vector.specs.Rows.{HasCols, Row, dot, entry, plus, times}
use Rattle.pm_geom.proofs.Polar.{bipolar, cut_at, cut_from}
use Rattle.pm_geom.specs.Things.{IsPolytopeThing}
use Rattle.pm_types.specs.Right.{CutsOutPolytope, Solves, empty, proper}
use Rattle.std.proofs.Common.{ap, arith, inl, inr, refl, subst, sym, ◌∙◌}
use Rattle.std.proofs.lemmas.Int.{by_lt_z, ints}
use Rattle.std.specs.Prelude.{List, [], length, ℕ, ◌↔◌, ◌∷◌, ◌≡◌}
use lib.IntN.{negsuc, pos, ℤ, ◌*ℤ◌, ◌+ℤ◌}
use lib.Signed.{◌<ℤ◌, ◌≤ℤ◌}

below : (v w : ℤ) → pos 0 ≤ℤ v → w <ℤ pos 0 → (v +ℤ (v +ℤ pos 1) *ℤ w) <ℤ pos 0
below v w hv hw =
    let q : ((v +ℤ pos 1) *ℤ w) ≤ℤ ((v +ℤ pos 1) *ℤ negsuc 0) = mul_le {a = v +ℤ pos 1} {b = w} {c = negsuc 0} (omega (arith, ints)) (omega (arith, ints)) in
    omega (arith, ints)

-- in a set of rows that is closed as cones are, and that has a row p with a positive first entry: what is not negative at such rows is not negative where the first entry is 0
module _ (n : ℕ) (S : Row → Type 0) (b : Row) (cs : IsConeSet S) (p : Row) (lp : length p ≡ n) (sp : S p) (up : pos 0 <ℤ entry p 0)
    (valid : (x : Row) → length x ≡ n → S x → pos 0 <ℤ entry x 0 → pos 0 ≤ℤ dot b x) where
  pub closing : (x : Row) → length x ≡ n → S x → pos 0 ≤ℤ entry x 0 → pos 0 ≤ℤ dot b x
  closing x lx sx fx = by_lt_z (dot b x) (pos 0) (λ low. absurd (against low)) (λ h. h)
    where
      v : ℤ
      v = dot b p

      not_below : pos 0 ≤ℤ v
      not_below = valid p lp sp up

      factor : pos 0 ≤ℤ (v +ℤ pos 1)
      factor = let h = not_below in omega (arith, ints)

      far : Row
      far = times (v +ℤ pos 1) x

      first_of : entry (plus p far) 0 ≡ entry p 0 +ℤ (v +ℤ pos 1) *ℤ entry x 0
      first_of = entry-plus p far 0 ∙ ap (λ z. entry p 0 +ℤ z) (entry-times (v +ℤ pos 1) x 0)

      value_of_sum : dot b (plus p far) ≡ v +ℤ (v +ℤ pos 1) *ℤ dot b x
      value_of_sum = dot-plus b p far ∙ ap (λ z. v +ℤ z) (dot-times b (v +ℤ pos 1) x)

      against : dot b x <ℤ pos 0 → ⊥
      against low =
          let q = mul_nonneg factor fx in
          let e = first_of in
          let positive : pos 0 <ℤ entry (plus p far) 0 = omega (arith, ints, up) in
          let value = valid (plus p far) (length-plus n p far lp (length-times (v +ℤ pos 1) x ∙ lx)) (cs.sum sp (cs.multiple factor sx)) positive in
          let f = value_of_sum in
          let sink = below v (dot b x) not_below low in
          omega (arith, ints)

-- ---- points that generate
pub first_entry : (x : Row) → dot (pos 1 ∷ []) x ≡ entry x 0
first_entry [] = refl
first_entry (a ∷ x) = simp ring (omega (arith, ints))

pub first_generated : (P : List Row) → ((p : Row) → Among p P → pos 0 <ℤ entry p 0) → (x : Row) → InCone P [] x → pos 0 ≤ℤ entry x 0
first_generated P first x h =
    subst (λ z. pos 0 ≤ℤ z) (first_entry x)
    (dot_in (pos 1 ∷ []) P [] (λ g i. subst (λ z. pos 0 ≤ℤ z) (sym (first_entry g)) (let up = first g i in omega (arith, ints))) (λ l i. elim i [ ]) h)

module _ (n : ℕ) (G L : List Row) (hg : HasCols n G) (hl : HasCols n L) (thing : IsPolytopeThing n G L) where
  from_points : (P : List Row) → HasCols n P → ((p : Row) → Among p P → pos 0 <ℤ entry p 0) → ((x : Row) → length x ≡ n → pos 0 <ℤ entry x 0 → InCone G L x ↔ InCone P [] x)
      → (x : Row) → length x ≡ n → InCone P [] x → InCone G L x
  from_points [] hp first points x lx h = in_zero (none_to_zero x h)
  from_points (p ∷ P) hp first points x lx h =
      bipolar n G L hg hl x lx
      (λ a v. closing n (InCone (p ∷ P) []) a (in_cone_set (p ∷ P) []) p hp.0 (in_generator here) (first p here) (λ y ly g up. v.holds y ly ((points y ly up).1 g)) x lx h (first_generated (p ∷ P) first x h))

  to_points : (P : List Row) → HasCols n P → ((x : Row) → length x ≡ n → pos 0 <ℤ entry x 0 → InCone G L x ↔ InCone P [] x) → (x : Row) → length x ≡ n → InCone G L x → InCone P [] x
  to_points P hp points x lx h = elim thing.proper [
    | inl none ↦ in_zero (none x lx h)
    | inr w ↦ bipolar n P [] hp tt x lx (λ a v. closing n (InCone G L) a (in_cone_set G L) w.0 w.1 w.2 w.3 (λ y ly g up. v.holds y ly ((points y ly up).0 g)) x lx h (thing.first x lx h))
  ]

  -- rows with positive first entries generate the cone where they generate its points
  pub generated_by_points : (P : List Row) → HasCols n P → ((p : Row) → Among p P → pos 0 <ℤ entry p 0) → ((x : Row) → length x ≡ n → pos 0 <ℤ entry x 0 → InCone G L x ↔ InCone P [] x)
      → (x : Row) → length x ≡ n → InCone G L x ↔ InCone P [] x
  generated_by_points P hp first points x lx = (to_points P hp points x lx, from_points P hp first points x lx)

-- ---- points that rows cut out
module _ (A E : List Row) where
  equation_at : {e : Row} (x : Row) → Among e E → Solves A E x → dot e x ≡ pos 0
  equation_at x i s = among_All (λ e. dot e x ≡ pos 0) i s.equations

  pub solution : (x : Row) → ((a : Row) → Among a A → pos 0 ≤ℤ dot a x) → ((e : Row) → Among e E → dot e x ≡ pos 0) → Solves A E x
  solution x f g = record { inequalities = cut_from A x f; equations = All_among (λ e. dot e x ≡ pos 0) E g }

  zero_times : (k z : ℤ) → z ≡ pos 0 → k *ℤ z ≡ pos 0
  zero_times k z e = ap (λ w. k *ℤ w) e ∙ (simp ring (omega (arith, ints)))

  solutions : IsConeSet (Solves A E)
  solutions = record {
    same = λ {x} {y} e s. solution y (λ a i. subst (λ z. pos 0 ≤ℤ z) (dot-same a x y e.at) (cut_at x i s.inequalities)) (λ b i. sym (dot-same b x y e.at) ∙ equation_at x i s);
    sum = λ {x} {y} s t. solution (plus x y)
        (λ a i. subst (λ z. pos 0 ≤ℤ z) (sym (dot-plus a x y)) (let p = cut_at x i s.inequalities in let q = cut_at y i t.inequalities in omega (arith, ints)))
        (λ b i. dot-plus b x y ∙ (let p = equation_at x i s in let q = equation_at y i t in omega (arith, ints)));
    multiple = λ {k} {x} h s. solution (times k x) (λ a i. subst (λ z. pos 0 ≤ℤ z) (sym (dot-times a k x)) (mul_nonneg h (cut_at x i s.inequalities))) (λ b i. dot-times b k x ∙ zero_times k (dot b x) (equation_at x i s));
    part = λ {k} {x} h s. solution x
        (λ a i. nonneg_cancel h (subst (λ z. pos 0 ≤ℤ z) (dot-times a k x) (cut_at (times k x) i s.inequalities)))
        (λ b i. mul_cancel h (sym (dot-times b k x) ∙ equation_at (times k x) i s ∙ sym (zero_times k (pos 0) refl)));
  }

  module _ (n : ℕ) (G L : List Row) (hg : HasCols n G) (hl : HasCols n L) (thing : IsPolytopeThing n G L) (points : (x : Row) → length x ≡ n → pos 0 <ℤ entry x 0 → InCone G L x ↔ Solves A E x) where
    module _ (p : Row) (lp : length p ≡ n) (ip : InCone G L p) (up : pos 0 <ℤ entry p 0) where
      kept : (b : Row) → ((x : Row) → length x ≡ n → Solves A E x → pos 0 ≤ℤ dot b x) → (y : Row) → length y ≡ n → InCone G L y → pos 0 ≤ℤ dot b y
      kept b f y ly h = closing n (InCone G L) b (in_cone_set G L) p lp ip up (λ x lx g q. f x lx ((points x lx q).0 g)) y ly h (thing.first y ly h)

      vanishing : {e : Row} → Among e E → (y : Row) → length y ≡ n → InCone G L y → dot e y ≡ pos 0
      vanishing {e} i y ly h =
          let up = kept e (λ x lx s. let q = equation_at x i s in omega (arith, ints)) y ly h in
          let down = kept (times (negsuc 0) e) (λ x lx s. subst (λ z. pos 0 ≤ℤ z) (sym (times-dot (negsuc 0) e x)) (let q = equation_at x i s in omega (arith, ints))) y ly h in
          let e' = times-dot (negsuc 0) e y in
          omega (arith, ints)

      solved : (y : Row) → length y ≡ n → InCone G L y → Solves A E y
      solved y ly h = solution y (λ a i. kept a (λ x lx s. cut_at x i s.inequalities) y ly h) (λ e i. vanishing i y ly h)

      solving : (y : Row) → length y ≡ n → Solves A E y → pos 0 ≤ℤ entry y 0 → InCone G L y
      solving y ly s f = bipolar n G L hg hl y ly (λ a v. closing n (Solves A E) a solutions p lp ((points p lp up).0 ip) up (λ x lx g q. v.holds x lx ((points x lx q).1 g)) y ly s f)

    no_first : (z : ℤ) → z ≡ pos 0 → ¬ (pos 0 <ℤ z)
    no_first z e up = omega (arith, ints)

    -- rows cut out the cone where they cut out its points
    pub cut_out_by_points : CutsOutPolytope n (InCone G L) A E
    cut_out_by_points = elim thing.proper [
      | inl none ↦ empty (λ x lx s up. no_first (entry x 0) (none x lx ((points x lx up).1 s) 0) up) (λ y ly. (λ h. none y ly h, λ z. in_zero z))
      | inr w ↦ proper w.0 w.1 ((points w.0 w.1 w.3).0 w.2) w.3 (λ y ly. (λ h. (solved w.0 w.1 w.2 w.3 y ly h, thing.first y ly h), λ s. solving w.0 w.1 w.2 w.3 y ly s.0 s.1))
    ]

-- ---- what is cut out solves
zero_product : (a x : Row) → ((i : ℕ) → entry x i ≡ pos 0) → dot a x ≡ pos 0
zero_product a x z = dot-same a x [] z ∙ dot-nil a

pub solved_by_cut : (A E : List Row) (n : ℕ) (S : Row → Type 0) → CutsOutPolytope n S A E → (x : Row) → length x ≡ n → S x → Solves A E x
solved_by_cut A E n S (proper p lp s up f) x lx h = ((f x lx).0 h).0
solved_by_cut A E n S (empty none f) x lx h =
    let z = (f x lx).0 h in
    solution A E x (λ a i. subst (λ w. pos 0 ≤ℤ w) (sym (zero_product a x z)) (omega (arith, ints))) (λ e i. zero_product e x z)
