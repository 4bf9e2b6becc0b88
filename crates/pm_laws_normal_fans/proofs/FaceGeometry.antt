-- The vertices of a polytope on whose facets 0 does not lie: of several each is on some facet, and one alone is on
-- none.
use Rattle.pm_vector.proofs.Filters.{any_from, any_to}
use Rattle.pm_vector.proofs.Lists.{All_among, Among, Any_among, among_All, here, there}
use Rattle.pm_vector.proofs.Ring.{ring}
use Rattle.pm_vector.proofs.RowLaws.{dot-difference, dot_comm, dot-zeros, entry-difference, entry-plus, entry-times, length-difference, length-zeros, zeros}
use Rattle.pm_vector.proofs.Signs.{mul_pos}
use Rattle.pm_vector.specs.Cones.{InCone}
use Rattle.pm_vector.specs.Rows.{HasCols, Row, difference, dot, entry}
use Rattle.pm_geom.proofs.Facets.{facet_rows_cut_out, vanishes_line}
use Rattle.pm_geom.proofs.Lineality.{facet_order_cuts_out, valid_generated}
use Rattle.pm_geom.proofs.Polar.{cut_from}
use Rattle.pm_geom.proofs.ValidRows.{null_in}
use Rattle.pm_geom.specs.Cones.{IsExtreme, IsValid, MultipleModulo, SameModulo, Vanishes}
use Rattle.pm_geom.specs.Faces.{ray}
use Rattle.pm_laws_normal_fans.proofs.FacetFans.{corner, generated}
use Rattle.pm_laws_normal_fans.proofs.Places.{among_at, by_order}
use Rattle.pm_laws_normal_fans.proofs.SumLaws.{IsPointed, line_zero}
use Rattle.pm_geom.proofs.Enough.{Enough, enough}
use Rattle.pm_laws_normal_fans.proofs.Vertices.{extreme_vertex}
use Rattle.pm_laws_normal_fans.specs.FaceFans.{AreOrdersOf, IsCenteredPolytope}
use Rattle.pm_laws_normal_fans.specs.Shadows.{is_zero}
use Rattle.pm_laws_normal_fans.specs.Sums.{Cone, In}
use Rattle.std.proofs.Common.{Bool, ap, arith, false, refl, subst, sym, true, true≢false, ◌∙◌}
use Rattle.std.proofs.lemmas.Int.{by_lt_z, ints}
use Rattle.std.specs.List.{Any, list_any}
use Rattle.std.specs.Prelude.{List, [], length, suc, zero, ℕ, ◌<◌, ◌∷◌, ◌≡◌}
use lib.IntN.{negsuc, pos, ℤ}
use lib.Signed.{◌<ℤ◌, ◌≤ℤ◌}

zero_yes : (z : ℤ) → is_zero z ≡ true → z ≡ pos 0
zero_yes (pos zero) e = refl
zero_yes (pos (suc k)) e = absurd (true≢false (sym e))
zero_yes (negsuc k) e = absurd (true≢false (sym e))

zero_no : (z : ℤ) → z ≡ pos 0 → is_zero z ≡ true
zero_no (pos zero) e = refl
zero_no (pos (suc k)) e = absurd (let f : pos (suc k) ≡ pos 0 = e in omega (arith, ints))
zero_no (negsuc k) e = absurd (let f : negsuc k ≡ pos 0 = e in omega (arith, ints))

module _ (m : ℕ) (P : Cone) (V F : List Row) (around : IsCenteredPolytope (suc m) P) (orders : AreOrdersOf (suc m) P V F) where
  hg : HasCols (suc m) P.generators
  hg = around.thing.cone.generators

  hl : HasCols (suc m) P.lines
  hl = around.thing.cone.lines

  tip : IsPointed (suc m) (In P)
  tip = corner m P V F around orders

  v_extreme : (v : Row) → Among v V → IsExtreme (suc m) (In P) v
  v_extreme v i = among_All (λ v. IsExtreme (suc m) (In P) v) i orders.rays.each

  f_extreme : (a : Row) → Among a F → IsExtreme (suc m) (IsValid (suc m) P.generators P.lines) a
  f_extreme a i = among_All (λ a. IsExtreme (suc m) (IsValid (suc m) P.generators P.lines) a) i orders.facets.each

  least : (a v : Row) → Among a F → Among v V → pos 0 ≤ℤ dot a v
  least a v ia iv = (f_extreme a ia).inside.holds v (v_extreme v iv).cols (v_extreme v iv).inside

  -- ---- a row on no facet is the only one
  module _ (v w : Row) (iv : Among v V) (iw : Among w V) (off : (a : Row) → Among a F → dot a v ≡ pos 0 → ⊥) where
    above : Enough F v w
    above = enough F v w (λ g i. least g v i iv) (λ g i o. absurd (off g i o))

    rest_in : In P (difference above.m v (pos 1) w)
    rest_in =
        let (F0, E0, he, o0, vanish, gen, cuts) = facet_rows_cut_out (suc m) P.generators P.lines hg hl in
        let lx = length-difference (suc m) above.m v (pos 1) w (v_extreme v iv).cols (v_extreme w iw).cols in
        let c = (facet_order_cuts_out (suc m) P.generators P.lines hg hl F E0 he orders.facets vanish).1 in
        (c (difference above.m v (pos 1) w) lx).1 (
          cut_from F (difference above.m v (pos 1) w) (λ a ia. let q = above.above a ia in let e = dot-difference a above.m v (pos 1) w in rw e (let r = simp ring at q in simp ring (omega (arith, ints)))),
          All_among (λ e. dot e (difference above.m v (pos 1) w) ≡ pos 0) E0 (λ e ie.
              let p = among_All (λ e. dot e v ≡ pos 0) ie ((c v (v_extreme v iv).cols).0 (v_extreme v iv).inside).1 in
              let q = among_All (λ e. dot e w ≡ pos 0) ie ((c w (v_extreme w iw).cols).0 (v_extreme w iw).inside).1 in
              dot-difference e above.m v (pos 1) w ∙ simp (p, q, ring)),
        )

    split : MultipleModulo (suc m) (In P) v w
    split = ((v_extreme v iv).summands above.m w (difference above.m v (pos 1) w) above.positive (v_extreme w iw).cols (length-difference (suc m) above.m v (pos 1) w (v_extreme v iv).cols (v_extreme w iw).cols) (v_extreme w iw).inside rest_in
        (record { at = λ i. simp (entry-times, entry-plus, entry-difference, ring) (omega (arith, ints)) })).0

    pub alike : SameModulo (suc m) (In P) v w
    alike = by_lt_z (pos 0) split.k
        (λ up. record { p = split.p; k = split.k; w = split.w; cols = split.cols; p_positive = split.positive; k_positive = up; line = split.line; same = split.same })
        (λ low. absurd (let z = (extreme_vertex (suc m) P.generators P.lines hg hl tip w (v_extreme w iw)).point in let o = line_zero (suc m) (In P) tip split.w split.cols split.line 0 in let e = simp (entry-times, entry-plus, o) at (split.same.at 0) in let n = split.not_negative in let k0 : split.k ≡ pos 0 = omega (arith, ints) in let f = simp (k0, ring) at e in let g = mul_pos split.positive z in omega (arith, ints)))

  alike_back : (v w : Row) → SameModulo (suc m) (In P) v w → SameModulo (suc m) (In P) w v
  alike_back v w s =
      let z = line_zero (suc m) (In P) tip s.w s.cols s.line in
      record {
        p = s.k;
        k = s.p;
        w = s.w;
        cols = s.cols;
        p_positive = s.k_positive;
        k_positive = s.p_positive;
        line = s.line;
        same = record { at = λ i. let e = simp (entry-times, entry-plus) at (s.same.at i) in let o = z i in simp (entry-times, entry-plus) (omega (arith, ints)) };
      }

  pub on_facet : (i j : ℕ) → i < length V → j < length V → ¬ (i ≡ j) → Any (λ a. dot (ray V i) a ≡ pos 0) F
  on_facet i j li lj d = by (list_any (λ a. is_zero (dot (ray V i) a)) F) refl
    where
      by : (t : Bool) → list_any (λ a. is_zero (dot (ray V i) a)) F ≡ t → Any (λ a. dot (ray V i) a ≡ pos 0) F
      by true e = let (a, ia, z) = any_to (λ a. is_zero (dot (ray V i) a)) F e in Any_among (λ a. dot (ray V i) a ≡ pos 0) ia (zero_yes (dot (ray V i) a) z)
      by false e =
          let s = alike (ray V i) (ray V j) (among_at [] V i li) (among_at [] V j lj) (λ a ia o. true≢false (sym (any_from (λ a. is_zero (dot (ray V i) a)) ia (zero_no (dot (ray V i) a) (dot_comm (ray V i) a ∙ o))) ∙ e)) in
          absurd (by_order i j (λ l. orders.rays.once i j [] l lj s) (λ l. orders.rays.once j i [] l li (alike_back (ray V i) (ray V j) s)) (λ q. d q))

  -- ---- one row alone
  module _ (v : Row) (one : V ≡ v ∷ []) where
    listed : Among v V
    listed = subst (Among v) (sym one) here

    of_v : (x : Row) → length x ≡ suc m → In P x → InCone (v ∷ []) [] x
    of_v x lx h = subst (λ W. InCone W [] x) one ((generated m P V F around orders x lx).0 h)

    null_on : (a : Row) → length a ≡ suc m → dot a v ≡ pos 0 → Vanishes (suc m) P.generators P.lines a
    null_on a la o = record { cols = la; holds = λ x lx h. null_in a (v ∷ []) [] (λ g i. only g i) (λ l i. elim i [ ]) (of_v x lx h) }
      where
        only : (g : Row) → Among g (v ∷ []) → dot a g ≡ pos 0
        only g here = o
        only g (there i) = elim i [ ]

    pub off_facets : (a : Row) → Among a F → dot a v ≡ pos 0 → ⊥
    off_facets a ia o = let e = f_extreme a ia in e.not_line ((vanishes_line (suc m) P.generators P.lines hg hl a e.cols).0 (null_on a e.cols o)).opposed

    above_zero : (a : Row) → Among a F → pos 0 <ℤ dot a v
    above_zero a ia = by_lt_z (pos 0) (dot a v) (λ up. up) (λ low. let l = least a v ia listed in absurd (off_facets a ia (omega (arith, ints))))

    -- any two facet rows are alike
    both_alike : (a b : Row) → Among a F → Among b F → SameModulo (suc m) (IsValid (suc m) P.generators P.lines) a b
    both_alike a b ia ib =
        let ea = f_extreme a ia in
        let eb = f_extreme b ib in
        let w = difference (dot a v) b (dot b v) a in
        let lw = length-difference (suc m) (dot a v) b (dot b v) a eb.cols ea.cols in
        record {
          p = dot a v;
          k = dot b v;
          w = w;
          cols = lw;
          p_positive = above_zero a ia;
          k_positive = above_zero b ib;
          line = (vanishes_line (suc m) P.generators P.lines hg hl w lw).0 (null_on w lw (dot_comm w v ∙ dot-difference v (dot a v) b (dot b v) a ∙ (let p = dot_comm v a in let q = dot_comm v b in simp (p, q, ring) (omega (arith, ints)))));
          same = record { at = λ i. simp (entry-times, entry-plus, entry-difference) (omega (arith, ints)) };
        }

    abbrev first_row : Row
    first_row = pos 1 ∷ zeros m

    first_dot : (x : Row) → dot first_row x ≡ entry x 0
    first_dot [] = refl
    first_dot (b ∷ x) = let z = dot-zeros m x in simp (z, ring) (omega (arith, ints))

    some_facet : 0 < length F
    some_facet =
        let (F0, E0, he, o0, vanish, gen, cuts) = facet_rows_cut_out (suc m) P.generators P.lines hg hl in
        let lf : length first_row ≡ suc m = ap suc (length-zeros m) in
        let valid : IsValid (suc m) P.generators P.lines first_row = record { cols = lf; holds = λ x lx h. let e = first_dot x in let p = around.thing.first x lx h in omega (arith, ints) } in
        let k = (valid_generated (suc m) P.generators P.lines hg hl F E0 he orders.facets vanish first_row lf).0 valid in
        by F refl (λ e. let n = ((vanish first_row lf).1 (subst (λ G. InCone G E0 first_row) e k)).holds v (v_extreme v listed).cols (v_extreme v listed).inside in let q = first_dot v in let up = (extreme_vertex (suc m) P.generators P.lines hg hl tip v (v_extreme v listed)).point in absurd (omega (arith, ints)))
      where
        by : (G : List Row) → F ≡ G → (F ≡ [] → 0 < length F) → 0 < length F
        by [] e f = f e
        by (a ∷ G) e f = let q = ap length e in omega arith

    pub one_facet : length F ≡ 1
    one_facet = by F refl
      where
        by : (G : List Row) → F ≡ G → length F ≡ 1
        by [] e = let s = some_facet in let q = ap length e in absurd (omega arith)
        by (a ∷ []) e = ap length e
        by (a ∷ b ∷ G) e = let q = ap length e in absurd (orders.facets.once 0 1 [] (omega arith) (omega arith) (both_alike (ray F 0) (ray F 1) (among_at [] F 0 (omega arith)) (among_at [] F 1 (omega arith))))
