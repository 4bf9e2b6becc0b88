-- One description of a cone or polytope is its twin too: its extreme rays with its lineality generate it, and its facet rows with those that vanish cut it out.
use Rattle.pm_vector.proofs.ConeLaws.{dot_in, in_cone_set, in_divide, in_generator, in_line, in_line_opposite, in_of, in_plus, in_same, in_through, in_times, in_zero, lines_opposite}
use Rattle.pm_vector.proofs.Lists.{All_among, Among, all_at, among_All, here, there}
use Rattle.pm_vector.proofs.RowLaws.{dot-same, dot_comm, entry-opposite, entry-plus, entry-times, plus-dot, same_sym, times-dot}
use Rattle.pm_vector.proofs.Signs.{mul_nonneg, nonneg_cancel, weaken}
use Rattle.pm_vector.specs.Cones.{InCone, InSpan, IsConeSet}
use Rattle.pm_vector.specs.Rows.{HasCols, Row, dot, entry, plus, times}
use Rattle.pm_geom.proofs.Facets.{order_generates, vanishes_line}
use Rattle.pm_geom.proofs.Lineality.{valid_generated}
use Rattle.pm_geom.proofs.Polar.{bipolar, cut_at, cut_from}
use Rattle.pm_geom.specs.Cones.{InLineality, IsExtreme, IsOrder, IsValid, SameModulo, Vanishes}
use Rattle.pm_geom.specs.Things.{AreConeOrders, IsPolytopeThing, Orders}
use Rattle.pm_types.specs.Things.{AreOrdersOf, IsOfType}
use Rattle.pm_object_type.specs.declared.object_type.ObjectType.TheVariants.{Cone, Fan, Polytope}
use Rattle.pm_object_type.specs.declared.object_type.ObjectType.{ObjectType}
use Rattle.pm_relations.proofs.Spans.{basis_lineality, hull_rows, thing_cols}
use Rattle.pm_relations.specs.Laws.{FacetsCutOut, VerticesGenerate}
use Rattle.pm_types.specs.Right.{CutsOutOf, CutsOutPolytope, InLinesOf, InOrder, IsBasis, SameRayOf, Solves, empty, proper}
use Rattle.std.proofs.Common.{arith, inl, inr, refl, ◌∙◌}
use Rattle.std.proofs.lemmas.Int.{ints}
use Rattle.std.specs.List.{All}
use Rattle.std.specs.Prelude.{List, [], length, ℕ, ◌↔◌, ◌∷◌, ◌≡◌}
use lib.IntN.{pos, ℤ, ◌*ℤ◌, ◌+ℤ◌}
use lib.Signed.{◌<ℤ◌, ◌≤ℤ◌}

-- ---- lists in one order
-- what is so of each row of the one list makes something so of each row of the other
module _ (R : Row → Row → Type 0) (A B : Row → Type 0) where
  pub in_order_to : ((v x : Row) → R v x → A v → B x) → (vs xs : List Row) → InOrder R vs xs → ((v : Row) → Among v vs → A v) → (x : Row) → Among x xs → B x
  in_order_to step [] [] o f x i = elim i [ ]
  in_order_to step [] (y ∷ xs) o f x i = absurd o
  in_order_to step (v ∷ vs) [] o f x i = absurd o
  in_order_to step (v ∷ vs) (y ∷ xs) o f x here = step v y o.0 (f v here)
  in_order_to step (v ∷ vs) (y ∷ xs) o f x (there i) = in_order_to step vs xs o.1 (λ w j. f w (there j)) x i

  in_order_back : ((v x : Row) → R v x → A x → B v) → (vs xs : List Row) → InOrder R vs xs → ((x : Row) → Among x xs → A x) → (v : Row) → Among v vs → B v
  in_order_back step [] [] o f v i = elim i [ ]
  in_order_back step [] (x ∷ xs) o f v i = absurd o
  in_order_back step (u ∷ vs) [] o f v i = absurd o
  in_order_back step (u ∷ vs) (x ∷ xs) o f v here = step u x o.0 (f x here)
  in_order_back step (u ∷ vs) (x ∷ xs) o f v (there i) = in_order_back step vs xs o.1 (λ w j. f w (there j)) v i

-- ---- rows that are alike generate the same with rows that span the lineality
-- the span of the lines is in each cone with these lines
spanned : (G K : List Row) {w : Row} → InSpan K w → InCone G K w
spanned G K h = in_of G [] K (λ g i. elim i [ ]) h

module _ (n : ℕ) (S : Row → Type 0) (K : List Row) (lines : (w : Row) → length w ≡ n → InLineality S w → InSpan K w) where
  generated_to : (T : List Row) (v x : Row) → SameModulo n S v x → InCone T K v → InCone T K x
  generated_to T v x s h = in_divide s.p_positive (in_same (same_sym s.same) (in_plus (in_times (weaken s.k_positive) h) (spanned T K (lines s.w s.cols s.line))))

  generated_from : (T : List Row) (v x : Row) → SameModulo n S v x → InCone T K x → InCone T K v
  generated_from T v x s h =
      in_divide s.k_positive
      (in_same (record { at = λ i. let q = simp (entry-times, entry-plus) at (s.same.at i) in simp (entry-times, entry-plus, entry-opposite) (omega (arith, ints)) }) (in_plus (in_times (weaken s.p_positive) h) (spanned T K (lines_opposite K s.w (lines s.w s.cols s.line)))))

  alike_generate : (vs xs : List Row) → InOrder (SameModulo n S) vs xs → (x : Row) → InCone vs K x ↔ InCone xs K x
  alike_generate vs xs o x = (
    λ h. in_through xs K vs K (in_order_back (SameModulo n S) (InCone xs K) (InCone xs K) (generated_from xs) vs xs o (λ y i. in_generator i)) (λ l i. (in_line i, in_line_opposite i)) h,
    λ h. in_through vs K xs K (in_order_to (SameModulo n S) (InCone vs K) (InCone vs K) (generated_to vs) vs xs o (λ v i. in_generator i)) (λ l i. (in_line i, in_line_opposite i)) h,
  )

-- ---- the extreme rays and the lineality
-- a row that is alike to one of a cone set is in it
pub alike_inside : (n : ℕ) (S : Row → Type 0) → IsConeSet S → (v x : Row) → SameModulo n S v x → S v → S x
alike_inside n S cs v x s h = cs.part s.p_positive (cs.same (same_sym s.same) (cs.sum (cs.multiple (weaken s.k_positive) h) s.line.inside))

module _ (n : ℕ) (G L V xs : List Row) (o : IsOrder n (InCone G L) V) (order : InOrder (SameModulo n (InCone G L)) V xs) where
  -- rows that are alike to the extreme rays are in the cone, and with a basis of the lineality they generate it
  rays_inside : All (InCone G L) xs
  rays_inside = All_among (InCone G L) xs
      (in_order_to (SameModulo n (InCone G L)) (InCone G L) (InCone G L) (alike_inside n (InCone G L) (in_cone_set G L)) V xs order
      (λ v i. (among_All (λ u. IsExtreme n (InCone G L) u) i o.each).inside))

  pub rays_generate : HasCols n G → HasCols n L → (K : List Row) → IsBasis n (InLineality (InCone G L)) K → (x : Row) → length x ≡ n → InCone G L x ↔ InCone xs K x
  rays_generate hg hl K b x lx =
      let gen = order_generates n G L hg hl V K b.cols o (basis_lineality n G L K b) x lx in
      let same = alike_generate n (InCone G L) K b.spans V xs order x in
      (λ h. same.0 (gen.0 h), λ h. gen.1 (same.1 h))

-- ---- the facet rows and those that vanish
-- p x = k v + w, with v and w not negative
alike_product : (p k x v w : ℤ) → pos 0 <ℤ p → pos 0 <ℤ k → p *ℤ x ≡ k *ℤ v +ℤ w → pos 0 ≤ℤ v → pos 0 ≤ℤ w → pos 0 ≤ℤ x
alike_product p k x v w hp hk e hv hw = let q = mul_nonneg (weaken hk) hv in nonneg_cancel hp (omega (arith, ints))

-- a row of n entries that is alike to a valid row is valid
pub alike_valid : (n : ℕ) (G L : List Row) (a x : Row) → length x ≡ n → SameModulo n (IsValid n G L) a x → IsValid n G L a → IsValid n G L x
alike_valid n G L a x lx s v = record {
  cols = lx;
  holds = λ y ly h.
      let e : s.p *ℤ dot x y ≡ s.k *ℤ dot a y +ℤ dot s.w y = simp (times-dot, plus-dot) at (product y) in
      alike_product s.p s.k (dot x y) (dot a y) (dot s.w y) s.p_positive s.k_positive e (v.holds y ly h) (s.line.inside.holds y ly h);
}
  where
    product : (y : Row) → dot (times s.p x) y ≡ dot (plus (times s.k a) s.w) y
    product y = dot_comm (times s.p x) y ∙ dot-same y (times s.p x) (plus (times s.k a) s.w) s.same.at ∙ dot_comm y (plus (times s.k a) s.w)

module _ (n : ℕ) (G L F xs : List Row) (cols : HasCols n xs) (o : IsOrder n (IsValid n G L) F) (order : InOrder (SameModulo n (IsValid n G L)) F xs) where
  -- rows that are alike to the facet rows are valid, and with a basis of the rows that vanish they cut out the cone
  facet_valid : (x : Row) → Among x xs → IsValid n G L x
  facet_valid x i =
      in_order_to (SameModulo n (IsValid n G L)) (IsValid n G L) (λ y. length y ≡ n → IsValid n G L y) (λ v y s h ly. alike_valid n G L v y ly s h) F xs order
      (λ v j. (among_All (λ u. IsExtreme n (IsValid n G L) u) j o.each).inside) x i (all_at (λ (y : Row). length y ≡ n) i cols)

  facets_valid : All (IsValid n G L) xs
  facets_valid = All_among (IsValid n G L) xs facet_valid

  module _ (hg : HasCols n G) (hl : HasCols n L) (E : List Row) (basis : IsBasis n (Vanishes n G L) E) where
    pub valid_from_facets : (a : Row) → IsValid n G L a → InCone xs E a
    valid_from_facets a v =
        (alike_generate n (IsValid n G L) E (λ w l s. basis.spans w l ((vanishes_line n G L hg hl w l).1 s)) F xs order a).0
        ((valid_generated n G L hg hl F E basis.cols o (hull_rows n G L hg hl E basis) a v.cols).0 v)

    pub facet_rows_cut_out : (x : Row) → length x ≡ n → InCone G L x ↔ Solves xs E x
    facet_rows_cut_out x lx = (
      λ h. record { inequalities = cut_from xs x (λ a i. (facet_valid a i).holds x lx h); equations = All_among (λ e. dot e x ≡ pos 0) E (λ e i. (among_All (λ a. Vanishes n G L a) i basis.inside).holds x lx h) },
      λ s. bipolar n G L hg hl x lx (λ a v. rw dot_comm (dot_in x xs E (λ b i. rw dot_comm (cut_at x i s.inequalities)) (λ e i. dot_comm x e ∙ among_All (λ e. dot e x ≡ pos 0) i s.equations) (valid_from_facets a v))),
    )

-- ---- what cuts out the cone of a polytope
no_first : (z : ℤ) → z ≡ pos 0 → ¬ (pos 0 <ℤ z)
no_first z e up = omega (arith, ints)

-- the first entry is never negative on the cone, and some row of it has a positive one unless it is {0}
cuts_out_polytope : (n : ℕ) (G L A E : List Row) → IsPolytopeThing n G L → ((x : Row) → length x ≡ n → InCone G L x ↔ Solves A E x) → CutsOutPolytope n (InCone G L) A E
cuts_out_polytope n G L A E h cuts = elim h.proper [
  | inl none ↦ empty (λ x lx s. no_first (entry x 0) (none x lx ((cuts x lx).1 s) 0)) (λ y ly. (λ s. none y ly s, λ z. in_zero z))
  | inr some ↦ proper some.0 some.1 ((cuts some.0 some.1).0 some.2) some.3 (λ y ly. (λ s. ((cuts y ly).0 s, h.first y ly s), λ w. (cuts y ly).1 w.0))
]

cuts_out_of : (of : ObjectType) (n : ℕ) (G L : List Row) (Gs : List (List Row)) → IsOfType of n G L Gs → ¬ (of ≡ Fan) → (A E : List Row) → ((x : Row) → length x ≡ n → InCone G L x ↔ Solves A E x) → CutsOutOf of n (InCone G L) A E
cuts_out_of Polytope n G L Gs h no_fan A E cuts = cuts_out_polytope n G L A E h.0 cuts
cuts_out_of Cone n G L Gs h no_fan A E cuts = cuts
cuts_out_of Fan n G L Gs h no_fan A E cuts = absurd (no_fan refl)

-- ---- what is not a fan is treated as a cone
pub orders_of : (of : ObjectType) (n : ℕ) (G L : List Row) (Gs : List (List Row)) (o : Orders) → ¬ (of ≡ Fan) → AreOrdersOf of n G L Gs o → AreConeOrders n G L o
orders_of Polytope n G L Gs o no_fan h = h
orders_of Cone n G L Gs o no_fan h = h
orders_of Fan n G L Gs o no_fan h = absurd (no_fan refl)

pub rays_of : (of : ObjectType) (n : ℕ) (G L V xs : List Row) → ¬ (of ≡ Fan) → InOrder (SameRayOf of n G L) V xs → InOrder (SameModulo n (InCone G L)) V xs
rays_of Polytope n G L V xs no_fan h = h
rays_of Cone n G L V xs no_fan h = h
rays_of Fan n G L V xs no_fan h = absurd (no_fan refl)

pub lines_of : (of : ObjectType) (n : ℕ) (G L K : List Row) → ¬ (of ≡ Fan) → IsBasis n (InLinesOf of G L) K → IsBasis n (InLineality (InCone G L)) K
lines_of Polytope n G L K no_fan h = h
lines_of Cone n G L K no_fan h = h
lines_of Fan n G L K no_fan h = absurd (no_fan refl)

pub vertices_generate : VerticesGenerate
vertices_generate t o thing orders no_fan n m rays lines c d rv rl =
    let (hg, hl) = thing_cols t thing in
    let a = orders_of t.of t.cols t.generators t.lines t.cones o no_fan orders in
    let order = rays_of t.of t.cols t.generators t.lines o.rays rv.xs no_fan rv.order in (
      record { xs = rv.xs; stand = rv.stand; cols = rv.cols; each = rays_inside t.cols t.generators t.lines o.rays rv.xs a.rays order },
      record { xs = rl.xs; stand = rl.stand; cols = rl.basis.cols; each = rl.basis.inside },
      record {
        xs = rv.xs;
        ls = rl.xs;
        points_stand = rv.stand;
        lines_stand = rl.stand;
        generates = record { same = rays_generate t.cols t.generators t.lines o.rays rv.xs a.rays order hg hl rl.xs (lines_of t.of t.cols t.generators t.lines rl.xs no_fan rl.basis) };
      },
    )

pub facets_cut_out : FacetsCutOut
facets_cut_out t o thing orders no_fan n m facets hull c d rf rh =
    let (hg, hl) = thing_cols t thing in
    let a = orders_of t.of t.cols t.generators t.lines t.cones o no_fan orders in (
      record { xs = rf.xs; stand = rf.stand; cols = rf.cols; each = facets_valid t.cols t.generators t.lines o.facets rf.xs rf.cols a.facets rf.order },
      record { xs = rh.xs; stand = rh.stand; cols = rh.basis.cols; each = rh.basis.inside },
      record {
        as' = rf.xs;
        es = rh.xs;
        inequalities_stand = rf.stand;
        equations_stand = rh.stand;
        cuts_out = cuts_out_of t.of t.cols t.generators t.lines t.cones thing.kind no_fan rf.xs rh.xs (facet_rows_cut_out t.cols t.generators t.lines o.facets rf.xs rf.cols a.facets rf.order hg hl rh.xs rh.basis);
      },
    )
