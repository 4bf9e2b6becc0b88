-- There are polars and pyramids of polytopes, and products of two.
use Rattle.pm_vector.proofs.ConeLaws.{dot_in, in_cone_set, in_generator, in_line, in_line_opposite, in_times}
use Rattle.pm_vector.proofs.Filters.{among_map, map_among}
use Rattle.pm_vector.proofs.Lists.{Among, all_at, all_from, among_append, among_append_left, among_append_right}
use Rattle.pm_vector.proofs.RowLaws.{dot-nil, dot-same, dot_comm, entry-plus, entry-times, length-opposite, length-times}
use Rattle.pm_vector.proofs.Signs.{mul_pos}
use Rattle.pm_vector.specs.Cones.{InCone}
use Rattle.pm_vector.specs.Rows.{HasCols, IsZero, Row, dot, entry, opposite, times}
use Rattle.pm_build.specs.Rows.{apex_row}
use Rattle.pm_geom.proofs.Facets.{opposite-dot}
use Rattle.pm_geom.proofs.Polar.{cut_at, cut_from, generated_is_cut}
use Rattle.pm_geom.specs.Cones.{CutOut}
use Rattle.pm_geom.specs.Things.{IsPolytopeThing}
use Rattle.pm_laws_things.proofs.Assembled.{polytope_thing}
use Rattle.pm_laws_things.proofs.Points.{closing}
use Rattle.pm_laws_things.proofs.ProductLaws.{both_whole, cols_of, from_product, to_product}
use Rattle.pm_laws_things.proofs.PyramidLaws.{IsAbove, above, apex_among, lines_above, points_above, pyramid_above}
use Rattle.pm_laws_things.proofs.SomeThings.{origin, origin_cols, origin_dot, some_cut, some_empty, some_polytope}
use Rattle.pm_laws_things.specs.Built.{InPolar, InProduct, InPyramid, IsProduct, IsPyramid}
use Rattle.pm_laws_things.specs.Existence.{PolarsExist, ProductsExist, PyramidsExist, SomeThing}
use Rattle.pm_types.specs.Right.{InSet, Solves}
use Rattle.pm_types.specs.Things.{Thing}
use Rattle.std.proofs.Common.{ap, arith, inl, inr, refl, subst, sym, ◌∙◌}
use Rattle.std.proofs.Math.Seq.{drop-append_seam, take-append_seam}
use Rattle.std.proofs.lemmas.Int.{ints}
use Rattle.std.proofs.lemmas.List.{length-append, length-drop, length-take-le}
use Rattle.std.proofs.lemmas.List.Elements.{All-nil}
use Rattle.std.specs.Prelude.{List, [], drop, length, map, suc, take, zero, ℕ, ◌+◌, ◌++◌, ◌-◌, ◌≤◌, ◌↔◌, ◌∷◌, ◌≡◌}
use lib.IntN.{*ℤ_comm, neg_ℤ, pos, ℤ, ◌*ℤ◌, ◌+ℤ◌}
use lib.Signed.{◌<ℤ◌, ◌≤ℤ◌}
use Rattle.pm_limits.specs.Limits.{most_columns}

-- ---- signs
not_below : (z : ℤ) → z ≡ pos 0 → pos 0 ≤ℤ z
not_below z e = omega (arith, ints)

not_positive : (z : ℤ) → z ≡ pos 0 → ¬ (pos 0 <ℤ z)
not_positive z e h = omega (arith, ints)

is_null : (z w : ℤ) → w ≡ neg_ℤ z → pos 0 ≤ℤ z → pos 0 ≤ℤ w → z ≡ pos 0
is_null z w e f g = omega (arith, ints)

-- ---- polars
-- the generators, and the lines with both signs
abbrev duals : List Row → List Row → List Row
duals G L = G ++ (L ++ map opposite L)

module _ (t : Thing) (polytope : IsPolytopeThing t.cols t.generators t.lines) where
  each_dual : (P : Row → Type 0) → ((g : Row) → Among g t.generators → P g) → ((l : Row) → Among l t.lines → P l) → ((l : Row) → Among l t.lines → P (opposite l)) → (a : Row) → Among a (duals t.generators t.lines) → P a
  each_dual P f g h a i = elim (among_append t.generators (t.lines ++ map opposite t.lines) i) [
    | inl j ↦ f a j
    | inr j ↦ elim (among_append t.lines (map opposite t.lines) j) [ inl k ↦ g a k | inr k ↦ let (l, m, is) = map_among opposite t.lines k in subst P (sym is) (h l m) ]
  ]

  dual_inside : (a : Row) → Among a (duals t.generators t.lines) → InSet t a
  dual_inside = each_dual (InSet t) (λ g i. in_generator i) (λ l i. in_line i) (λ l i. in_line_opposite i)

  dual_cols : (a : Row) → Among a (duals t.generators t.lines) → length a ≡ t.cols
  dual_cols = each_dual (λ a. length a ≡ t.cols) (λ g i. all_at (λ (y : Row). length y ≡ t.cols) i polytope.cone.generators) (λ l i. all_at (λ (y : Row). length y ≡ t.cols) i polytope.cone.lines)
      (λ l i. length-opposite l ∙ all_at (λ (y : Row). length y ≡ t.cols) i polytope.cone.lines)

  zero_dot : (y x : Row) → IsZero x → dot y x ≡ pos 0
  zero_dot y x z = dot-same y x [] z ∙ dot-nil y

  -- what is not negative at the points is not negative on the cone
  on_cone : (y : Row) → InPolar t y → (x : Row) → length x ≡ t.cols → InSet t x → pos 0 ≤ℤ dot y x
  on_cone y h x lx g = elim polytope.proper [
    | inl none ↦ not_below (dot y x) (zero_dot y x (none x lx g))
    | inr w ↦ closing t.cols (InSet t) y (in_cone_set t.generators t.lines) w.0 w.1 w.2 w.3 (λ z lz k up. h z lz up k) x lx g (polytope.first x lx g)
  ]

  polar_cut : (y : Row) → InPolar t y → CutOut (duals t.generators t.lines) y
  polar_cut y h = cut_from (duals t.generators t.lines) y (λ a i. subst (λ z. pos 0 ≤ℤ z) (dot_comm y a) (on_cone y h a (dual_cols a i) (dual_inside a i)))

  cut_polar : (y : Row) → CutOut (duals t.generators t.lines) y → InPolar t y
  cut_polar y s x lx up g = dot_in y t.generators t.lines
      (λ b i. subst (λ z. pos 0 ≤ℤ z) (dot_comm b y) (cut_at y (among_append_left _ i) s))
      (λ l i. dot_comm y l ∙ is_null (dot l y) (dot (opposite l) y) (opposite-dot l y)
      (cut_at y (among_append_right t.generators (among_append_left _ i)) s)
      (cut_at y (among_append_right t.generators (among_append_right t.lines (among_map opposite i))) s)) g

  origin_cut : CutOut (duals t.generators t.lines) (origin t.cols)
  origin_cut = cut_from (duals t.generators t.lines) (origin t.cols)
      (λ a i. subst (λ z. pos 0 ≤ℤ z) (sym (dot_comm a (origin t.cols) ∙ origin_dot t.cols a)) (polytope.first a (dual_cols a i) (dual_inside a i)))

pub polars_exist : PolarsExist
polars_exist t p =
    let polytope = polytope_thing t p.thing p.of in
    some_cut (InPolar t) t.cols p.thing.some_cols p.thing.few_cols (duals t.generators t.lines) (all_from (λ (y : Row). length y ≡ t.cols) (duals t.generators t.lines) (dual_cols t polytope))
    (λ y ly up. (polar_cut t polytope y, cut_polar t polytope y))
    (origin t.cols) (origin_cols t.cols p.thing.some_cols) (omega (arith, ints)) (origin_cut t polytope)

-- ---- pyramids
first_padded : (x : Row) → entry (x ++ pos 0 ∷ []) 0 ≡ entry x 0
first_padded [] = refl
first_padded (a ∷ x) = refl

first_of_apex : (n : ℕ) → entry (apex_row n) 0 ≡ pos 1
first_of_apex zero = refl
first_of_apex (suc n) = refl

sum_not_below : (z w x k a : ℤ) → z ≡ w +ℤ k *ℤ a → w ≡ x → a ≡ pos 1 → pos 0 ≤ℤ x → pos 0 ≤ℤ k → pos 0 ≤ℤ z
sum_not_below z w x k a e f one h g = let p = ap (λ y. k *ℤ y) one in omega (arith, ints)

pub pyramids_exist : PyramidsExist
pyramids_exist t p few =
    some_polytope (IsPyramid t) (suc t.cols) (points_above t.cols t.generators) (lines_above t.lines) (omega arith) (omega arith)
    (record {
      cone = record { generators = rows.points_cols; lines = rows.lines_cols };
      first = λ z lz h. first z ((cone z lz).1 h);
      proper = inr (apex_row t.cols, all_at (λ (y : Row). length y ≡ suc t.cols) (apex_among t.cols t.generators) rows.points_cols, in_generator (apex_among t.cols t.generators), positive (entry (apex_row t.cols) 0) (first_of_apex t.cols));
    })
    (record { of = refl; cols = refl; cone = λ z lz. ((cone z lz).1, (cone z lz).0) })
  where
    polytope : IsPolytopeThing t.cols t.generators t.lines
    polytope = polytope_thing t p.thing p.of

    rows : IsAbove t.cols t.generators t.lines t.generators t.lines
    rows = above t.cols t.generators t.lines t.generators t.lines p.thing.some_cols polytope.cone.generators polytope.cone.lines polytope.cone.generators polytope.cone.lines (λ x lx. (λ h. h, λ h. h))

    cone : (z : Row) → length z ≡ suc t.cols → InPyramid t z ↔ InCone (points_above t.cols t.generators) (lines_above t.lines) z
    cone = pyramid_above t p.thing.some_cols polytope.cone.generators polytope.cone.lines

    positive : (z : ℤ) → z ≡ pos 1 → pos 0 <ℤ z
    positive z e = omega (arith, ints)

    first : (z : Row) → InPyramid t z → pos 0 ≤ℤ entry z 0
    first z w = sum_not_below (entry z 0) (entry (w.x ++ pos 0 ∷ []) 0) (entry w.x 0) w.k (entry (apex_row t.cols) 0)
        (w.sum.at 0 ∙ entry-plus (w.x ++ pos 0 ∷ []) (times w.k (apex_row t.cols)) 0 ∙ ap (λ y. entry (w.x ++ pos 0 ∷ []) 0 +ℤ y) (entry-times w.k (apex_row t.cols) 0))
        (first_padded w.x) (first_of_apex t.cols) (polytope.first w.x w.cols w.inside) w.not_negative

-- ---- products
first_taken : (n : ℕ) (z : Row) → 1 ≤ n → entry (take n z) 0 ≡ entry z 0
first_taken zero z h = absurd (omega arith)
first_taken (suc n) [] h = refl
first_taken (suc n) (a ∷ z) h = refl

-- the pair of two points, times both first entries
abbrev paired : Row → Row → Row
paired x [] = x
paired x (c ∷ y) = times c x ++ times (entry x 0) y

module _ (t s : Thing) (p : IsPolytopeThing t.cols t.generators t.lines) (q : IsPolytopeThing s.cols s.generators s.lines) (some_t : 1 ≤ t.cols) (some_s : 1 ≤ s.cols) (few : t.cols + s.cols ≤ (most_columns + 1)) where
  no_left : ((x : Row) → length x ≡ t.cols → InSet t x → IsZero x) → SomeThing (IsProduct t s)
  no_left none = some_empty (InProduct t s) (t.cols + s.cols - 1) (omega arith) (omega arith)
      (λ z lz up w. not_positive (entry z 0) (sym (first_taken t.cols z some_t) ∙ none (take t.cols z) (length-take-le t.cols z (omega arith)) w.first 0) up)

  no_right : ((x : Row) → length x ≡ s.cols → InSet s x → IsZero x) → SomeThing (IsProduct t s)
  no_right none = some_empty (InProduct t s) (t.cols + s.cols - 1) (omega arith) (omega arith)
      (λ z lz up w. not_positive (entry z 0) (none (entry z 0 ∷ drop t.cols z) (let e = length-drop t.cols z in omega arith) w.second 0) up)

  module _ (A B : List Row) (ha : HasCols t.cols A) (hb : HasCols s.cols B) (first : (x : Row) → length x ≡ t.cols → InSet t x ↔ CutOut A x) (second : (x : Row) → length x ≡ s.cols → InSet s x ↔ CutOut B x) where
    solves : (X : List Row) (x : Row) → CutOut X x ↔ Solves X [] x
    solves X x = (λ h. record { inequalities = h; equations = All-nil (λ e. dot e x ≡ pos 0) }, λ h. h.inequalities)

    left : (x : Row) → length x ≡ t.cols → InSet t x ↔ Solves A [] x
    left x lx = (λ h. (solves A x).0 ((first x lx).0 h), λ h. (first x lx).1 ((solves A x).1 h))

    right : (x : Row) → length x ≡ s.cols → InSet s x ↔ Solves B [] x
    right x lx = (λ h. (solves B x).0 ((second x lx).0 h), λ h. (second x lx).1 ((solves B x).1 h))

    abbrev rows : List Row
    rows = both_whole (s.cols - 1) (t.cols - 1) A B

    rows_cols : HasCols (t.cols + s.cols - 1) rows
    rows_cols = cols_of t s t A [] B [] t.cols s.cols refl refl some_t some_s ha tt hb tt left right A B ha hb

    exact : (z : Row) → length z ≡ t.cols + s.cols - 1 → InProduct t s z ↔ CutOut rows z
    exact z lz = (
      λ w. (from_product t s t A [] B [] t.cols s.cols refl refl some_t some_s ha tt hb tt left right z lz w).inequalities,
      λ h. to_product t s t A [] B [] t.cols s.cols refl refl some_t some_s ha tt hb tt left right z lz ((solves rows z).0 h),
    )

    with_pair : (z : Row) → length z ≡ t.cols + s.cols - 1 → pos 0 <ℤ entry z 0 → InProduct t s z → SomeThing (IsProduct t s)
    with_pair z lz up w = some_cut (InProduct t s) (t.cols + s.cols - 1) (omega arith) (omega arith) rows rows_cols (λ y ly uy. exact y ly) z lz up ((exact z lz).0 w)

    pair : (x y : Row) → length x ≡ t.cols → length y ≡ s.cols → InSet t x → InSet s y → pos 0 <ℤ entry x 0 → pos 0 <ℤ entry y 0 → SomeThing (IsProduct t s)
    pair [] y lx ly ix iy ux uy = absurd (omega arith)
    pair (a ∷ x) [] lx ly ix iy ux uy = absurd (omega arith)
    pair (a ∷ x) (c ∷ y) lx ly ix iy ux uy = with_pair (paired (a ∷ x) (c ∷ y))
        (let e = length-append (times c (a ∷ x)) (times a y) in let f = length-times c (a ∷ x) in let g = length-times a y in omega arith)
        (mul_pos uy ux)
        (record {
          first = subst (InSet t) (sym taken) (in_times (above_zero c uy) ix);
          second = subst (InSet s) (sym (ap (λ r. (c *ℤ a) ∷ r) dropped ∙ ap (λ k. k ∷ times a y) (*ℤ_comm c a))) (in_times (above_zero a ux) iy);
        })
      where
        above_zero : (z : ℤ) → pos 0 <ℤ z → pos 0 ≤ℤ z
        above_zero z h = omega (arith, ints)

        taken : take t.cols (paired (a ∷ x) (c ∷ y)) ≡ times c (a ∷ x)
        taken = ap (λ k. take k (paired (a ∷ x) (c ∷ y))) (sym (length-times c (a ∷ x) ∙ lx)) ∙ take-append_seam (times c (a ∷ x)) (times a y)

        dropped : drop t.cols (paired (a ∷ x) (c ∷ y)) ≡ times a y
        dropped = ap (λ k. drop k (paired (a ∷ x) (c ∷ y))) (sym (length-times c (a ∷ x) ∙ lx)) ∙ drop-append_seam (times c (a ∷ x)) (times a y)

  product_exists : SomeThing (IsProduct t s)
  product_exists = elim p.proper [
    | inl none ↦ no_left none
    | inr x ↦ elim q.proper [
      | inl none ↦ no_right none
      | inr y ↦
          let (A, ha, first) = generated_is_cut t.cols t.generators t.lines p.cone.generators p.cone.lines in
          let (B, hb, second) = generated_is_cut s.cols s.generators s.lines q.cone.generators q.cone.lines in
          pair A B ha hb first second x.0 y.0 x.1 y.1 x.2 y.2 x.3 y.3
    ]
  ]

pub products_exist : ProductsExist
products_exist t s p q few = product_exists t s (polytope_thing t p.thing p.of) (polytope_thing s q.thing q.of) p.thing.some_cols q.thing.some_cols few
