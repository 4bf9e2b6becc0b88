-- What the facet rows and the rows of the affine hulls of two polytopes describe in the columns of their product.
use Rattle.pm_vector.proofs.Filters.{among_map, map_among}
use Rattle.pm_vector.proofs.Lists.{Among, all_at, all_from, among_All, among_append, among_append_left, among_append_right, here, there}
use Rattle.pm_vector.specs.Rows.{HasCols, Row, dot, entry}
use Rattle.pm_laws_things.proofs.Assembled.{both_described, both_settled, polytope_cuts, polytope_thing}
use Rattle.pm_build.proofs.PaddedRows.{dot_padded, dot_spread, nothing, padded_stand, padded_whole, spread_stand, spread_whole, stand_append, stand_length}
use Rattle.pm_laws_things.proofs.Points.{cut_out_by_points, solution, solved_by_cut}
use Rattle.pm_laws_things.proofs.ReadRights.{RightRows, read_rows, right_facets, right_hull}
use Rattle.pm_laws_things.specs.Built.{InProduct}
use Rattle.pm_object.specs.Known.{cols_at, rows_at}
use Rattle.pm_types.specs.Parts.{cols_over}
use Rattle.pm_laws_things.specs.BuildingLaws.{ProductIsDescribed, ReadRight}
use Rattle.pm_build.specs.Conditions.{product_reads}
use Rattle.pm_build.specs.Objects.{both_rows, padded, product_cols, spread}
use Rattle.pm_geom.proofs.Polar.{cut_at}
use Rattle.pm_geom.specs.Things.{AreConeOrders, IsPolytopeThing, Orders}
use Rattle.pm_object.specs.State.{State}
use Rattle.pm_props.specs.declared.property.PropId.TheVariants.{AffineHull, Facets}
use Rattle.pm_relations.proofs.Twins.{facet_rows_cut_out}
use Rattle.pm_types.specs.Right.{CutsOutPolytope, InSet, Solves, StandFor}
use Rattle.pm_types.specs.Things.{AreOrdersOf, Thing}
use Rattle.std.proofs.Common.{ap, arith, inl, inr, subst, sym, ◌∙◌}
use Rattle.std.proofs.lemmas.Int.{ints}
use Rattle.std.proofs.lemmas.List.{length-append, length-drop, length-map, length-replicate, length-take-le}
use Rattle.std.specs.Prelude.{List, [], drop, length, map, suc, take, ℕ, ◌+◌, ◌++◌, ◌-◌, ◌<◌, ◌≤◌, ◌↔◌, ◌∷◌, ◌≡◌}
use lib.IntN.{negsuc, pos}
use lib.Signed.{◌<ℤ◌, ◌≤ℤ◌}

-- ---- a polytope by the rows that are read
pub record ByRows (t : Thing) (a : State) : Type 0 where
  pub facets : List Row
  pub hull : List Row
  pub facets_stand : StandFor (rows_at Facets a) facets
  pub hull_stand : StandFor (rows_at AffineHull a) hull
  pub facets_cols : HasCols t.cols facets
  pub hull_cols : HasCols t.cols hull
  pub exact : (x : Row) → length x ≡ t.cols → InSet t x ↔ Solves facets hull x

by_rows : (a : State) (t : Thing) (o : Orders) → ReadRight product_reads a t o → ByRows t a
by_rows a t o r = record {
  facets = facets.right.xs;
  hull = hull.right.xs;
  facets_stand = facets.right.stand;
  hull_stand = hull.right.stand;
  facets_cols = facets.right.cols;
  hull_cols = hull.right.basis.cols;
  exact = facet_rows_cut_out t.cols t.generators t.lines o.facets facets.right.xs facets.right.cols cone_orders.facets facets.right.order polytope.cone.generators polytope.cone.lines hull.right.xs hull.right.basis;
}
  where
    facets : RightRows Facets a t o
    facets = read_rows product_reads Facets a t o here r (right_facets t o)

    hull : RightRows AffineHull a t o
    hull = read_rows product_reads AffineHull a t o (there here) r (right_hull t o)

    polytope : IsPolytopeThing t.cols t.generators t.lines
    polytope = polytope_thing t r.thing r.of

    cone_orders : AreConeOrders t.cols t.generators t.lines o
    cone_orders = subst (λ k. AreOrdersOf k t.cols t.generators t.lines t.cones o) r.of r.orders

-- some row is read of a polytope, since not every row is in its cone
some_row : (a : State) (t : Thing) → IsPolytopeThing t.cols t.generators t.lines → 1 ≤ t.cols → (b : ByRows t a) → 0 < length b.facets + length b.hull
some_row a t p some b = by b.facets b.hull b.exact
  where
    by : (A E : List Row) → ((x : Row) → length x ≡ t.cols → InSet t x ↔ Solves A E x) → 0 < length A + length E
    by [] [] f =
        let x = negsuc 0 ∷ nothing (t.cols - 1) in
        let lx : length x ≡ t.cols = (let e = length-replicate (t.cols - 1) (pos 0) in omega arith) in
        absurd (let q = p.first x lx ((f x lx).1 (solution [] [] x (λ c i. elim i [ ]) (λ c i. elim i [ ]))) in omega (arith, ints))
    by (c ∷ A) E f = omega arith
    by [] (e ∷ E) f = omega arith

-- ---- rows of both
module _ (k l : ℕ) where
  abbrev pub both_whole : List Row → List Row → List Row
  both_whole A B = map (padded_whole k) A ++ map (spread_whole l) B

  each_both : (P : Row → Type 0) (A B : List Row) → ((a : Row) → Among a A → P (padded_whole k a)) → ((b : Row) → Among b B → P (spread_whole l b)) → (c : Row) → Among c (both_whole A B) → P c
  each_both P A B f g c i = elim (among_append (map (padded_whole k) A) (map (spread_whole l) B) i) [
    | inl j ↦ let (a, m, is) = map_among (padded_whole k) A j in subst P (sym is) (f a m)
    | inr j ↦ let (b, m, is) = map_among (spread_whole l) B j in subst P (sym is) (g b m)
  ]

  first_both : (A B : List Row) {a : Row} → Among a A → Among (padded_whole k a) (both_whole A B)
  first_both A B i = among_append_left _ (among_map (padded_whole k) i)

  second_both : (A B : List Row) {b : Row} → Among b B → Among (spread_whole l b) (both_whole A B)
  second_both A B i = among_append_right (map (padded_whole k) A) (among_map (spread_whole l) i)

spread_length : (l : ℕ) (b : Row) → 0 < length b → length (spread_whole l b) ≡ length b + l
spread_length l [] h = absurd (omega arith)
spread_length l (c ∷ b) h = let e = length-append (nothing l) b in let f = length-replicate l (pos 0) in omega arith

-- ---- the product
module _ (t s u : Thing) (A E B F : List Row) (n m : ℕ) (tn : t.cols ≡ n) (sm : s.cols ≡ m) (some_n : 1 ≤ n) (some_m : 1 ≤ m)
    (ha : HasCols t.cols A) (he : HasCols t.cols E) (hb : HasCols s.cols B) (hf : HasCols s.cols F)
    (first : (x : Row) → length x ≡ t.cols → InSet t x ↔ Solves A E x) (second : (x : Row) → length x ≡ s.cols → InSet s x ↔ Solves B F x) where
  pub cols_of : (X Y : List Row) → HasCols t.cols X → HasCols s.cols Y → HasCols (n + m - 1) (both_whole (m - 1) (n - 1) X Y)
  cols_of X Y hx hy = all_from (λ x. length x ≡ n + m - 1) (both_whole (m - 1) (n - 1) X Y)
      (each_both (m - 1) (n - 1) (λ x. length x ≡ n + m - 1) X Y
      (λ a i. let e = length-append a (nothing (m - 1)) in let f = length-replicate (m - 1) (pos 0) in let g = all_at (λ (y : Row). length y ≡ t.cols) i hx in omega arith)
      (λ b i. let g = all_at (λ (y : Row). length y ≡ s.cols) i hy in let e = spread_length (n - 1) b (omega arith) in omega arith))

  module _ (z : Row) (lz : length z ≡ n + m - 1) where
    abbrev left : Row
    left = take t.cols z

    abbrev right : Row
    right = entry z 0 ∷ drop t.cols z

    left_cols : length left ≡ t.cols
    left_cols = length-take-le t.cols z (omega arith)

    right_cols : length right ≡ s.cols
    right_cols = let e = length-drop t.cols z in omega arith

    sees_left : (a : Row) → length a ≡ t.cols → dot (padded_whole (m - 1) a) z ≡ dot a left
    sees_left a la = dot_padded (m - 1) a z ∙ ap (λ k. dot a (take k z)) la

    sees_right : (b : Row) → dot (spread_whole (n - 1) b) z ≡ dot b right
    sees_right b = let same : suc (n - 1) ≡ t.cols = omega arith in dot_spread (n - 1) b z ∙ ap (λ k. dot b (entry z 0 ∷ drop k z)) same

    to_solved : Solves A E left → Solves B F right → Solves (both_whole (m - 1) (n - 1) A B) (both_whole (m - 1) (n - 1) E F) z
    to_solved p q = solution (both_whole (m - 1) (n - 1) A B) (both_whole (m - 1) (n - 1) E F) z
        (each_both (m - 1) (n - 1) (λ a. pos 0 ≤ℤ dot a z) A B
        (λ a i. subst (λ w. pos 0 ≤ℤ w) (sym (sees_left a (all_at (λ (y : Row). length y ≡ t.cols) i ha))) (cut_at left i p.inequalities))
        (λ b i. subst (λ w. pos 0 ≤ℤ w) (sym (sees_right b)) (cut_at right i q.inequalities)))
        (each_both (m - 1) (n - 1) (λ a. dot a z ≡ pos 0) E F
        (λ a i. sees_left a (all_at (λ (y : Row). length y ≡ t.cols) i he) ∙ among_All (λ e. dot e left ≡ pos 0) i p.equations)
        (λ b i. sees_right b ∙ among_All (λ e. dot e right ≡ pos 0) i q.equations))

    from_solved : Solves (both_whole (m - 1) (n - 1) A B) (both_whole (m - 1) (n - 1) E F) z → Solves A E left × Solves B F right
    from_solved r = (
      solution A E left
          (λ a i. subst (λ w. pos 0 ≤ℤ w) (sees_left a (all_at (λ (y : Row). length y ≡ t.cols) i ha)) (cut_at z (first_both (m - 1) (n - 1) A B i) r.inequalities))
          (λ a i. sym (sees_left a (all_at (λ (y : Row). length y ≡ t.cols) i he)) ∙ among_All (λ e. dot e z ≡ pos 0) (first_both (m - 1) (n - 1) E F i) r.equations),
      solution B F right
          (λ b i. subst (λ w. pos 0 ≤ℤ w) (sees_right b) (cut_at z (second_both (m - 1) (n - 1) A B i) r.inequalities))
          (λ b i. sym (sees_right b) ∙ among_All (λ e. dot e z ≡ pos 0) (second_both (m - 1) (n - 1) E F i) r.equations),
    )

    pub to_product : Solves (both_whole (m - 1) (n - 1) A B) (both_whole (m - 1) (n - 1) E F) z → InProduct t s z
    to_product r = let w = from_solved r in record { first = (first left left_cols).1 w.0; second = (second right right_cols).1 w.1 }

    pub from_product : InProduct t s z → Solves (both_whole (m - 1) (n - 1) A B) (both_whole (m - 1) (n - 1) E F) z
    from_product w = to_solved ((first left left_cols).0 w.first) ((second right right_cols).0 w.second)

pub product_described : ProductIsDescribed
product_described a b t o s p u r q h v thing orders =
    both_described u v thing orders (cols_over (product_cols a b) (both_rows Facets a b)) (both_rows Facets a b) (cols_over (product_cols a b) (both_rows AffineHull a b)) (both_rows AffineHull a b) I J
    (stand_append (map (padded (cols_at b - 1)) (rows_at Facets a)) (map (spread (cols_at a - 1)) (rows_at Facets b)) _ _ (padded_stand (cols_at b - 1) (rows_at Facets a) x.facets x.facets_stand) (spread_stand (cols_at a - 1) (rows_at Facets b) y.facets y.facets_stand))
    (stand_append (map (padded (cols_at b - 1)) (rows_at AffineHull a)) (map (spread (cols_at a - 1)) (rows_at AffineHull b)) _ _ (padded_stand (cols_at b - 1) (rows_at AffineHull a) x.hull x.hull_stand) (spread_stand (cols_at a - 1) (rows_at AffineHull b) y.hull y.hull_stand))
    icols jcols
    (λ c i. record { cols = all_at (λ (y : Row). length y ≡ u.cols) i icols; holds = λ z lz g. cut_at z i (solved_by_cut I J u.cols (InSet u) cuts z lz g).inequalities })
    (λ c i. record { cols = all_at (λ (y : Row). length y ≡ u.cols) i jcols; holds = λ z lz g. among_All (λ e. dot e z ≡ pos 0) i (solved_by_cut I J u.cols (InSet u) cuts z lz g).equations })
    (polytope_cuts u h.of I J cuts)
    (both_settled (product_cols a b) (both_rows Facets a b) (both_rows AffineHull a b) (let e = some_n in let f = some_m in omega arith) some ∙ same_cols)
  where
    x : ByRows t a
    x = by_rows a t o r

    y : ByRows s b
    y = by_rows b s p q

    some_n : 1 ≤ cols_at a
    some_n = let e = r.cols in let l = r.thing.some_cols in omega arith

    some_m : 1 ≤ cols_at b
    some_m = let e = q.cols in let l = q.thing.some_cols in omega arith

    same_cols : product_cols a b ≡ u.cols
    same_cols = let e = r.cols in let f = q.cols in let g = h.cols in omega arith

    I : List Row
    I = both_whole (cols_at b - 1) (cols_at a - 1) x.facets y.facets

    J : List Row
    J = both_whole (cols_at b - 1) (cols_at a - 1) x.hull y.hull

    icols : HasCols u.cols I
    icols = subst (λ n. HasCols n I) same_cols (cols_of t s u x.facets x.hull y.facets y.hull (cols_at a) (cols_at b) r.cols q.cols some_n some_m x.facets_cols x.hull_cols y.facets_cols y.hull_cols x.exact y.exact x.facets y.facets x.facets_cols y.facets_cols)

    jcols : HasCols u.cols J
    jcols = subst (λ n. HasCols n J) same_cols (cols_of t s u x.facets x.hull y.facets y.hull (cols_at a) (cols_at b) r.cols q.cols some_n some_m x.facets_cols x.hull_cols y.facets_cols y.hull_cols x.exact y.exact x.hull y.hull x.hull_cols y.hull_cols)

    points : (z : Row) → length z ≡ u.cols → pos 0 <ℤ entry z 0 → InSet u z ↔ Solves I J z
    points z lz up =
        let lz' : length z ≡ product_cols a b = lz ∙ sym same_cols in (
          λ g. from_product t s u x.facets x.hull y.facets y.hull (cols_at a) (cols_at b) r.cols q.cols some_n some_m x.facets_cols x.hull_cols y.facets_cols y.hull_cols x.exact y.exact z lz' ((h.points z (lz ∙ h.cols) up).0 g),
          λ w. (h.points z (lz ∙ h.cols) up).1 (to_product t s u x.facets x.hull y.facets y.hull (cols_at a) (cols_at b) r.cols q.cols some_n some_m x.facets_cols x.hull_cols y.facets_cols y.hull_cols x.exact y.exact z lz' w),
        )

    cuts : CutsOutPolytope u.cols (InSet u) I J
    cuts = cut_out_by_points I J u.cols u.generators u.lines (polytope_thing u thing h.of).cone.generators (polytope_thing u thing h.of).cone.lines (polytope_thing u thing h.of) points

    some : 0 < length (both_rows Facets a b) + length (both_rows AffineHull a b)
    some =
        let e = some_row a t (polytope_thing t r.thing r.of) r.thing.some_cols x in
        let f = stand_length (rows_at Facets a) x.facets x.facets_stand in
        let g = stand_length (rows_at AffineHull a) x.hull x.hull_stand in
        let i = length-append (map (padded (cols_at b - 1)) (rows_at Facets a)) (map (spread (cols_at a - 1)) (rows_at Facets b)) in
        let j = length-append (map (padded (cols_at b - 1)) (rows_at AffineHull a)) (map (spread (cols_at a - 1)) (rows_at AffineHull b)) in
        let k = length-map (rows_at Facets a) (padded (cols_at b - 1)) in
        let l = length-map (rows_at AffineHull a) (padded (cols_at b - 1)) in
        omega arith
