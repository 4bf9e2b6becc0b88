-- The rays of the kept intersections as orders, and inclusion by products.
use Rattle.pm_vector.proofs.ConeLaws.{dot_in, in_line, lines_opposite}
use Rattle.pm_vector.proofs.Filters.{among_map, map_among}
use Rattle.pm_vector.proofs.Lists.{All_among, Among, Any_among, Contains_among, all_at, all_from, among_All, among_Any, among_Contains}
use Rattle.pm_vector.proofs.PrimitiveLaws.{primitive_unique}
use Rattle.pm_vector.proofs.Ring.{ring}
use Rattle.pm_vector.proofs.RowLaws.{entry-plus, entry-times, length-opposite, row_equal}
use Rattle.pm_vector.specs.Cones.{InCone, InSpan}
use Rattle.pm_vector.specs.Divisors.{IsPrimitive}
use Rattle.pm_vector.specs.Rows.{HasCols, Row, dot, entry, opposite}
use Rattle.pm_vector.proofs.Columns.{zero_by_columns}
use Rattle.pm_vector.proofs.Spans.{same_span_refl}
use Rattle.pm_vector.proofs.Unique.{echelon_is_unique}
use Rattle.pm_vector.specs.Bases.{column}
use Rattle.pm_geom.proofs.Facets.{dot-opposite}
use Rattle.pm_geom.proofs.Polar.{cols_at, cut_at, cut_from}
use Rattle.pm_geom.proofs.Reduce.{extreme_as}
use Rattle.pm_geom.proofs.Spans.{order_cols}
use Rattle.pm_geom.proofs.ValidRows.{null_in}
use Rattle.pm_geom.specs.Cones.{IsExtreme, IsExtremeRay, SameModulo}
use Rattle.pm_geom.specs.Faces.{ray}
use Rattle.pm_geom.specs.Generators.{IsBefore, VanishAt}
use Rattle.pm_geom.specs.Things.{AreFanOrders}
use Rattle.pm_laws_normal_fans.proofs.Places.{among_at, among_range, from_zero, map_length, range_once}
use Rattle.pm_laws_normal_fans.proofs.Refinements.{generated, kept_meet, line_of_both, rays_generate, span_in}
use Rattle.pm_laws_normal_fans.specs.Fans.{Fan, InIntersection, InPlace, IsFan}
use Rattle.pm_laws_normal_fans.specs.Refinements.{AreAllIntersections, AreAllRays, AreKeptIntersections, InHalfSpaces, InclusionByProducts, Intersection, IsCutAt, IsIntersection, RefinedRaysAreOrders, fan_of}
use Rattle.std.proofs.Common.{arith, refl, subst, sym, ◌∙◌}
use Rattle.std.proofs.lemmas.Int.{ints}
use Rattle.std.specs.List.{All, AllPairs, Any, Contains, range_with_len, slice_index_or}
use Rattle.std.specs.Prelude.{List, [], length, ℕ, ◌<◌, ◌↔◌, ◌≡◌}
use lib.IntN.{pos, ℤ, ◌*ℤ◌, ◌+ℤ◌}

module _ (n : ℕ) (f g : Fan) (K : List Row) (ms kept : List Intersection) (R : List Row) (ff : IsFan n f) (fg : IsFan n g) (are : AreAllIntersections n f g K ms) (keep : AreKeptIntersections n f g ms kept) (rows : AreAllRays kept R) where
  record Stands (r : Row) : Type 0 where
    meet : Intersection
    listed : Among meet kept
    ray : Among r meet.rays

  stands : (r : Row) → Among r R → Stands r
  stands r i = let (a, ia, c) = among_Any (λ a. Contains a.rays r) kept (among_All (λ r. Any (λ a. Contains a.rays r) kept) i rows.each) in record { meet = a; listed = ia; ray = among_Contains a.rays c }

  is_meet : (a : Intersection) → Among a kept → IsIntersection n f g K a
  is_meet = kept_meet n f g K ms kept ff fg are keep

  generates : (a : Intersection) → Among a kept → (x : Row) → length x ≡ n → InCone a.rays K x ↔ InIntersection f g a.first a.second x
  generates = rays_generate n f g K ms kept ff fg are keep

  -- two rays in canonical form that are alike are equal
  zero_at : (p k u r w : ℤ) → p *ℤ u ≡ k *ℤ r +ℤ w → u ≡ pos 0 → r ≡ pos 0 → w ≡ pos 0
  zero_at p k u r w e z y = let q = simp (z, y, ring) at e in omega (arith, ints)

  one_ray : (a b : Intersection) → Among a kept → Among b kept → (r s : Row) → Among r a.rays → Among s b.rays → SameModulo n (InSpan K) r s → r ≡ s
  one_ray a b ia ib r s ir is t =
      let ga = (is_meet a ia).generators in
      let gb = (is_meet b ib).generators in
      let same = (echelon_is_unique n K K ga.pivots gb.pivots ga.basis.echelon gb.basis.echelon (same_span_refl K)).1 in
      let vr = among_All (VanishAt ga.pivots) ir ga.reduced in
      let vs = subst (λ P. VanishAt P s) (sym same) (among_All (VanishAt gb.pivots) is gb.reduced) in
      let lr = cols_at ir (order_cols n (InIntersection f g a.first a.second) a.rays ga.order) in
      let ls = cols_at is (order_cols n (InIntersection f g b.first b.second) b.rays gb.order) in
      let zero = zero_by_columns n K ga.pivots ga.basis.echelon.basis t.w t.line.inside (λ j l. let m = ga.basis.echelon.basis.as_many in zero_at t.p t.k (entry s (column ga.pivots j)) (entry r (column ga.pivots j)) (entry t.w (column ga.pivots j)) (simp (entry-times, entry-plus) at (t.same.at (column ga.pivots j))) (among_All (λ c. entry s c ≡ pos 0) (among_at 0 ga.pivots j (omega arith)) vs) (among_All (λ c. entry r c ≡ pos 0) (among_at 0 ga.pivots j (omega arith)) vr)) in
      let u = primitive_unique n t.p t.k s r ls lr t.p_positive t.k_positive (among_All IsPrimitive is gb.primitive) (among_All IsPrimitive ir ga.primitive) (λ i. let e = simp (entry-times, entry-plus) at (t.same.at i) in let z = zero i in omega (arith, ints)) in
      sym (row_equal s r (ls ∙ sym lr) u)

  extreme : (a : Intersection) → (ia : Among a kept) → (r : Row) → Among r a.rays → IsExtremeRay n a.rays K r
  extreme a ia r ir = extreme_as n (InIntersection f g a.first a.second) (InCone a.rays K) (λ x lx h. (generates a ia x lx).1 h) (λ x lx h. (generates a ia x lx).0 h) (among_All (λ v. IsExtreme n (InIntersection f g a.first a.second) v) ir (is_meet a ia).generators.order.each)

  found : (a : Intersection) → (ia : Among a kept) → (r : Row) → IsExtremeRay n a.rays K r → (v : Row) × Among v a.rays × SameModulo n (InSpan K) r v
  found a ia r e =
      let m = is_meet a ia in
      let (v, iv, s) = among_Any (λ v. SameModulo n (InIntersection f g a.first a.second) r v) a.rays (m.generators.order.all r (extreme_as n (InCone a.rays K) (InIntersection f g a.first a.second) (λ x lx h. (generates a ia x lx).0 h) (λ x lx h. (generates a ia x lx).1 h) e)) in
      let l = (m.generators.basis.lines s.w s.cols).0 s.line in
      (v, iv, record { p = s.p; k = s.k; w = s.w; cols = s.cols; p_positive = s.p_positive; k_positive = s.k_positive; line = record { inside = l; opposed = lines_opposite K s.w l }; same = s.same })

  in_rows : (a : Intersection) → Among a kept → (r : Row) → Among r a.rays → Among r R
  in_rows a ia r ir = among_Contains R (among_All (Contains R) ir (among_All (λ a. All (Contains R) a.rays) ia rows.all))

  not_before : (x : Row) → ¬ (IsBefore x x)
  not_before x b = let l = b.below in omega (arith, ints)

  once : AllPairs (λ v w. ¬ (SameModulo n (InSpan K) v w)) R
  once i j d l m s =
      let v = among_at d R i (omega arith) in
      let w = among_at d R j m in
      let sv = stands (slice_index_or R i d) v in
      let sw = stands (slice_index_or R j d) w in
      let e = one_ray sv.meet sw.meet sv.listed sw.listed (slice_index_or R i d) (slice_index_or R j d) sv.ray sw.ray s in
      not_before (slice_index_or R j d) (subst (λ z. IsBefore z (slice_index_or R j d)) e (rows.ascending i j d l m))

  rays : (a : Intersection) → Among a kept → (j : ℕ) → j < length R → IsExtremeRay n a.rays K (ray R j) ↔ Contains a.rays (ray R j)
  rays a ia j lj = (
    λ e. let (v, iv, s) = found a ia (ray R j) e in let w = stands (ray R j) (among_at [] R j lj) in let q = one_ray w.meet a w.listed ia (ray R j) v w.ray iv s in subst (Contains a.rays) (sym q) (Contains_among iv),
    λ c. extreme a ia (ray R j) (among_Contains a.rays c),
  )

  orders : AreFanOrders n (fan_of kept K).cones K (record { rays = R; facets = []; cones = range_with_len 0 (length kept) })
  orders = record {
    each = All_among (λ v. Any (λ G. IsExtremeRay n G K v) (fan_of kept K).cones) R (λ v i. let s = stands v i in Any_among (λ G. IsExtremeRay n G K v) (among_map (λ a. a.rays) s.listed) (extreme s.meet s.listed v s.ray));
    all = All_among (λ G. (r : Row) → IsExtremeRay n G K r → Any (λ v. SameModulo n (InSpan K) r v) R) (fan_of kept K).cones (λ G i r e.
        let (a, ia, q) = map_among (λ a. a.rays) kept i in
        let (v, iv, s) = found a ia r (subst (λ D. IsExtremeRay n D K r) q e) in
        Any_among (λ v. SameModulo n (InSpan K) r v) (in_rows a ia v iv) s);
    once = once;
    facets = refl;
    places = All_among (λ i. i < length (fan_of kept K).cones) (range_with_len 0 (length kept)) (λ k i. let r = (among_range 0 (length kept) i).1 in let e = map_length (λ (a : Intersection). a.rays) kept in omega arith);
    every = λ i l. let e = map_length (λ (a : Intersection). a.rays) kept in Contains_among (from_zero (length kept) i (omega arith));
    places_once = range_once 0 (length kept);
  }

pub refined_rays_are_orders : RefinedRaysAreOrders
refined_rays_are_orders n f g K ms kept R ff fg are keep rows = record {
  orders = orders n f g K ms kept R ff fg are keep rows;
  rays = All_among (λ a. (j : ℕ) → j < length R → IsExtremeRay n a.rays K (ray R j) ↔ Contains a.rays (ray R j)) kept (rays n f g K ms kept R ff fg are keep rows);
}

-- ---- inclusion
-- a cone's rows have the product 0 with the lineality of the fan
line_null : (n : ℕ) (f : Fan) (i : ℕ) (F E : List Row) → IsCutAt n f i F E → (x : Row) → length x ≡ n → InSpan f.lines x → (a : Row) → Among a F → dot a x ≡ pos 0
line_null n f i F E c x lx h a ia =
    let l = span_in f i x h in
    let p = cut_at x ia ((c x lx).0 l.inside).1 in
    let q = rw dot-opposite at (cut_at (opposite x) ia ((c (opposite x) (length-opposite x ∙ lx)).0 l.opposed).1) in
    omega (arith, ints)

null_line : (n : ℕ) (f : Fan) (i : ℕ) (F E : List Row) → IsCutAt n f i F E → (x : Row) → length x ≡ n → InSpan f.lines x → (e : Row) → Among e E → dot e x ≡ pos 0
null_line n f i F E c x lx h e ie = all_at (λ e. dot e x ≡ pos 0) ie ((c x lx).0 (span_in f i x h).inside).0

into : (n : ℕ) (f : Fan) (i : ℕ) (F E V K : List Row) → IsCutAt n f i F E → ((k : Row) → Among k K → (length k ≡ n) × InSpan f.lines k) → All (InHalfSpaces F E) V → (x : Row) → length x ≡ n → InCone V K x → InPlace f i x
into n f i F E V K c lines inside x lx h = (c x lx).1 (
  all_from (λ e. dot e x ≡ pos 0) E (λ e ie. null_in e V K (λ v iv. all_at (λ e. dot e v ≡ pos 0) ie (among_All (InHalfSpaces F E) iv inside).0) (λ k ik. let l = lines k ik in null_line n f i F E c k l.0 l.1 e ie) h),
  cut_from F x (λ a ia. dot_in a V K (λ v iv. cut_at v ia (among_All (InHalfSpaces F E) iv inside).1) (λ k ik. let l = lines k ik in line_null n f i F E c k l.0 l.1 a ia) h),
)

pub inclusion_by_products : InclusionByProducts
inclusion_by_products n f g K a b F E H J ff fg ma mb cf cg = (
  λ w. (
    All_among (InHalfSpaces F E) a.rays (λ v iv. (cf v (cols_at iv cols)).0 (w v (cols_at iv cols) (inside v iv)).0),
    All_among (InHalfSpaces H J) a.rays (λ v iv. (cg v (cols_at iv cols)).0 (w v (cols_at iv cols) (inside v iv)).1),
  ),
  λ m x lx h. let k = (generated n f g ff fg a.first a.second ma.first ma.second a.rays K ma.generators x lx).1 h in (
    into n f b.first F E a.rays K cf (λ l il. (cols_at il lines, (both l il).0)) m.0 x lx k,
    into n g b.second H J a.rays K cg (λ l il. (cols_at il lines, (both l il).1)) m.1 x lx k,
  ),
)
  where
    cols : HasCols n a.rays
    cols = order_cols n (InIntersection f g a.first a.second) a.rays ma.generators.order

    lines : HasCols n K
    lines = ma.generators.basis.echelon.basis.cols

    inside : (v : Row) → Among v a.rays → InIntersection f g a.first a.second v
    inside v iv = (among_All (λ v. IsExtreme n (InIntersection f g a.first a.second) v) iv ma.generators.order.each).inside

    both : (l : Row) → Among l K → InSpan f.lines l × InSpan g.lines l
    both l il = line_of_both n f g ff fg a.first a.second ma.first ma.second a.rays K ma.generators l (cols_at il lines) (in_line il)
