-- The values of a common refinement describe it.
use Rattle.pm_vector.proofs.ConeLaws.{in_line}
use Rattle.pm_vector.proofs.Lists.{All_among, Among, all_at, all_from, among_All, among_Any, among_Contains, here, there}
use Rattle.pm_vector.specs.Cones.{InCone, InSpan, IsIndependent}
use Rattle.pm_vector.specs.Numbers.{Ratio}
use Rattle.pm_vector.specs.Rows.{HasCols, Row}
use Rattle.pm_vector.proofs.Columns.{basis_is_independent}
use Rattle.pm_geom.proofs.Reduce.{extreme_as}
use Rattle.pm_geom.specs.Cones.{IsExtremeRay, SameModulo}
use Rattle.pm_geom.specs.Faces.{ray}
use Rattle.pm_geom.specs.Things.{AreFanOrders, IsFanThing, Orders}
use Rattle.pm_laws_things.specs.BuildingLaws.{settled_facts}
use Rattle.pm_laws_things.proofs.Described.{fan_described}
use Rattle.pm_laws_things.proofs.FanRows.{cone_rays_by}
use Rattle.pm_laws_things.proofs.ReadFans.{alike_self, is_fan, same_fan}
use Rattle.pm_laws_things.specs.FanLaws.{ReadRightFan, RefinementIsDescribed, fan_of as fan_of_thing}
use Rattle.pm_laws_normal_fans.proofs.Places.{among_at, map_at, range_at, range_length}
use Rattle.pm_laws_normal_fans.proofs.SameRefinements.{refinement_of_same}
use Rattle.pm_laws_normal_fans.proofs.SameFans.{HasOrders, has_orders}
use Rattle.pm_laws_normal_fans.specs.Fans.{Fan, InPlace, IsCommonRefinement, IsConeAt, IsFan, IsSameFan, cone_at}
use Rattle.pm_laws_normal_fans.specs.Refinements.{HasRefinedRays, Intersection, IsIntersection, fan_of}
use Rattle.pm_object.specs.Known.{cols_at, held_rows, held_sets, rows_at, sets_at}
use Rattle.pm_types.specs.Parts.{value_of_sets}
use Rattle.pm_object.specs.State.{State, is_held, read_at, value_of}
use Rattle.pm_object_type.specs.declared.object_type.ObjectType.TheVariants.{Fan as OfFan}
use Rattle.pm_props.specs.declared.property.PropId.{PropId}
use Rattle.pm_props.specs.declared.property.PropId.TheVariants.{LinealitySpace, MaximalCones, Vertices}
use Rattle.pm_refine.specs.ObjectFans.{IsFanOfObject, refine_reads}
use Rattle.pm_refine.specs.Refined.{AreRaySets, AreRefined}
use Rattle.pm_relations.proofs.PrimitiveStanding.{primitive_stand}
use Rattle.pm_relations.proofs.Standing.{stand_for_ratios}
use Rattle.pm_types.specs.Right.{AreConeRays, InLinesOf, InOrder, IsBasis, Right, RightAll, RowsAreBasis, RowsAreInOrder, SameRayOf, StandFor}
use Rattle.pm_types.specs.Things.{AreOrdersOf, IsOfType, IsThing, Thing}
use Rattle.pm_types.specs.Values.{IndexSets, PropertyValue, matrix, sets}
use Rattle.pm_types.specs.Views.{ratios}
use Rattle.std.proofs.Common.{ap, arith, refl, subst, sym, true, true≢false, ◌∙◌}
use Rattle.std.specs.List.{Any, Contains, range_with_len, slice_index_or}
use Rattle.std.specs.Option.{is_some}
use Rattle.std.specs.Prelude.{IsTrue, List, None, Option, Some, [], length, map, ℕ, ◌<◌, ◌↔◌, ◌∷◌, ◌≡◌}
use lib.IntN.{pos}

-- ---- what is read of a fan
read_fan_value : (p : PropId) (a : State) (t : Thing) (o : Orders) → Among p refine_reads → ReadRightFan refine_reads a t o → (v : PropertyValue) → value_of p (read_at None a.held) ≡ Some v → Right p v t o []
read_fan_value p a t o i r = among_All (λ q. (v : PropertyValue) → value_of q (read_at None a.held) ≡ Some v → Right q v t o []) i r.values

read_fan_held : (p : PropId) (a : State) (t : Thing) (o : Orders) → Among p refine_reads → ReadRightFan refine_reads a t o → is_some (value_of p (read_at None a.held)) ≡ true
read_fan_held p a t o i r = among_All (λ q. IsTrue (is_held q (read_at None a.held))) i r.known.held

-- a property's value is a matrix, with these rows
record IsReadMatrix (p : PropId) (a : State) (t : Thing) (o : Orders) : Type 0 where
  n : ℕ
  right : Right p (matrix n (rows_at p a)) t o []

read_vertices : (a : State) (t : Thing) (o : Orders) → ReadRightFan refine_reads a t o → IsReadMatrix Vertices a t o
read_vertices a t o r = by (value_of Vertices (read_at None a.held)) refl (read_fan_held Vertices a t o here r)
  where
    of_value : (v : PropertyValue) → value_of Vertices (read_at None a.held) ≡ Some v → Right Vertices v t o [] → IsReadMatrix Vertices a t o
    of_value (matrix n rows) e h = record { n = n; right = subst (λ z. Right Vertices (matrix n z) t o []) (sym (ap held_rows e)) h }
    of_value v e h = absurd h

    by : (x : Option PropertyValue) → value_of Vertices (read_at None a.held) ≡ x → is_some x ≡ true → IsReadMatrix Vertices a t o
    by None e h = absurd (true≢false (sym h))
    by (Some v) e h = of_value v e (read_fan_value Vertices a t o here r v e)

read_lines : (a : State) (t : Thing) (o : Orders) → ReadRightFan refine_reads a t o → IsReadMatrix LinealitySpace a t o
read_lines a t o r = by (value_of LinealitySpace (read_at None a.held)) refl (read_fan_held LinealitySpace a t o (there here) r)
  where
    of_value : (v : PropertyValue) → value_of LinealitySpace (read_at None a.held) ≡ Some v → Right LinealitySpace v t o [] → IsReadMatrix LinealitySpace a t o
    of_value (matrix n rows) e h = record { n = n; right = subst (λ z. Right LinealitySpace (matrix n z) t o []) (sym (ap held_rows e)) h }
    of_value v e h = absurd h

    by : (x : Option PropertyValue) → value_of LinealitySpace (read_at None a.held) ≡ x → is_some x ≡ true → IsReadMatrix LinealitySpace a t o
    by None e h = absurd (true≢false (sym h))
    by (Some v) e h = of_value v e (read_fan_value LinealitySpace a t o (there here) r v e)

record AreReadCones (a : State) (t : Thing) (o : Orders) : Type 0 where
  right : Right MaximalCones (value_of_sets (sets_at MaximalCones a)) t o []

read_cones : (a : State) (t : Thing) (o : Orders) → ReadRightFan refine_reads a t o → AreReadCones a t o
read_cones a t o r = by (value_of MaximalCones (read_at None a.held)) refl (read_fan_held MaximalCones a t o (there (there here)) r)
  where
    of_value : (v : PropertyValue) → value_of MaximalCones (read_at None a.held) ≡ Some v → Right MaximalCones v t o [] → AreReadCones a t o
    of_value (sets rows n) e h = record { right = subst (λ z. Right MaximalCones (value_of_sets z) t o []) (sym (ap held_sets e)) h }
    of_value v e h = absurd h

    by : (x : Option PropertyValue) → value_of MaximalCones (read_at None a.held) ≡ x → is_some x ≡ true → AreReadCones a t o
    by None e h = absurd (true≢false (sym h))
    by (Some v) e h = of_value v e (read_fan_value MaximalCones a t o (there (there here)) r v e)

fan_thing_at : (t : Thing) → IsThing t → t.of ≡ OfFan → IsFanThing t.cols t.cones t.lines
fan_thing_at t h e = (subst (λ k. IsOfType k t.cols t.generators t.lines t.cones) e h.kind).0

-- rows that stand for the same rows have as many entries
same_cols : (n : ℕ) (rows : List (List Ratio)) (xs ys : List Row) → StandFor rows xs → StandFor rows ys → HasCols n xs → HasCols n ys
same_cols n [] [] [] s t h = tt
same_cols n [] [] (y ∷ ys) s t h = absurd t
same_cols n [] (x ∷ xs) ys s t h = absurd s
same_cols n (r ∷ rows) [] ys s t h = absurd s
same_cols n (r ∷ rows) (x ∷ xs) [] s t h = absurd t
same_cols n (r ∷ rows) (x ∷ xs) (y ∷ ys) s t h = (t.0.cols ∙ sym s.0.cols ∙ h.0, same_cols n rows xs ys s.1 t.1 h.1)

-- the fan that is computed with is a fan, and has the cones of the thing
record IsSameAsRead (n : ℕ) (t : Thing) (f : Fan) : Type 0 where
  fan : IsFan n f
  same : IsSameFan n (fan_of_thing t) f

same_as_read : (a : State) (t : Thing) (o : Orders) (f : Fan) (n : ℕ) → t.cols ≡ n → ReadRightFan refine_reads a t o → IsFanOfObject a f → IsSameAsRead n t f
same_as_read a t o f n tn r w = subst (λ z. IsSameAsRead n t z) (sym w.is) (record {
  fan = is_fan t o n tn fan orders (rows_at Vertices a) (rows_at LinealitySpace a) order.xs lineality.xs w.rays w.lines cones.rows
      (subst (λ k. InOrder (SameModulo k (InSpan t.lines)) o.rays order.xs) tn order.order) order.stand rays_stand rays_cols (subst (λ k. IsBasis k (InSpan t.lines) lineality.xs) tn lineality.basis) lineality.stand lines_stand lines_cols right;
  same = same_fan t o n tn fan orders (rows_at Vertices a) (rows_at LinealitySpace a) order.xs lineality.xs w.rays w.lines cones.rows
      (subst (λ k. InOrder (SameModulo k (InSpan t.lines)) o.rays order.xs) tn order.order) order.stand rays_stand rays_cols (subst (λ k. IsBasis k (InSpan t.lines) lineality.xs) tn lineality.basis) lineality.stand lines_stand lines_cols right;
})
  where
    cones : IndexSets
    cones = sets_at MaximalCones a

    vertices : IsReadMatrix Vertices a t o
    vertices = read_vertices a t o r

    lines : IsReadMatrix LinealitySpace a t o
    lines = read_lines a t o r

    read : AreReadCones a t o
    read = read_cones a t o r

    fan : IsFanThing n t.cones t.lines
    fan = subst (λ k. IsFanThing k t.cones t.lines) tn (fan_thing_at t r.thing r.of)

    orders : AreFanOrders n t.cones t.lines o
    orders = subst (λ k. AreFanOrders k t.cones t.lines o) tn (subst (λ k. AreOrdersOf k t.cols t.generators t.lines t.cones o) r.of r.orders)

    order : RowsAreInOrder t (λ v x. SameModulo t.cols (InSpan t.lines) v x) o.rays (rows_at Vertices a)
    order = subst (λ k. RowsAreInOrder t (SameRayOf k t.cols t.generators t.lines) o.rays (rows_at Vertices a)) r.of vertices.right

    lineality : RowsAreBasis t (InSpan t.lines) (rows_at LinealitySpace a)
    lineality = subst (λ k. RowsAreBasis t (InLinesOf k t.generators t.lines) (rows_at LinealitySpace a)) r.of lines.right

    an : cols_at a ≡ n
    an = sym r.cols ∙ tn

    rays_stand : StandFor (rows_at Vertices a) w.rays
    rays_stand = primitive_stand (rows_at Vertices a) w.rays w.are_rays

    lines_stand : StandFor (rows_at LinealitySpace a) w.lines
    lines_stand = primitive_stand (rows_at LinealitySpace a) w.lines w.are_lines

    rays_cols : HasCols n w.rays
    rays_cols = same_cols n (rows_at Vertices a) order.xs w.rays order.stand rays_stand (subst (λ k. HasCols k order.xs) tn order.cols)

    lines_cols : HasCols n w.lines
    lines_cols = same_cols n (rows_at LinealitySpace a) lineality.xs w.lines lineality.stand lines_stand (subst (λ k. HasCols k lineality.xs) tn lineality.basis.cols)

    right : AreConeRays t o.rays o.cones cones.rows
    right = read.right.1

-- ---- a basis of the lineality of the refinement
lines_independent : (n : ℕ) (f g : Fan) (K : List Row) (kept : List Intersection) → AreRefined n f g K kept → IsIndependent K × HasCols n K
lines_independent n f g K kept r = by r.listed refl
  where
    by : (listed : List Intersection) → r.listed ≡ listed → IsIndependent K × HasCols n K
    by [] e = subst (λ z. IsIndependent z × HasCols n z) (sym (r.lines e)) ((λ c z i l. absurd (omega arith)), tt)
    by (m ∷ listed) e =
        let h = among_All (IsIntersection n f g K) (subst (λ z. Among m z) (sym e) here) r.all.each in
        (basis_is_independent n K h.generators.pivots h.generators.basis.echelon.basis, h.generators.basis.echelon.basis.cols)

same_rows : (n : ℕ) (S : Row → Type 0) (R : List Row) → ((x : Row) → SameModulo n S x x) → InOrder (SameModulo n S) R R
same_rows n S [] h = tt
same_rows n S (x ∷ R) h = (h x, same_rows n S R h)

-- ---- the refinement
module _ (n : ℕ) (f g : Fan) (K : List Row) (kept : List Intersection) (R : List Row) (rows : List (List ℕ)) (r : AreRefined n f g K kept) (h : HasRefinedRays n f g K kept R) (s : AreRaySets R kept rows) (u : Thing) (un : u.cols ≡ n) (fu : IsFan n (fan_of_thing u)) (same : IsSameFan n (fan_of kept K) (fan_of_thing u)) where
  abbrev pub own : Orders
  own = record { rays = R; facets = []; cones = range_with_len 0 (length kept) }

  pub now : HasOrders n (fan_of kept K) (fan_of_thing u) own
  now = has_orders n (fan_of kept K) (fan_of_thing u) r.refined.fan fu same own h.orders

  pub ray_cols : HasCols n R
  ray_cols = all_from (λ x. length x ≡ n) R (λ x i.
      let (G, j, e) = among_Any (λ G. IsExtremeRay n G K x) (fan_of kept K).cones (among_All (λ v. Any (λ G. IsExtremeRay n G K v) (fan_of kept K).cones) i h.orders.each) in
      e.cols)

  pub lines_are_basis : IsBasis n (InSpan u.lines) K
  lines_are_basis =
      let w = lines_independent n f g K kept r in
      record {
        cols = w.1;
        inside = All_among (InSpan u.lines) K (λ x i. (same.lines x (all_at (λ (y : Row). length y ≡ n) i w.1)).0 (in_line i));
        independent = w.0;
        spans = λ x lx z. (same.lines x lx).1 z;
      }

  -- the cone at place k of the refinement is that of u at its place
  at_k : (k : ℕ) → k < length kept → IsConeAt n (fan_of kept K) k (λ x. InCone (slice_index_or u.cones (slice_index_or now.orders.cones k 0) []) u.lines x)
  at_k k l =
      let e = range_length 0 (length kept) in
      let q : slice_index_or (range_with_len 0 (length kept)) k 0 ≡ k = range_at 0 (length kept) k l ∙ (omega arith) in
      subst (λ z. IsConeAt n (fan_of kept K) z (λ x. InCone (slice_index_or u.cones (slice_index_or now.orders.cones k 0) []) u.lines x)) q (now.cones k (omega arith)).1

  abbrev no_intersection : Intersection
  no_intersection = record { first = 0; second = 0; rays = [] }

  abbrev kept_at : ℕ → Intersection
  kept_at k = slice_index_or kept k no_intersection

  cone_is : (k : ℕ) → k < length kept → cone_at (fan_of kept K) k ≡ (kept_at k).rays
  cone_is k l = map_at (λ a. a.rays) no_intersection [] kept k l

  ray_at : (k j : ℕ) → k < length kept → j < length R → IsExtremeRay n (slice_index_or u.cones (slice_index_or now.orders.cones k 0) []) u.lines (ray R j) ↔ Contains (kept_at k).rays (ray R j)
  ray_at k j lk lj =
      let c = at_k k lk in
      let z = among_All (λ a. (j : ℕ) → j < length R → IsExtremeRay n a.rays K (ray R j) ↔ Contains a.rays (ray R j)) (among_at no_intersection kept k lk) h.rays j lj in
      let i = slice_index_or now.orders.cones k 0 in (
        λ e. z.0 (subst (λ G. IsExtremeRay n G K (ray R j)) (cone_is k lk) (extreme_as n (InCone (slice_index_or u.cones i []) u.lines) (InPlace (fan_of kept K) k) (λ x lx w. (c x lx).1 w) (λ x lx w. (c x lx).0 w) e)),
        λ w. extreme_as n (InPlace (fan_of kept K) k) (InCone (slice_index_or u.cones i []) u.lines) (λ x lx w. (c x lx).0 w) (λ x lx w. (c x lx).1 w) (subst (λ G. IsExtremeRay n G K (ray R j)) (sym (cone_is k lk)) (z.1 w)),
      )

  pub cones_right : AreConeRays u now.orders.rays now.orders.cones rows
  cones_right =
      let am = now.as_many in
      let q = range_length 0 (length kept) in
      let sm = s.as_many in
      subst (λ V. AreConeRays u V now.orders.cones rows) (sym now.rays) (cone_rays_by u R now.orders.cones rows (omega arith) (λ k l j.
      let lk : k < length kept = omega arith in
      let w = s.each k no_intersection lk in
      subst (λ m. Contains (slice_index_or rows k []) j ↔ ((j < length R) × IsExtremeRay m (slice_index_or u.cones (slice_index_or now.orders.cones k 0) []) u.lines (ray R j))) (sym un) (
        λ c. let lj = among_All (λ j. j < length R) (among_Contains (slice_index_or rows k []) c) w.ascending.0 in (lj, (ray_at k j lk lj).1 ((w.places j lj).0 c)),
        λ p. (w.places j p.0).1 ((ray_at k j lk p.0).0 p.1),
      )))

pub refinement_described : RefinementIsDescribed
refinement_described a b t o s p u file r q w thing h = (
  moved.orders,
  subst (λ z. RightAll (settled_facts z) u moved.orders) (sym w.file_is) (fan_described u moved.orders thing
      (subst (λ k. AreOrdersOf k u.cols u.generators u.lines u.cones moved.orders) (sym h.of) moved.are)
      _ _ _ _ _ _ _
      (ap pos (sym r.cols ∙ sym h.cols))
      (subst (λ k. RowsAreInOrder u (SameRayOf k u.cols u.generators u.lines) moved.orders.rays (map ratios w.rays)) (sym h.of) (record { xs = w.rays; stand = stand_for_ratios w.rays; cols = ray_cols n f g w.lines w.kept w.rays w.sets refined rays raysets u refl fu same; order = order }))
      (subst (λ k. RowsAreBasis u (InLinesOf k u.generators u.lines) (map ratios w.lines)) (sym h.of) (record { xs = w.lines; stand = stand_for_ratios w.lines; basis = lines_are_basis n f g w.lines w.kept w.rays w.sets refined rays raysets u refl fu same }))
      (sym (ap length moved.rays), cones_right n f g w.lines w.kept w.rays w.sets refined rays raysets u refl fu same)),
)
  where
    n : ℕ
    n = u.cols

    f : Fan
    f = w.is.first

    g : Fan
    g = w.is.second

    first : IsSameAsRead n t f
    first = same_as_read a t o f n (sym h.cols) r w.is.is_first

    second : IsSameAsRead n s g
    second = same_as_read b s p g n (h.second_cols ∙ sym h.cols) q w.is.is_second

    an : cols_at a ≡ n
    an = sym r.cols ∙ sym h.cols

    refined : AreRefined n f g w.lines w.kept
    refined = subst (λ k. IsFan k f → IsFan k g → AreRefined k f g w.lines w.kept) an w.is.refinement.refined first.fan second.fan

    rays : HasRefinedRays n f g w.lines w.kept w.rays
    rays = subst (λ k. IsFan k f → IsFan k g → HasRefinedRays k f g w.lines w.kept w.rays) an w.is.refinement.orders first.fan second.fan

    raysets : AreRaySets w.rays w.kept w.sets
    raysets = w.is.refinement.ray_sets

    fu : IsFan n (fan_of_thing u)
    fu = fan_thing_at u thing h.of

    common : IsCommonRefinement n f g (fan_of_thing u)
    common = refinement_of_same n (fan_of_thing t) (fan_of_thing s) f g (fan_of_thing u) first.same second.same (subst (λ k. IsCommonRefinement k (fan_of_thing t) (fan_of_thing s) (fan_of_thing u)) (sym h.cols) h.cones)

    same : IsSameFan n (fan_of w.kept w.lines) (fan_of_thing u)
    same = refined.refined.only (fan_of_thing u) fu common

    moved : HasOrders n (fan_of w.kept w.lines) (fan_of_thing u) (record { rays = w.rays; facets = []; cones = range_with_len 0 (length w.kept) })
    moved = now n f g w.lines w.kept w.rays w.sets refined rays raysets u refl fu same

    order : InOrder (SameModulo n (InSpan u.lines)) moved.orders.rays w.rays
    order = subst (λ R. InOrder (SameModulo n (InSpan u.lines)) R w.rays) (sym moved.rays) (same_rows n (InSpan u.lines) w.rays (λ x. alike_self n u.lines x))
