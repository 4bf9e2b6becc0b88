-- The rows of a face fan describe the face fan.
use Rattle.pm_vector.proofs.ConeLaws.{in_zero}
use Rattle.pm_vector.proofs.Lists.{All_among, Among, Contains_among, all_from, among_All, among_Any, among_Contains, here, there}
use Rattle.pm_vector.proofs.RowLaws.{dot_comm, length-zeros, zeros}
use Rattle.pm_vector.specs.Cones.{InCone, InSpan}
use Rattle.pm_vector.specs.Rows.{HasCols, IsZero, Row, dot, entry}
use Rattle.pm_fan.specs.Conditions.{face_reads}
use Rattle.pm_fan.specs.Fans.{cut, fan_cols, fan_with, is_point, only_apex}
use Rattle.pm_laws_things.proofs.Described.{pointed_described}
use Rattle.pm_laws_things.proofs.FanRows.{sets_right}
use Rattle.pm_laws_things.proofs.Members.{cut_stand, order_length, rests_order, stand_length, rests_alike}
use Rattle.pm_laws_things.proofs.NormalRows.{fan_thing_of, polytope_of, refused}
use Rattle.pm_laws_things.proofs.ReadRights.{RightRows, read_rows, read_value, right_vertices, true_value}
use Rattle.pm_laws_things.proofs.ReadSets.{RightSets, read_sets}
use Rattle.pm_laws_things.specs.FanLaws.{DescribesFan, FaceFanIsDescribed, cone_of, fan_of}
use Rattle.pm_geom.proofs.Polar.{cols_at}
use Rattle.pm_geom.proofs.Reduce.{same_modulo_as}
use Rattle.pm_geom.specs.Cones.{SameModulo}
use Rattle.pm_geom.specs.Faces.{ray}
use Rattle.pm_geom.specs.Things.{AreConeOrders, IsPolytopeThing}
use Rattle.pm_laws_normal_fans.proofs.FaceGeometry.{off_facets, on_facet, one_facet}
use Rattle.pm_laws_normal_fans.proofs.FacetFans.{corner, face_fan_of_vertices, generated}
use Rattle.pm_laws_normal_fans.proofs.Lifts.{among_rests, entry-rest, length-rest}
use Rattle.pm_laws_normal_fans.proofs.NormalFans.{some_vertex}
use Rattle.pm_laws_normal_fans.proofs.OneFan.{face_fans_same}
use Rattle.pm_laws_normal_fans.proofs.Places.{map_length, no_pairs, place_at}
use Rattle.pm_laws_normal_fans.proofs.SameFans.{HasOrders, has_orders}
use Rattle.pm_laws_normal_fans.proofs.SumLaws.{entry-zeros, line_zero}
use Rattle.pm_laws_normal_fans.specs.FaceFans.{AreOrdersOf, IsCenteredPolytope, IsFaceFan}
use Rattle.pm_laws_normal_fans.specs.Fans.{IsFan, IsSameFan}
use Rattle.pm_laws_normal_fans.specs.Shadows.{AreUsed, IsShadowFan, held, rest, rests, shadow_fan}
use Rattle.pm_laws_normal_fans.specs.Sums.{Cone, In}
use Rattle.pm_object.specs.Known.{is_true, rows_at, sets_at}
use Rattle.pm_types.specs.Parts.{value_of_sets, value_over}
use Rattle.pm_object.specs.State.{State, read_at, value_of}
use Rattle.pm_object.specs.declared.held.Condition.TheVariants as condition
use Rattle.pm_files.specs.Files.{SavedFile}
use Rattle.pm_props.specs.declared.property.PropId.TheVariants.{Bounded, Centered, ConeAmbientDim, MaximalCones, Vertices, VerticesInFacets}
use Rattle.pm_types.specs.Right.{AreConeRays, InLinesOf, InOrder, IsBasis, IsCentered, IsIncidence, RowsAreBasis, RowsAreInOrder, SameRayOf}
use Rattle.pm_types.specs.Things.{AreOrdersOf as AreOrdersOfType, Thing}
use Rattle.pm_types.specs.Values.{truth, whole}
use Rattle.std.proofs.Common.{Bool, ap, arith, false, refl, subst, sym, true, true≢false, ◌∙◌}
use Rattle.std.proofs.lemmas.Bool.{eq-eqb, eqb-true}
use Rattle.std.proofs.lemmas.List.Elements.{All-nil}
use Rattle.std.specs.List.{Any, Contains, range_with_len, slice_index_or}
use Rattle.std.specs.Prelude.{List, None, Some, [], if◌then◌else◌, length, not, suc, zero, ℕ, ◌<◌, ◌↔◌, ◌∷◌, ◌≡◌}
use lib.IntN.{pos}
use lib.Signed.{lt_z_yes, ◌<ℤ◌}

face_conditions : (p b f c m r : Bool) → (if not p then Some condition.OfType else if not b then Some condition.Bounded else if not f then Some condition.Centered else if not c then Some condition.Columns else if not m then Some condition.Rows else if r then None else Some condition.Rows) ≡ None → (b ≡ true) × (f ≡ true)
face_conditions false b f c m r h = absurd (refused h)
face_conditions true false f c m r h = absurd (refused h)
face_conditions true true false c m r h = absurd (refused h)
face_conditions true true true c m r h = (refl, refl)

some_among : {x : Row} {xs : List Row} → Among x xs → 0 < length xs
some_among here = omega arith
some_among (there i) = omega arith

-- ---- incidence by places
incidence_length : (F V : List Row) (sets : List (List ℕ)) → IsIncidence F V sets → length sets ≡ length F
incidence_length [] V [] h = refl
incidence_length [] V (s ∷ sets) h = absurd h
incidence_length (f ∷ F) V [] h = absurd h
incidence_length (f ∷ F) V (s ∷ sets) h = ap suc (incidence_length F V sets h.1)

incidence_at : (F V : List Row) (sets : List (List ℕ)) → IsIncidence F V sets → (k : ℕ) → k < length F → (j : ℕ) → Contains (slice_index_or sets k []) j ↔ ((j < length V) × (dot (ray V j) (ray F k) ≡ pos 0))
incidence_at [] V sets h k l j = absurd (omega arith)
incidence_at (f ∷ F) V [] h k l j = absurd h
incidence_at (f ∷ F) V (s ∷ sets) h zero l j = (λ c. let p = (h.0 j).0 c in (p.0, dot_comm (ray V j) f ∙ p.1), λ p. (h.0 j).1 (p.0, dot_comm f (ray V j) ∙ p.1))
incidence_at (f ∷ F) V (s ∷ sets) h (suc k) l j = incidence_at F V sets h.1 k (omega arith) j

-- ---- a face fan whose rays are the rows U
module _ (m : ℕ) (P : Cone) (V F U : List Row) (around : IsCenteredPolytope (suc m) P) (orders : AreOrdersOf (suc m) P V F) (used : AreUsed (suc m) V [] F U) (some : 0 < length F) where
  both : IsFaceFan m P (shadow_fan V [] F) × IsShadowFan m V [] F U
  both = face_fan_of_vertices m P V F U around orders used

  module _ (u : Thing) (ucols : u.cols ≡ m) (fu : IsFan m (fan_of u)) (nu : IsFaceFan m P (fan_of u)) where
    same : IsSameFan m (shadow_fan V [] F) (fan_of u)
    same = face_fans_same m P (shadow_fan V [] F) (fan_of u) both.0 nu both.1.fan fu (let e = map_length (λ a. rests (held V a)) F in omega arith)

    pub moved : HasOrders m (shadow_fan V [] F) (fan_of u) (record { rays = rests U; facets = []; cones = range_with_len 0 (length F) })
    moved = has_orders m (shadow_fan V [] F) (fan_of u) both.1.fan fu same (record { rays = rests U; facets = []; cones = range_with_len 0 (length F) }) both.1.orders

    likeness : (v x : Row) → SameModulo (suc m) (In P) v x → SameModulo m (InSpan u.lines) (rest v) (rest x)
    likeness v x s =
        let z = line_zero (suc m) (In P) (corner m P V F around orders) s.w s.cols s.line in
        rests_alike m (In P) u.lines v x s (in_zero (λ i. let e = entry-rest s.w i in let o = z (suc i) in e ∙ o))

    pub rays_in_order : (X : List Row) → InOrder (SameModulo (suc m) (In P)) U X → InOrder (SameModulo m (InSpan u.lines)) moved.orders.rays (rests X)
    rays_in_order X o = subst (λ R. InOrder (SameModulo m (InSpan u.lines)) R (rests X)) (sym moved.rays) (rests_order (SameModulo (suc m) (In P)) (SameModulo m (InSpan u.lines)) likeness U X o)

    pub no_lines : IsBasis m (InSpan u.lines) []
    no_lines = record { cols = tt; inside = All-nil (InSpan u.lines); independent = λ c z i l. absurd (omega arith); spans = λ x lx h. (same.lines x lx).1 h }

    pub cones_right : (rows : List (List ℕ)) → length rows ≡ length F → ((k : ℕ) → k < length F → (j : ℕ) → Contains (slice_index_or rows k []) j ↔ ((j < length U) × (dot (ray U j) (ray F k) ≡ pos 0))) → AreConeRays u moved.orders.rays moved.orders.cones rows
    cones_right = sets_right m V [] F U both.1 u ucols moved

-- ---- which rows are used
module _ (m : ℕ) (P : Cone) (V F : List Row) (around : IsCenteredPolytope (suc m) P) (orders : AreOrdersOf (suc m) P V F) where
  all_used : ¬ (length V ≡ 1) → AreUsed (suc m) V [] F V
  all_used several = record {
    each = All_among (λ b. Contains V b × Any (λ a. dot b a ≡ pos 0) F) V (λ b i. (Contains_among i, on b i));
    all = All_among (λ b. Any (λ a. dot b a ≡ pos 0) F → Contains V b) V (λ b i z. Contains_among i);
    once = λ i j d l k s. orders.rays.once i j d l k (same_modulo_as (suc m) (InCone V []) (In P) (λ x lx h. (generated m P V F around orders x lx).1 h) (λ x lx h. (generated m P V F around orders x lx).0 h) s);
  }
    where
      by : (i : ℕ) → i < length V → Any (λ a. dot (ray V i) a ≡ pos 0) F
      by zero l = on_facet m P V F around orders 0 1 l (other (length V) l several) (λ e. absurd (omega arith))
        where
          other : (n : ℕ) → 0 < n → ¬ (n ≡ 1) → 1 < n
          other zero l d = absurd (omega arith)
          other (suc zero) l d = absurd (d refl)
          other (suc (suc n)) l d = omega arith
      by (suc i) l = on_facet m P V F around orders (suc i) 0 l (omega arith) (λ e. absurd (omega arith))

      on : (b : Row) → Among b V → Any (λ a. dot b a ≡ pos 0) F
      on b i = let (k, lk, e) = place_at [] V i in subst (λ z. Any (λ a. dot z a ≡ pos 0) F) e (by k lk)

  none_used : (v : Row) → V ≡ v ∷ [] → AreUsed (suc m) V [] F []
  none_used v one = record {
    each = All-nil (λ b. Contains V b × Any (λ a. dot b a ≡ pos 0) F);
    all = All_among (λ b. Any (λ a. dot b a ≡ pos 0) F → Contains [] b) V (λ b i z. let (a, ia, o) = among_Any (λ a. dot b a ≡ pos 0) F z in absurd (off b (subst (Among b) one i) a ia o));
    once = no_pairs (λ b c. ¬ (SameModulo (suc m) (InCone V []) b c));
  }
    where
      off : (b : Row) → Among b (v ∷ []) → (a : Row) → Among a F → dot b a ≡ pos 0 → ⊥
      off b here a ia o = off_facets m P V F around orders v one a ia (dot_comm a v ∙ o)
      off b (there i) a ia o = elim i [ ]

pub record IsReadFace (n : ℕ) (P : Cone) (V F xs : List Row) : Type 0 where
  pub around : IsCenteredPolytope n P
  pub some : (x : Row) × (length x ≡ n) × In P x × (pos 0 <ℤ entry x 0)
  pub orders : AreOrdersOf n P V F
  pub alike : InOrder (SameModulo n (In P)) V xs
  pub cols : HasCols n xs

-- the values of a face fan, of a point or not
abbrev values : State → Bool → SavedFile
values a b = fan_with (
    (ConeAmbientDim, whole (pos (fan_cols a)))
    ∷ (Vertices, value_over (fan_cols a) (if b then [] else cut (rows_at Vertices a)))
    ∷ (MaximalCones, value_of_sets (if b then only_apex else sets_at VerticesInFacets a)) ∷ [])

pub face_described : FaceFanIsDescribed
face_described a t o u r fits thing h = by (is_point a) refl
  where
    m : ℕ
    m = u.cols

    P : Cone
    P = cone_of t

    V : List Row
    V = o.rays

    F : List Row
    F = o.facets

    polytope : IsPolytopeThing t.cols t.generators t.lines
    polytope = polytope_of t r.thing r.of

    vertices : RightRows Vertices a t o
    vertices = read_rows face_reads Vertices a t o (there (there (there here))) r (right_vertices t o)

    read : RightSets a t o
    read = read_sets face_reads a t o (there (there here)) r

    xs : List Row
    xs = vertices.right.xs

    passed : (is_true Bounded a ≡ true) × (is_true Centered a ≡ true)
    passed = face_conditions _ _ _ _ _ _ fits

    bounded : (x : Row) → length x ≡ t.cols → InCone t.generators t.lines x → entry x 0 ≡ pos 0 → IsZero x
    bounded = (read_value face_reads Bounded a t o here r (truth true) (true_value (value_of Bounded (read_at None a.held)) passed.0)).0 refl

    centered : IsCentered t
    centered = (read_value face_reads Centered a t o (there here) r (truth true) (true_value (value_of Centered (read_at None a.held)) passed.1)).0 refl

    origin_cols : length (pos 1 ∷ zeros m) ≡ t.cols
    origin_cols = ap suc (length-zeros m) ∙ sym h.cols

    cone_orders : AreConeOrders t.cols t.generators t.lines o
    cone_orders = subst (λ k. AreOrdersOfType k t.cols t.generators t.lines t.cones o) r.of r.orders

    at_t : IsReadFace t.cols P V F xs
    at_t = record {
      around = record { thing = polytope; bounded = record { only_zero = bounded }; positive = centered.positive };
      some = (pos 1 ∷ zeros m, origin_cols, centered.inside (pos 1 ∷ zeros m) origin_cols refl (λ i. entry-zeros m i), lt_z_yes tt);
      orders = record { rays = cone_orders.rays; facets = cone_orders.facets };
      alike = subst (λ k. InOrder (SameRayOf k t.cols t.generators t.lines) o.rays xs) r.of vertices.right.order;
      cols = vertices.right.cols;
    }

    at_m : IsReadFace (suc m) P V F xs
    at_m = subst (λ n. IsReadFace n P V F xs) h.cols at_t

    fu : IsFan m (fan_of u)
    fu = fan_thing_of u thing h.of

    vertex_count : length V ≡ length (rows_at Vertices a)
    vertex_count = order_length (SameModulo (suc m) (In P)) V xs at_m.alike ∙ stand_length (rows_at Vertices a) xs vertices.right.stand

    some_ray : 0 < length V
    some_ray =
        let (v, vv) = some_vertex (suc m) P (record { thing = at_m.around.thing; bounded = at_m.around.bounded; some = at_m.some }) in
        let (w, iw, s) = among_Any (λ w. SameModulo (suc m) (In P) v w) o.rays (at_m.orders.rays.all v vv.extreme) in
        some_among iw

    dim : pos (fan_cols a) ≡ pos u.cols
    dim = ap pos (let e = r.cols in let c = h.cols in omega arith)

    by : (b : Bool) → is_point a ≡ b → DescribesFan (values a b) u
    by true e = alone V refl
      where
        count : length V ≡ 1
        count = vertex_count ∙ eqb-true (length (rows_at Vertices a)) 1 e

        alone : (W : List Row) → V ≡ W → DescribesFan (values a true) u
        alone [] q = absurd (let l = ap length q in let c = count in omega arith)
        alone (v ∷ x ∷ W) q = absurd (let l = ap length q in let c = count in omega arith)
        alone (v ∷ []) q =
            let used = none_used m P V F at_m.around at_m.orders v q in
            let one = one_facet m P V F at_m.around at_m.orders v q in
            let some : 0 < length F = omega arith in
            let now = moved m P V F [] at_m.around at_m.orders used some u refl fu h.cones in (
              now.orders,
              pointed_described u now.orders thing
                  (subst (λ k. AreOrdersOfType k u.cols u.generators u.lines u.cones now.orders) (sym h.of) now.are)
                  _ _ _ _ _
                  dim
                  (subst (λ k. RowsAreInOrder u (SameRayOf k u.cols u.generators u.lines) now.orders.rays []) (sym h.of) (record { xs = []; stand = tt; cols = tt; order = rays_in_order m P V F [] at_m.around at_m.orders used some u refl fu h.cones [] tt }))
                  (ap length (sym now.rays), cones_right m P V F [] at_m.around at_m.orders used some u refl fu h.cones ([] ∷ []) (sym one) (λ k l j. empty k l one j))
                  (subst (λ k. RowsAreBasis u (InLinesOf k u.generators u.lines) []) (sym h.of) (record { xs = []; stand = tt; basis = no_lines m P V F [] at_m.around at_m.orders used some u refl fu h.cones })),
            )
          where
            empty : (k : ℕ) → k < length F → length F ≡ 1 → (j : ℕ) → Contains (slice_index_or ([] ∷ []) k []) j ↔ ((j < 0) × (dot (ray [] j) (ray F k) ≡ pos 0))
            empty zero l one j = (λ c. absurd (let i = among_Contains [] c in elim i [ ]), λ p. absurd (let l = p.0 in omega arith))
            empty (suc k) l one j = absurd (omega arith)
    by false e = (
      now.orders,
      pointed_described u now.orders thing
          (subst (λ k. AreOrdersOfType k u.cols u.generators u.lines u.cones now.orders) (sym h.of) now.are)
          _ _ _ _ _
          dim
          (subst (λ k. RowsAreInOrder u (SameRayOf k u.cols u.generators u.lines) now.orders.rays (cut (rows_at Vertices a))) (sym h.of) (record { xs = rests xs; stand = cut_stand (rows_at Vertices a) xs vertices.right.stand; cols = rest_cols; order = rays_in_order m P V F V at_m.around at_m.orders used some u refl fu h.cones xs at_m.alike }))
          (read.right.0 ∙ sym (map_length rest V) ∙ ap length (sym now.rays), cones_right m P V F V at_m.around at_m.orders used some u refl fu h.cones (sets_at VerticesInFacets a).rows (incidence_length F V (sets_at VerticesInFacets a).rows read.right.1) (incidence_at F V (sets_at VerticesInFacets a).rows read.right.1))
          (subst (λ k. RowsAreBasis u (InLinesOf k u.generators u.lines) []) (sym h.of) (record { xs = []; stand = tt; basis = no_lines m P V F V at_m.around at_m.orders used some u refl fu h.cones })),
    )
      where
        several : ¬ (length V ≡ 1)
        several q = true≢false (sym (eq-eqb (length (rows_at Vertices a)) 1 (sym vertex_count ∙ q)) ∙ e)

        used : AreUsed (suc m) V [] F V
        used = all_used m P V F at_m.around at_m.orders several

        some : 0 < length F
        some = first V refl
          where
            first : (W : List Row) → V ≡ W → 0 < length F
            first [] q = absurd (let l = ap length q in let s = some_ray in omega arith)
            first (v ∷ W) q = let iv : Among v V = subst (Among v) (sym q) here in let both : Contains V v × Any (λ a. dot v a ≡ pos 0) F = among_All (λ b. Contains V b × Any (λ a. dot b a ≡ pos 0) F) iv (all_used m P V F at_m.around at_m.orders several).each in let (a, ia, o) = among_Any (λ a. dot v a ≡ pos 0) F both.1 in some_among ia

        now : HasOrders m (shadow_fan V [] F) (fan_of u) (record { rays = rests V; facets = []; cones = range_with_len 0 (length F) })
        now = moved m P V F V at_m.around at_m.orders used some u refl fu h.cones

        rest_cols : HasCols m (rests xs)
        rest_cols = all_from (λ x. length x ≡ m) (rests xs) (λ g i. let (b, ib, q) = among_rests xs i in ap length q ∙ length-rest m b (cols_at ib at_m.cols))
