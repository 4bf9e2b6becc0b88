-- The rows of a normal fan describe the normal fan.
use Rattle.pm_vector.proofs.Lists.{All_among, Contains_among, all_from, among_All, here, there}
use Rattle.pm_vector.proofs.RowLaws.{dot_comm}
use Rattle.pm_vector.specs.Cones.{InCone, InSpan}
use Rattle.pm_vector.specs.Rows.{HasCols, IsZero, Row, dot, entry}
use Rattle.pm_fan.specs.Conditions.{normal_reads}
use Rattle.pm_fan.specs.Fans.{cut, has_members, holders_from, normal_rays, with_members}
use Rattle.pm_laws_things.proofs.Described.{fan_described}
use Rattle.pm_laws_things.proofs.FanRows.{rests_independent, sets_right}
use Rattle.pm_laws_things.proofs.Members.{cut_stand, held_at_sets, holders_are, kept_among, kept_once, kept_order, kept_rows, kept_stand, order_length, rests_order, stand_length, used_all, used_each, rests_alike}
use Rattle.pm_laws_things.proofs.ReadRights.{RightRows, read_rows, read_value, right_facets, right_hull, right_vertices, true_value}
use Rattle.pm_laws_things.proofs.ReadSets.{RightSets, read_sets}
use Rattle.pm_laws_things.specs.FanLaws.{NormalFanIsDescribed, cone_of, fan_of}
use Rattle.pm_geom.proofs.Facets.{vanishes_line}
use Rattle.pm_geom.proofs.Lineality.{valid_generated}
use Rattle.pm_geom.proofs.Polar.{cols_at}
use Rattle.pm_geom.proofs.Reduce.{same_modulo_as}
use Rattle.pm_geom.proofs.ValidRows.{null_in}
use Rattle.pm_geom.specs.Cones.{IsValid, SameModulo, Vanishes}
use Rattle.pm_geom.specs.Faces.{ray}
use Rattle.pm_geom.specs.Things.{AreConeOrders, IsPolytopeThing}
use Rattle.pm_laws_normal_fans.proofs.FacetFans.{normal_fan_of_facets}
use Rattle.pm_laws_normal_fans.proofs.Lifts.{among_rests, in_rest, length-rest}
use Rattle.pm_laws_normal_fans.proofs.NormalFans.{some_vertex}
use Rattle.pm_laws_normal_fans.proofs.OneFan.{normal_fans_same}
use Rattle.pm_laws_normal_fans.proofs.Places.{map_at, map_length, range_at, range_length}
use Rattle.pm_laws_normal_fans.proofs.SameFans.{HasOrders, has_orders}
use Rattle.pm_laws_normal_fans.specs.FaceFans.{AreHull, AreOrdersOf}
use Rattle.pm_laws_normal_fans.specs.Fans.{IsFan, IsSameFan}
use Rattle.pm_laws_normal_fans.specs.NormalFans.{IsNormalFan}
use Rattle.pm_laws_normal_fans.specs.Shadows.{AreUsed, IsShadowFan, rest, rests, shadow_fan}
use Rattle.pm_laws_normal_fans.specs.Sums.{Cone, In, IsBoundedPolytope}
use Rattle.pm_object.specs.Known.{is_true, rows_at, sets_at}
use Rattle.pm_object.specs.State.{read_at, value_of}
use Rattle.pm_object.specs.declared.held.Condition.{Condition}
use Rattle.pm_object.specs.declared.held.Condition.TheVariants as condition
use Rattle.pm_object_type.specs.declared.object_type.ObjectType.TheVariants.{Fan, Polytope}
use Rattle.pm_props.specs.declared.property.PropId.TheVariants.{AffineHull, Bounded, Facets, Feasible, Vertices, VerticesInFacets}
use Rattle.pm_types.specs.Right.{AreConeRays, InLinesOf, InOrder, IsBasis, IsIncidence, RowsAreBasis, RowsAreInOrder, SameRayOf}
use Rattle.pm_types.specs.Things.{AreOrdersOf as AreOrdersOfType, IsOfType, IsThing, Thing}
use Rattle.pm_types.specs.Values.{truth}
use Rattle.std.proofs.Common.{Bool, ap, arith, false, inl, inr, refl, subst, sym, true, true≢false, ◌∙◌}
use Rattle.std.specs.List.{Any, Contains, range_with_len, slice_index_or}
use Rattle.std.specs.Option.{is_some}
use Rattle.std.specs.Prelude.{List, None, Some, [], filter, if◌then◌else◌, length, map, not, suc, ℕ, ◌<◌, ◌↔◌, ◌≡◌}
use lib.IntN.{pos}

pub refused : {c : Condition} → Some c ≡ None → ⊥
refused h = true≢false (ap is_some h)

normal_conditions : (p b f c m r : Bool) → (if not p then Some condition.OfType else if not b then Some condition.Bounded else if not f then Some condition.Feasible else if not c then Some condition.Columns else if not m then Some condition.Rows else if r then None else Some condition.Rows) ≡ None → (b ≡ true) × (f ≡ true)
normal_conditions false b f c m r h = absurd (refused h)
normal_conditions true false f c m r h = absurd (refused h)
normal_conditions true true false c m r h = absurd (refused h)
normal_conditions true true true c m r h = (refl, refl)

pub polytope_of : (t : Thing) → IsThing t → t.of ≡ Polytope → IsPolytopeThing t.cols t.generators t.lines
polytope_of t h e = (subst (λ k. IsOfType k t.cols t.generators t.lines t.cones) e h.kind).0

pub fan_thing_of : (u : Thing) → IsThing u → u.of ≡ Fan → IsFan u.cols (fan_of u)
fan_thing_of u h e = (subst (λ k. IsOfType k u.cols u.generators u.lines u.cones) e h.kind).0

pub hull_of : (n : ℕ) (P : Cone) (E : List Row) → HasCols n P.generators → HasCols n P.lines → IsBasis n (Vanishes n P.generators P.lines) E → AreHull n P E
hull_of n P E hg hl b = record {
  cols = b.cols;
  same = λ a la. (
    λ v. b.spans a la v,
    λ h. record { cols = la; holds = λ x lx k. dot_comm a x ∙ null_in x [] E (λ g i. elim i [ ]) (λ e i. dot_comm x e ∙ (among_All (Vanishes n P.generators P.lines) i b.inside).holds x lx k) h },
  );
}

-- ---- what is known of a polytope of m + 1 columns, and of its normal fan
module _ (m : ℕ) (P : Cone) (V F E xs : List Row) (sets : List (List ℕ)) (solid : IsBoundedPolytope (suc m) P) (orders : AreOrdersOf (suc m) P V F) (hull : AreHull (suc m) P E)
    (alike : InOrder (SameModulo (suc m) (IsValid (suc m) P.generators P.lines)) F xs) (cols : HasCols (suc m) xs) (incidence : IsIncidence F V sets) where
  abbrev pub used_rows : List Row
  used_rows = kept_rows sets F

  hg : HasCols (suc m) P.generators
  hg = solid.thing.cone.generators

  hl : HasCols (suc m) P.lines
  hl = solid.thing.cone.lines

  used : AreUsed (suc m) F E V used_rows
  used = record {
    each = All_among (λ b. Contains F b × Any (λ a. dot b a ≡ pos 0) V) used_rows (λ b i. (Contains_among (kept_among sets F i), used_each F V sets incidence b i));
    all = All_among (λ b. Any (λ a. dot b a ≡ pos 0) V → Contains used_rows b) F (λ b i z. Contains_among (used_all F V sets incidence b i z));
    once = kept_once (λ b c. ¬ (SameModulo (suc m) (InCone F E) b c)) sets F (λ i j d l k s. orders.facets.once i j d l k (same_modulo_as (suc m) (InCone F E) (IsValid (suc m) P.generators P.lines)
        (λ a la h. (valid_generated (suc m) P.generators P.lines hg hl F E hull.cols orders.facets hull.same a la).1 h)
        (λ a la h. (valid_generated (suc m) P.generators P.lines hg hl F E hull.cols orders.facets hull.same a la).0 h) s));
  }

  both : IsNormalFan (suc m) (In P) (shadow_fan F E V) × IsShadowFan m F E V used_rows
  both = normal_fan_of_facets m P V F E used_rows solid orders hull used

  module _ (u : Thing) (ucols : u.cols ≡ m) (fu : IsFan m (fan_of u)) (nu : IsNormalFan (suc m) (In P) (fan_of u)) where
    same : IsSameFan m (shadow_fan F E V) (fan_of u)
    same = let (v, vv) = some_vertex (suc m) P solid in normal_fans_same m (In P) (shadow_fan F E V) (fan_of u) both.0 nu both.1.fan fu v vv

    pub moved : HasOrders m (shadow_fan F E V) (fan_of u) (record { rays = rests used_rows; facets = []; cones = range_with_len 0 (length V) })
    moved = has_orders m (shadow_fan F E V) (fan_of u) both.1.fan fu same (record { rays = rests used_rows; facets = []; cones = range_with_len 0 (length V) }) both.1.orders

    line_below : (w : Row) → length w ≡ suc m → Vanishes (suc m) P.generators P.lines w → InSpan u.lines (rest w)
    line_below w lw v = (same.lines (rest w) (length-rest m w lw)).0 (in_rest [] E w ((hull.same w lw).0 v))

    -- ---- the rays
    likeness : (b x : Row) → SameModulo (suc m) (IsValid (suc m) P.generators P.lines) b x → SameModulo m (InSpan u.lines) (rest b) (rest x)
    likeness b x s = rests_alike m (IsValid (suc m) P.generators P.lines) u.lines b x s (line_below s.w s.cols ((vanishes_line (suc m) P.generators P.lines hg hl s.w s.cols).1 s.line))

    pub rays_in_order : InOrder (SameModulo m (InSpan u.lines)) moved.orders.rays (rests (kept_rows sets xs))
    rays_in_order = subst (λ R. InOrder (SameModulo m (InSpan u.lines)) R (rests (kept_rows sets xs))) (sym moved.rays) (rests_order (SameModulo (suc m) (IsValid (suc m) P.generators P.lines)) (SameModulo m (InSpan u.lines)) likeness used_rows (kept_rows sets xs) (kept_order (SameModulo (suc m) (IsValid (suc m) P.generators P.lines)) sets F xs alike))

    pub ray_cols : HasCols m (rests (kept_rows sets xs))
    ray_cols = all_from (λ x. length x ≡ m) (rests (kept_rows sets xs)) (λ g i. let (b, ib, e) = among_rests (kept_rows sets xs) i in ap length e ∙ length-rest m b (cols_at (kept_among sets xs ib) cols))

    -- ---- the lines
    pub lines_are_basis : IsBasis (suc m) (Vanishes (suc m) P.generators P.lines) E → IsBasis m (InSpan u.lines) (rests E)
    lines_are_basis b = record {
      cols = all_from (λ x. length x ≡ m) (rests E) (λ g i. let (e, ie, q) = among_rests E i in ap length q ∙ length-rest m e (cols_at ie b.cols));
      inside = All_among (InSpan u.lines) (rests E) (λ g i. let (e, ie, q) = among_rests E i in subst (InSpan u.lines) (sym q) (line_below e (cols_at ie b.cols) (among_All (Vanishes (suc m) P.generators P.lines) ie b.inside)));
      independent = (let (v, vv) = some_vertex (suc m) P solid in rests_independent v E vv.point (λ e i. (among_All (Vanishes (suc m) P.generators P.lines) i b.inside).holds v vv.extreme.cols vv.extreme.inside) b.independent);
      spans = λ x lx h. (same.lines x lx).1 h;
    }

    -- ---- the cones
    abbrev fs : List (List ℕ)
    fs = filter has_members sets

    row_at : (n k : ℕ) → k < n → slice_index_or (map (holders_from 0 fs) (range_with_len 0 n)) k [] ≡ holders_from 0 fs k
    row_at n k l = let e = range_length 0 n in map_at (holders_from 0 fs) 0 [] (range_with_len 0 n) k (omega arith) ∙ ap (holders_from 0 fs) (range_at 0 n k l ∙ (omega arith))

    pub cones_right : AreConeRays u moved.orders.rays moved.orders.cones (map (holders_from 0 fs) (range_with_len 0 (length V)))
    cones_right = sets_right m F E V used_rows both.1 u ucols moved (map (holders_from 0 fs) (range_with_len 0 (length V))) (map_length (holders_from 0 fs) (range_with_len 0 (length V)) ∙ range_length 0 (length V)) (λ k lk j.
        let h = held_at_sets F V sets incidence in
        let am = h.as_many in
        let q = holders_are fs k j in
        subst (λ r. Contains r j ↔ ((j < length used_rows) × (dot (ray used_rows j) (ray V k) ≡ pos 0))) (sym (row_at (length V) k lk)) (
          λ c. let p = q.0 c in let lj : j < length used_rows = (let b = p.0 in omega arith) in (lj, ((h.each j lj k).0 p.1).1),
          λ p. q.1 ((let b = p.0 in omega arith), (h.each j p.0 k).1 (lk, p.1)),
        ))

-- ---- from the values read
pub record IsRead (n : ℕ) (P : Cone) (V F E xs : List Row) (sets : List (List ℕ)) : Type 0 where
  pub solid : IsBoundedPolytope n P
  pub orders : AreOrdersOf n P V F
  pub basis : IsBasis n (Vanishes n P.generators P.lines) E
  pub alike : InOrder (SameModulo n (IsValid n P.generators P.lines)) F xs
  pub cols : HasCols n xs

pub normal_described : NormalFanIsDescribed
normal_described a t o u r fits thing h = (
  now.orders,
  fan_described u now.orders thing
      (subst (λ k. AreOrdersOfType k u.cols u.generators u.lines u.cones now.orders) (sym h.of) now.are)
      _ _ _ _ _ _ _
      (ap pos (let e = r.cols in let c = h.cols in omega arith))
      (subst (λ k. RowsAreInOrder u (SameRayOf k u.cols u.generators u.lines) now.orders.rays (normal_rays a)) (sym h.of) (record { xs = rests (kept_rows sets xs); stand = cut_stand (with_members sets (rows_at Facets a)) (kept_rows sets xs) (kept_stand sets (rows_at Facets a) xs facets.right.stand); cols = ray_cols m P o.rays o.facets E xs sets at_m.solid at_m.orders (hull_at) at_m.alike at_m.cols incidence u refl fu nu; order = rays_in_order m P o.rays o.facets E xs sets at_m.solid at_m.orders hull_at at_m.alike at_m.cols incidence u refl fu nu }))
      (subst (λ k. RowsAreBasis u (InLinesOf k u.generators u.lines) (cut (rows_at AffineHull a))) (sym h.of) (record { xs = rests E; stand = cut_stand (rows_at AffineHull a) E hull.right.stand; basis = lines_are_basis m P o.rays o.facets E xs sets at_m.solid at_m.orders hull_at at_m.alike at_m.cols incidence u refl fu nu at_m.basis }))
      (rays_count, subst (λ n. AreConeRays u now.orders.rays now.orders.cones (map (holders_from 0 (filter has_members sets)) (range_with_len 0 n))) vertex_count (cones_right m P o.rays o.facets E xs sets at_m.solid at_m.orders hull_at at_m.alike at_m.cols incidence u refl fu nu)),
)
  where
    m : ℕ
    m = u.cols

    P : Cone
    P = cone_of t

    polytope : IsPolytopeThing t.cols t.generators t.lines
    polytope = polytope_of t r.thing r.of

    facets : RightRows Facets a t o
    facets = read_rows normal_reads Facets a t o (there (there (there (there here)))) r (right_facets t o)

    vertices : RightRows Vertices a t o
    vertices = read_rows normal_reads Vertices a t o (there (there (there (there (there here))))) r (right_vertices t o)

    hull : RightRows AffineHull a t o
    hull = read_rows normal_reads AffineHull a t o (there (there here)) r (right_hull t o)

    read : RightSets a t o
    read = read_sets normal_reads a t o (there (there (there here))) r

    sets : List (List ℕ)
    sets = (sets_at VerticesInFacets a).rows

    xs : List Row
    xs = facets.right.xs

    E : List Row
    E = hull.right.xs

    incidence : IsIncidence o.facets o.rays sets
    incidence = read.right.1

    passed : (is_true Bounded a ≡ true) × (is_true Feasible a ≡ true)
    passed = normal_conditions _ _ _ _ _ _ fits

    bounded : (x : Row) → length x ≡ t.cols → InCone t.generators t.lines x → entry x 0 ≡ pos 0 → IsZero x
    bounded = (read_value normal_reads Bounded a t o here r (truth true) (true_value (value_of Bounded (read_at None a.held)) passed.0)).0 refl

    feasible : (x : Row) × (length x ≡ t.cols) × InCone t.generators t.lines x × ¬ (IsZero x)
    feasible = (read_value normal_reads Feasible a t o (there here) r (truth true) (true_value (value_of Feasible (read_at None a.held)) passed.1)).0 refl

    solid : IsBoundedPolytope t.cols P
    solid = record {
      thing = polytope;
      bounded = record { only_zero = bounded };
      some = elim polytope.proper [
        | inl z ↦ absurd (feasible.3 (z feasible.0 feasible.1 feasible.2))
        | inr p ↦ p
      ];
    }

    cone_orders : AreConeOrders t.cols t.generators t.lines o
    cone_orders = subst (λ k. AreOrdersOfType k t.cols t.generators t.lines t.cones o) r.of r.orders

    at_t : IsRead t.cols P o.rays o.facets E xs sets
    at_t = record { solid = solid; orders = record { rays = cone_orders.rays; facets = cone_orders.facets }; basis = hull.right.basis; alike = facets.right.order; cols = facets.right.cols }

    at_m : IsRead (suc m) P o.rays o.facets E xs sets
    at_m = subst (λ n. IsRead n P o.rays o.facets E xs sets) h.cols at_t

    hull_at : AreHull (suc m) P E
    hull_at = hull_of (suc m) P E at_m.solid.thing.cone.generators at_m.solid.thing.cone.lines at_m.basis

    fu : IsFan m (fan_of u)
    fu = fan_thing_of u thing h.of

    nu : IsNormalFan (suc m) (In P) (fan_of u)
    nu = subst (λ n. IsNormalFan n (In P) (fan_of u)) h.cols h.cones

    now : HasOrders m (shadow_fan o.facets E o.rays) (fan_of u) (record { rays = rests (kept_rows sets o.facets); facets = []; cones = range_with_len 0 (length o.rays) })
    now = moved m P o.rays o.facets E xs sets at_m.solid at_m.orders hull_at at_m.alike at_m.cols incidence u refl fu nu

    -- as many rows as vertices, and as rays
    vertex_count : length o.rays ≡ length (rows_at Vertices a)
    vertex_count = order_length (SameRayOf t.of t.cols t.generators t.lines) o.rays vertices.right.xs vertices.right.order ∙ stand_length (rows_at Vertices a) vertices.right.xs vertices.right.stand

    rays_count : length (normal_rays a) ≡ length now.orders.rays
    rays_count = sym (order_length (SameModulo m (InSpan u.lines)) now.orders.rays (rests (kept_rows sets xs)) (rays_in_order m P o.rays o.facets E xs sets at_m.solid at_m.orders hull_at at_m.alike at_m.cols incidence u refl fu nu)
        ∙ stand_length (normal_rays a) (rests (kept_rows sets xs)) (cut_stand (with_members sets (rows_at Facets a)) (kept_rows sets xs) (kept_stand sets (rows_at Facets a) xs facets.right.stand)))
