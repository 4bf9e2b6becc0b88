-- Normal fans and face fans are fans of shadows.
use Rattle.pm_vector.proofs.ConeLaws.{in_zero, none_from_zero, none_to_zero}
use Rattle.pm_vector.proofs.Lists.{All_among, Among, among_All, among_Any}
use Rattle.pm_vector.proofs.Ring.{ring}
use Rattle.pm_vector.proofs.RowLaws.{dot-nil, dot-plus, dot-same, dot-times, dot_comm, entry-opposite, entry-plus, length-opposite}
use Rattle.pm_vector.proofs.Signs.{mul_cancel, weaken}
use Rattle.pm_vector.specs.Cones.{InCone}
use Rattle.pm_vector.specs.Rows.{HasCols, Row, Same, dot, entry, opposite, plus, times}
use Rattle.pm_geom.proofs.Facets.{order_as, order_generates, vanishes_line}
use Rattle.pm_geom.proofs.Lineality.{valid_generated}
use Rattle.pm_geom.proofs.Polar.{bipolar}
use Rattle.pm_geom.proofs.Spans.{order_cols}
use Rattle.pm_geom.specs.Cones.{IsExtreme, IsFacetRow, IsValid, SameModulo}
use Rattle.pm_geom.specs.Faces.{ray}
use Rattle.pm_laws_normal_fans.proofs.Lifts.{dot-lift, length-lift, lift}
use Rattle.pm_laws_normal_fans.proofs.NormalFans.{pointed}
use Rattle.pm_laws_normal_fans.proofs.Places.{among_at, map_length, place_at}
use Rattle.pm_laws_normal_fans.proofs.ShadowFans.{cone_is, cones, fan, shadow_fan_is, upright}
use Rattle.pm_laws_normal_fans.proofs.Shadows.{HasShadows, from_lift, to_lift}
use Rattle.pm_laws_normal_fans.proofs.SumLaws.{IsPointed, least_all, least_multiple, line_zero}
use Rattle.pm_laws_normal_fans.proofs.Vertices.{extreme_vertex}
use Rattle.pm_laws_normal_fans.specs.FaceFans.{AreHull, AreOrdersOf, IsCenteredPolytope, IsFaceFan}
use Rattle.pm_laws_normal_fans.specs.Laws.{FaceFanOfVertices, NormalFanOfFacets}
use Rattle.pm_laws_normal_fans.specs.Fans.{IsConeAt, IsFan}
use Rattle.pm_laws_normal_fans.specs.NormalFans.{IsConeOfVertex, IsNormalFan}
use Rattle.pm_laws_normal_fans.specs.Shadows.{InShadow, held, rest, rests, shadow_fan}
use Rattle.pm_laws_normal_fans.specs.Sums.{Cone, In, IsBoundedPolytope, IsLeastAt, IsVertex, value}
use Rattle.std.proofs.Common.{arith, subst, sym, ◌∙◌}
use Rattle.std.proofs.lemmas.Int.{ints}
use Rattle.std.specs.Prelude.{List, [], length, suc, ℕ, ◌<◌, ◌↔◌, ◌∷◌, ◌≡◌}
use lib.IntN.{pos, ◌*ℤ◌, ◌-ℤ◌}
use lib.Signed.{◌<ℤ◌}

value-rest : (c x : Row) → value c x ≡ dot c (rest x)
value-rest c [] = sym (dot-nil c)
value-rest c (a ∷ x) = simp ring (omega (arith, ints))

-- ---- normal fans
module _ (m : ℕ) (P : Cone) (V F E : List Row) (solid : IsBoundedPolytope (suc m) P) (orders : AreOrdersOf (suc m) P V F) (hull : AreHull (suc m) P E) where
  hg : HasCols (suc m) P.generators
  hg = solid.thing.cone.generators

  hl : HasCols (suc m) P.lines
  hl = solid.thing.cone.lines

  tip : IsPointed (suc m) (In P)
  tip = pointed (suc m) P solid

  valid_is : (a : Row) → length a ≡ suc m → IsValid (suc m) P.generators P.lines a ↔ InCone F E a
  valid_is = valid_generated (suc m) P.generators P.lines hg hl F E hull.cols orders.facets hull.same

  -- what is valid on the valid rows is the cone itself
  bidual_to : (x : Row) → length x ≡ suc m → In P x → IsValid (suc m) F E x
  bidual_to x lx h = record { cols = lx; holds = λ a la k. rw dot_comm (((valid_is a la).1 k).holds x lx h) }

  bidual_from : (x : Row) → length x ≡ suc m → IsValid (suc m) F E x → In P x
  bidual_from x lx v = bipolar (suc m) P.generators P.lines hg hl x lx (λ a k. rw dot_comm (v.holds a k.cols ((valid_is a k.cols).0 k)))

  vertex : (v : Row) → Among v V → IsVertex (suc m) (In P) v
  vertex v i = extreme_vertex (suc m) P.generators P.lines hg hl tip v (among_All (λ v. IsExtreme (suc m) (In P) v) i orders.rays.each)

  shadows : HasShadows (suc m) F E V
  shadows = record {
    rows = order_cols (suc m) (IsValid (suc m) P.generators P.lines) F orders.facets;
    lines = hull.cols;
    order = order_as (suc m) (IsValid (suc m) P.generators P.lines) (InCone F E) (λ a la h. (valid_is a la).0 h) (λ a la h. (valid_is a la).1 h) orders.facets;
    spanned = λ x lx l. (hull.same x lx).0 ((vanishes_line (suc m) P.generators P.lines hg hl x lx).1 (record { inside = (valid_is x lx).1 l.inside; opposed = (valid_is (opposite x) (length-opposite x ∙ lx)).1 l.opposed }));
    facets = order_as (suc m) (In P) (IsValid (suc m) F E) bidual_to bidual_from orders.rays;
    positive = All_among (λ v. pos 0 <ℤ entry v 0) V (λ v i. (vertex v i).point);
  }

  -- the lift of an objective is valid exactly where the objective is least
  lift_product : (v c x : Row) → dot (lift v c) x ≡ entry v 0 *ℤ value c x -ℤ entry x 0 *ℤ value c v
  lift_product v c x = dot-lift v c x ∙ (let a = value-rest c x in let b = value-rest c v in simp (a, b))

  valid_to_least : (v c : Row) → suc (length c) ≡ suc m → IsValid (suc m) P.generators P.lines (lift v c) → IsLeastAt (suc m) (In P) v c
  valid_to_least v c lc h = record { cols = lc; least = λ x lx ix up. let p = h.holds x lx ix in let e = lift_product v c x in omega (arith, ints) }

  least_to_valid : (v c : Row) → IsLeastAt (suc m) (In P) v c → IsValid (suc m) P.generators P.lines (lift v c)
  least_to_valid v c h = record {
    cols = length-lift m v c (let l = h.cols in omega arith);
    holds = λ x lx ix. let q = least_all (suc m) (In P) tip v c h x lx ix in let e = lift_product v c x in omega (arith, ints);
  }

  of_vertex : (k : ℕ) → k < length V → IsConeOfVertex (suc m) (In P) (ray V k) (shadow_fan F E V) k
  of_vertex k l c lc =
      let v = ray V k in
      let up = upright m F E V shadows v (among_at [] V k l) in
      let lm : length c ≡ m = omega arith in
      subst (λ D. InCone D (rests E) c ↔ IsLeastAt (suc m) (In P) v c) (sym (cone_is m F E V shadows k l)) (
        λ h. valid_to_least v c lc ((valid_is (lift v c) (length-lift m v c lm)).1 (to_lift m F E shadows.rows shadows.lines v up c h)),
        λ h. from_lift m F E shadows.rows shadows.lines v up c ((valid_is (lift v c) (length-lift m v c lm)).0 (least_to_valid v c h)),
      )

  count : length (shadow_fan F E V).cones ≡ length V
  count = map_length (λ a. rests (held F a)) V

  normal : IsNormalFan (suc m) (In P) (shadow_fan F E V)
  normal = record {
    each = λ k l. let e = count in let lk : k < length V = omega arith in (ray V k, vertex (ray V k) (among_at [] V k lk), of_vertex k lk);
    all = λ v vv.
        let (w, iw, s) = among_Any (λ w. SameModulo (suc m) (In P) v w) V (orders.rays.all v vv.extreme) in
        let (k, lk, e) = place_at [] V iw in
        let d : Same (times s.p w) (times s.k v) = record { at = λ i. let q = s.same.at i in let o = line_zero (suc m) (In P) tip s.w s.cols s.line i in let f = simp (entry-plus, o) at q in omega (arith, ints) } in
        let c = subst (λ z. IsConeOfVertex (suc m) (In P) z (shadow_fan F E V) k) e (of_vertex k lk) in (
          k,
          (let q = count in omega arith),
          λ x l. (
            λ h. least_multiple (suc m) (In P) tip w v x s.p s.k (weaken s.p_positive) s.k_positive d ((c x l).0 h),
            λ h. (c x l).1 (least_multiple (suc m) (In P) tip v w x s.k s.p (weaken s.k_positive) s.p_positive (record { at = λ i. sym (d.at i) }) h),
          ),
        );
  }

-- it is a fan
pub normal_fan_there : (m : ℕ) (P : Cone) (V F E : List Row) → IsBoundedPolytope (suc m) P → AreOrdersOf (suc m) P V F → AreHull (suc m) P E → IsFan m (shadow_fan F E V) × IsNormalFan (suc m) (In P) (shadow_fan F E V)
normal_fan_there m P V F E solid orders hull = (fan m F E V (shadows m P V F E solid orders hull), normal m P V F E solid orders hull)

pub normal_fan_of_facets : NormalFanOfFacets
normal_fan_of_facets m P V F E U solid orders hull used = (normal m P V F E solid orders hull, shadow_fan_is m F E V U (shadows m P V F E solid orders hull) used)

-- ---- face fans
module _ (m : ℕ) (P : Cone) (V F : List Row) (around : IsCenteredPolytope (suc m) P) (orders : AreOrdersOf (suc m) P V F) where
  hp : HasCols (suc m) P.generators
  hp = around.thing.cone.generators

  hq : HasCols (suc m) P.lines
  hq = around.thing.cone.lines

  pub corner : IsPointed (suc m) (In P)
  corner = record { first = around.thing.first; bounded = around.bounded }

  pub generated : (x : Row) → length x ≡ suc m → In P x ↔ InCone V [] x
  generated = order_generates (suc m) P.generators P.lines hp hq V [] tt orders.rays (λ x lx. (
    λ l. none_from_zero x (line_zero (suc m) (In P) corner x lx l),
    λ h. let z = none_to_zero x h in record { inside = in_zero z; opposed = in_zero (λ i. let e = z i in simp (entry-opposite, e)) },
  ))

  valid_to : (a : Row) → length a ≡ suc m → IsValid (suc m) P.generators P.lines a → IsValid (suc m) V [] a
  valid_to a la v = record { cols = la; holds = λ x lx h. v.holds x lx ((generated x lx).1 h) }

  valid_back : (a : Row) → length a ≡ suc m → IsValid (suc m) V [] a → IsValid (suc m) P.generators P.lines a
  valid_back a la v = record { cols = la; holds = λ x lx h. v.holds x lx ((generated x lx).0 h) }

  facet : (a : Row) → Among a F → IsFacetRow (suc m) P.generators P.lines a
  facet a i = among_All (λ a. IsExtreme (suc m) (IsValid (suc m) P.generators P.lines) a) i orders.facets.each

  face_shadows : HasShadows (suc m) V [] F
  face_shadows = record {
    rows = order_cols (suc m) (In P) V orders.rays;
    lines = tt;
    order = order_as (suc m) (In P) (InCone V []) (λ x lx h. (generated x lx).0 h) (λ x lx h. (generated x lx).1 h) orders.rays;
    spanned = λ x lx l. none_from_zero x (line_zero (suc m) (In P) corner x lx (record { inside = (generated x lx).1 l.inside; opposed = (generated (opposite x) (length-opposite x ∙ lx)).1 l.opposed }));
    facets = order_as (suc m) (IsValid (suc m) P.generators P.lines) (IsValid (suc m) V []) valid_to valid_back orders.facets;
    positive = All_among (λ a. pos 0 <ℤ entry a 0) F (λ a i. let e = facet a i in around.positive a e.inside (λ v. e.not_line ((vanishes_line (suc m) P.generators P.lines hp hq a e.cols).0 v).opposed));
  }

  of_facet : (k : ℕ) → k < length F → ((k : ℕ) → k < length F → IsConeAt m (shadow_fan V [] F) k (InShadow (suc m) (InCone V []) (ray F k))) → IsConeAt m (shadow_fan V [] F) k (InShadow (suc m) (In P) (ray F k))
  of_facet k l cones x lx = (
    λ h. let s = (cones k l x lx).0 h in record { factor = s.factor; row = s.row; positive = s.positive; cols = s.cols; inside = (generated s.row s.cols).1 s.inside; zero = s.zero; same = s.same },
    λ s. (cones k l x lx).1 (record { factor = s.factor; row = s.row; positive = s.positive; cols = s.cols; inside = (generated s.row s.cols).0 s.inside; zero = s.zero; same = s.same }),
  )

  -- facet rows that are alike vanish on the same rows
  same_zero : (a b x : Row) → SameModulo (suc m) (IsValid (suc m) P.generators P.lines) a b → length x ≡ suc m → In P x → (dot a x ≡ pos 0) ↔ (dot b x ≡ pos 0)
  same_zero a b x s lx h =
      let w : dot s.w x ≡ pos 0 = ((vanishes_line (suc m) P.generators P.lines hp hq s.w s.cols).1 s.line).holds x lx h in
      let e = dot-same x (times s.p b) (plus (times s.k a) s.w) s.same.at in
      let f = dot-times x s.p b in
      let g = dot-plus x (times s.k a) s.w in
      let j = dot-times x s.k a in
      let ca = dot_comm a x in
      let cb = dot_comm b x in
      let cw = dot_comm s.w x in
      let q : s.p *ℤ dot b x ≡ s.k *ℤ dot a x = rw (ca, cb) (omega (arith, ints)) in
      (λ z. mul_cancel s.p_positive (let r = simp (z, ring) at q in simp ring (omega (arith, ints))), λ z. mul_cancel s.k_positive (let r = simp (z, ring) at q in simp ring (omega (arith, ints))))

  facets_count : length (shadow_fan V [] F).cones ≡ length F
  facets_count = map_length (λ a. rests (held V a)) F

  faces : ((k : ℕ) → k < length F → IsConeAt m (shadow_fan V [] F) k (InShadow (suc m) (InCone V []) (ray F k))) → IsFaceFan m P (shadow_fan V [] F)
  faces cones = record {
    each = λ k l. let e = facets_count in let lk : k < length F = omega arith in (ray F k, facet (ray F k) (among_at [] F k lk), of_facet k lk cones);
    all = λ a ea.
        let (b, ib, s) = among_Any (λ b. SameModulo (suc m) (IsValid (suc m) P.generators P.lines) a b) F (orders.facets.all a ea) in
        let (k, lk, e) = place_at [] F ib in
        let c = subst (λ z. IsConeAt m (shadow_fan V [] F) k (InShadow (suc m) (In P) z)) e (of_facet k lk cones) in (
          k,
          (let q = facets_count in omega arith),
          λ x l. (
            λ h. let t = (c x l).0 h in record { factor = t.factor; row = t.row; positive = t.positive; cols = t.cols; inside = t.inside; zero = (same_zero a b t.row s t.cols t.inside).1 t.zero; same = t.same },
            λ t. (c x l).1 (record { factor = t.factor; row = t.row; positive = t.positive; cols = t.cols; inside = t.inside; zero = (same_zero a b t.row s t.cols t.inside).0 t.zero; same = t.same }),
          ),
        );
  }

-- it is a fan, with a cone for each facet
pub face_fan_there : (m : ℕ) (P : Cone) (V F : List Row) → IsCenteredPolytope (suc m) P → AreOrdersOf (suc m) P V F → IsFan m (shadow_fan V [] F) × IsFaceFan m P (shadow_fan V [] F) × (length (shadow_fan V [] F).cones ≡ length F)
face_fan_there m P V F around orders =
    let s = face_shadows m P V F around orders in
    (fan m V [] F s, faces m P V F around orders (cones m V [] F s), facets_count m P V F around orders)

pub face_fan_of_vertices : FaceFanOfVertices
face_fan_of_vertices m P V F U around orders used =
    let s = shadow_fan_is m V [] F U (face_shadows m P V F around orders) used in
    (faces m P V F around orders s.cones, s)
