-- What double description finds from right values: all facet rows of what rows generate, and all extreme rays of what rows cut out, are right and canonical in an order of their own.
use Rattle.pm_vector.proofs.ConeLaws.{in_divide, in_generator, in_line, in_of, in_same, in_through, in_times, in_zero, lines_opposite}
use Rattle.pm_vector.proofs.Lists.{All_among, Among, all_at, all_from, among_All, here, there}
use Rattle.pm_vector.proofs.RowLaws.{dot-same, dot-times, dot_comm, entry-opposite, entry-plus, entry-times, length-times, times-dot}
use Rattle.pm_vector.proofs.Signs.{mul_nonneg, nonneg_cancel, weaken}
use Rattle.pm_vector.specs.Cones.{InCone, InSpan}
use Rattle.pm_vector.specs.Numbers.{Ratio}
use Rattle.pm_vector.specs.Rows.{HasCols, IsZero, Row, Stands, dot, times}
use Rattle.pm_vector.proofs.Columns.{basis_is_independent}
use Rattle.pm_dd.proofs.MixedLaws.{generators_as}
use Rattle.pm_dd.proofs.ZeroRows.{dot_zero}
use Rattle.pm_dd.specs.Fronts.{HalfSpaces}
use Rattle.pm_geom.proofs.Facets.{vanishes_line}
use Rattle.pm_geom.proofs.Polar.{cut_at, cut_from}
use Rattle.pm_geom.specs.Cones.{InLineality, IsExtreme, IsOrder, IsValid, SameModulo}
use Rattle.pm_geom.specs.Generators.{AreGenerators, IsLinealityBasis}
use Rattle.pm_geom.specs.Things.{Orders}
use Rattle.pm_dd.specs.Hulls.{InConeOf}
use Rattle.pm_props.specs.declared.kind.Kind.{Kind}
use Rattle.pm_object_type.specs.declared.object_type.ObjectType.TheVariants.{Cone, Fan, Polytope}
use Rattle.pm_object_type.specs.declared.object_type.ObjectType.{ObjectType}
use Rattle.pm_props.specs.declared.property.PropId.TheVariants.{AffineHull, Facets, LinealitySpace, Vertices}
use Rattle.pm_relations.proofs.Found.{echelon_is_right}
use Rattle.pm_relations.proofs.Spans.{thing_cols}
use Rattle.pm_relations.proofs.Standing.{same_direction, stand_for_ratios, zero_of_stands}
use Rattle.pm_relations.proofs.StandingSpans.{stand_for_span}
use Rattle.pm_relations.proofs.Twins.{facet_rows_cut_out, orders_of, vertices_generate}
use Rattle.pm_types.specs.Canonical.{EachIs, IsCanonical, IsEchelonBasisOf, IsRayRow, Vanishing}
use Rattle.pm_types.specs.Right.{CutsOutOf, InLines, InLinesOf, InOrder, InSet, PairCutsOut, PairGenerates, Right, SameFacet, SameRay, SameRayOf, Solves, StandFor, empty, proper}
use Rattle.pm_types.specs.Things.{AreOrders, AreOrdersOf, IsThing, Thing}
use Rattle.pm_types.specs.Values.{matrix}
use Rattle.pm_types.specs.Views.{ratios}
use Rattle.std.proofs.Common.{arith, inl, inr, refl, subst, ◌∙◌}
use Rattle.std.proofs.lemmas.Int.{ints}
use Rattle.std.specs.Prelude.{List, [], length, map, ℕ, ◌↔◌, ◌∷◌, ◌≡◌}
use lib.IntN.{pos, ◌*ℤ◌}
use lib.Signed.{◌≤ℤ◌}

-- ---- rows that stand for the same rows of fractions
-- what goes over from one row to another that stands for the same goes over from list to list
module _ (P : Row → Type 0) (step : (r : List Ratio) (x y : Row) → Stands r x → Stands r y → P x → P y) where
  stand_each : (rows : List (List Ratio)) (xs ys : List Row) → StandFor rows xs → StandFor rows ys → ((x : Row) → Among x xs → P x) → (y : Row) → Among y ys → P y
  stand_each [] [] [] s t f y i = elim i [ ]
  stand_each [] (x ∷ xs) ys s t f y i = absurd s
  stand_each [] xs (z ∷ ys) s t f y i = absurd t
  stand_each (r ∷ rows) [] ys s t f y i = absurd s
  stand_each (r ∷ rows) xs [] s t f y i = absurd t
  stand_each (r ∷ rows) (x ∷ xs) (z ∷ ys) s t f y here = step r x z s.0 t.0 (f x here)
  stand_each (r ∷ rows) (x ∷ xs) (z ∷ ys) s t f y (there i) = stand_each rows xs ys s.1 t.1 (λ w j. f w (there j)) y i

stands_in : (G L : List Row) (r : List Ratio) (x y : Row) → Stands r x → Stands r y → InCone G L x → InCone G L y
stands_in G L r x y s t h = let d = same_direction s t in in_divide d.q_positive (in_same d.same (in_times (weaken d.p_positive) h))

-- what lines span is in each cone with these lines
spanned : (G K : List Row) {w : Row} → InSpan K w → InCone G K w
spanned G K h = in_of G [] K (λ g i. elim i [ ]) h

-- they generate the same
stand_generate : (points lines : List (List Ratio)) (xs ys ls ks : List Row) → StandFor points xs → StandFor points ys → StandFor lines ls → StandFor lines ks → (x : Row) → InCone xs ls x → InCone ys ks x
stand_generate points lines xs ys ls ks sx sy sl sk x h =
    in_through ys ks xs ls (stand_each (InCone ys ks) (stands_in ys ks) points ys xs sy sx (λ y i. in_generator i))
    (λ l i. let s = stand_for_span ks lines ks ls sk sl (λ k j. in_line j) l i in (spanned ys ks s, spanned ys ks (lines_opposite ks l s))) h

sign_kept : (z : Row) (r : List Ratio) (x y : Row) → Stands r x → Stands r y → pos 0 ≤ℤ dot x z → pos 0 ≤ℤ dot y z
sign_kept z r x y s t h =
    let d = same_direction s t in
    let e : d.p *ℤ dot z x ≡ d.q *ℤ dot z y = simp dot-times at (dot-same z (times d.p x) (times d.q y) d.same.at) in
    let q = mul_nonneg (weaken d.p_positive) (subst (λ k. pos 0 ≤ℤ k) (dot_comm x z) h) in
    subst (λ k. pos 0 ≤ℤ k) (dot_comm z y) (nonneg_cancel d.q_positive (subst (λ k. pos 0 ≤ℤ k) e q))

-- they cut out the same
pub stand_cut : (inequalities equations : List (List Ratio)) (as' xs es ks : List Row) → StandFor inequalities as' → StandFor inequalities xs → StandFor equations es → StandFor equations ks → (x : Row) → Solves as' es x ↔ HalfSpaces ks xs x
stand_cut inequalities equations as' xs es ks sa sx se sk x = (
  λ s. (
    all_from (λ (a : Row). dot a x ≡ pos 0) ks (stand_each (λ a. dot a x ≡ pos 0) (λ r a b u w. zero_of_stands x u w) equations es ks se sk (λ e i. among_All (λ (a : Row). dot a x ≡ pos 0) i s.equations)),
    cut_from xs x (stand_each (λ a. pos 0 ≤ℤ dot a x) (sign_kept x) inequalities as' xs sa sx (λ a i. cut_at x i s.inequalities)),
  ),
  λ h. record {
    inequalities = cut_from as' x (stand_each (λ a. pos 0 ≤ℤ dot a x) (sign_kept x) inequalities xs as' sx sa (λ a i. cut_at x i h.1));
    equations = All_among (λ (a : Row). dot a x ≡ pos 0) es (stand_each (λ a. dot a x ≡ pos 0) (λ r a b u w. zero_of_stands x u w) equations ks es sk se (λ e i. all_at (λ (a : Row). dot a x ≡ pos 0) i h.0));
  },
)

-- ---- the cone of what was read
module _ (t : Thing) (o : Orders) (thing : IsThing t) where
  -- POINTS and INPUT_LINEALITY that are right together generate it
  pub points_generate : (points lines : List (List Ratio)) → PairGenerates t points lines → (xs ls : List Row) → StandFor points xs → StandFor lines ls → (x : Row) → length x ≡ t.cols → InSet t x ↔ InCone xs ls x
  points_generate points lines pair xs ls sx sl x lx =
      let same = pair.generates.same x lx in (
        λ h. stand_generate points lines pair.xs xs pair.ls ls pair.points_stand sx pair.lines_stand sl x (same.0 h),
        λ h. same.1 (stand_generate points lines xs pair.xs ls pair.ls sx pair.points_stand sl pair.lines_stand x h),
      )

  module _ (orders : AreOrders t o) (no_fan : ¬ (t.of ≡ Fan)) where
    -- so do right VERTICES and LINEALITY_SPACE
    pub rays_generate : (n m : ℕ) (rays lines : List (List Ratio)) (c d : List Ratio) → Right Vertices (matrix n rays) t o c → Right LinealitySpace (matrix m lines) t o d
        → (xs ls : List Row) → StandFor rays xs → StandFor lines ls → (x : Row) → length x ≡ t.cols → InSet t x ↔ InCone xs ls x
    rays_generate n m rays lines c d rv rl = let (p, l, pair) = vertices_generate t o thing orders no_fan n m rays lines c d rv rl in points_generate rays lines pair

    -- right FACETS and AFFINE_HULL cut it out
    pub facets_bound : (n m : ℕ) (facets hull : List (List Ratio)) (c d : List Ratio) → Right Facets (matrix n facets) t o c → Right AffineHull (matrix m hull) t o d
        → (xs es : List Row) → StandFor facets xs → StandFor hull es → (x : Row) → length x ≡ t.cols → InSet t x ↔ HalfSpaces es xs x
    facets_bound n m facets hull c d rf rh xs es sx se x lx =
        let (hg, hl) = thing_cols t thing in
        let a = orders_of t.of t.cols t.generators t.lines t.cones o no_fan orders in
        let cut = facet_rows_cut_out t.cols t.generators t.lines o.facets rf.xs rf.cols a.facets rf.order hg hl rh.xs rh.basis x lx in
        let same = stand_cut facets hull rf.xs xs rh.xs es rf.stand sx rh.stand se x in
        (λ h. same.0 (cut.0 h), λ h. cut.1 (same.1 h))

  -- INEQUALITIES and EQUATIONS that are right together describe it
  module _ (no_fan : ¬ (t.of ≡ Fan)) where
    zero_solves : (A E : List Row) (x : Row) → IsZero x → HalfSpaces E A x
    zero_solves A E x z = (
      all_from (λ (a : Row). dot a x ≡ pos 0) E (λ e i. dot_zero e x z),
      cut_from A x (λ a i. let e = dot_zero a x z in omega (arith, ints)),
    )

    cone_of : (of : ObjectType) (n : ℕ) (S : Row → Type 0) (A E A' E' : List Row) → ¬ (of ≡ Fan) → ((x : Row) → Solves A' E' x ↔ HalfSpaces E A x) → CutsOutOf of n S A' E' → (y : Row) → length y ≡ n → S y ↔ InConeOf of n A E y
    cone_of Polytope n S A E A' E' none same (proper x lx sx up eq) y ly = (
      λ s. let w = (eq y ly).0 s in record { solves = (same y).0 w.0; first = w.1; proper = inr (record { point = x; cols = lx; solves = (same x).0 sx; positive = up }) },
      λ h. (eq y ly).1 ((same y).1 h.solves, h.first),
    )
    cone_of Polytope n S A E A' E' none same (empty no_point eq) y ly = (
      λ s. let z = (eq y ly).0 s in record { solves = zero_solves A E y z; first = let e = z 0 in omega (arith, ints); proper = inl z },
      λ h. elim h.proper [
        | inl z ↦ (eq y ly).1 z
        | inr p ↦ absurd (no_point p.point p.cols ((same p.point).1 p.solves) p.positive)
      ],
    )
    cone_of Cone n S A E A' E' none same cuts y ly = (λ s. (same y).0 ((cuts y ly).0 s), λ h. (cuts y ly).1 ((same y).1 h))
    cone_of Fan n S A E A' E' none same cuts y ly = absurd (none refl)

    pub rows_bound : (inequalities equations : List (List Ratio)) → PairCutsOut t inequalities equations → (xs es : List Row) → StandFor inequalities xs → StandFor equations es → (x : Row) → length x ≡ t.cols → InSet t x ↔ InConeOf t.of t.cols xs es x
    rows_bound inequalities equations pair xs es sx se =
        cone_of t.of t.cols (InSet t) xs es pair.as' pair.es no_fan (stand_cut inequalities equations pair.as' xs pair.es es pair.inequalities_stand sx pair.equations_stand se) pair.cuts_out

-- ---- an order of its own
in_order_itself : (R : Row → Row → Type 0) (xs : List Row) → ((x : Row) → Among x xs → R x x) → InOrder R xs xs
in_order_itself R [] f = tt
in_order_itself R (x ∷ xs) f = (f x here, in_order_itself R xs (λ y i. f y (there i)))

-- a row is alike to itself
pub alike_itself : (n : ℕ) (S : Row → Type 0) (r : Row) → length r ≡ n → InLineality S (times (pos 0) r) → SameModulo n S r r
alike_itself n S r lr line = record {
  p = pos 1;
  k = pos 1;
  w = times (pos 0) r;
  cols = length-times (pos 0) r ∙ lr;
  p_positive = omega (arith, ints);
  k_positive = omega (arith, ints);
  line = line;
  same = record { at = λ i. simp (entry-plus, entry-times) (omega (arith, ints)) };
}

pub extreme_at : {n : ℕ} {S : Row → Type 0} {V : List Row} → IsOrder n S V → (v : Row) → Among v V → IsExtreme n S v
extreme_at {n} {S} o v i = among_All (λ u. IsExtreme n S u) i o.each

pub order_cols : (n : ℕ) (S : Row → Type 0) (V : List Row) → IsOrder n S V → HasCols n V
order_cols n S V o = all_from (λ (x : Row). length x ≡ n) V (λ x i. (extreme_at o x i).cols)

-- the echelon basis of the lineality of S, as that of the set that it is
echelon_of : (n : ℕ) (S S' : Row → Type 0) (K : List Row) (P : List ℕ) → IsLinealityBasis n S K P → ((x : Row) → length x ≡ n → InLineality S x ↔ S' x) → IsEchelonBasisOf n S' K P
echelon_of n S S' K P b e = record {
  basis = record {
    cols = b.echelon.cols;
    inside = All_among S' K (λ k i. let l = all_at (λ (x : Row). length x ≡ n) i b.echelon.cols in (e k l).0 ((b.lines k l).1 (in_line i)));
    independent = basis_is_independent n K P b.echelon.basis;
    spans = λ x l s. (b.lines x l).0 ((e x l).1 s);
  };
  echelon = b.echelon;
}

-- ---- facet rows
module _ (n : ℕ) (G L : List Row) where
  valid_as : (G' L' : List Row) → ((x : Row) → length x ≡ n → InCone G L x → InCone G' L' x) → (a : Row) → length a ≡ n → IsValid n G' L' a → IsValid n G L a
  valid_as G' L' same a la v = record { cols = la; holds = λ x lx h. v.holds x lx (same x lx h) }

  pub facet_alike : HasCols n G → HasCols n L → (a : Row) → length a ≡ n → SameModulo n (IsValid n G L) a a
  facet_alike hg hl a la =
      let lz : length (times (pos 0) a) ≡ n = length-times (pos 0) a ∙ la in
      alike_itself n (IsValid n G L) a la ((vanishes_line n G L hg hl (times (pos 0) a) lz).0 (record { cols = lz; holds = λ x lx h. let e = times-dot (pos 0) a x in omega (arith, ints) }))

facets_of : (of : ObjectType) (n : ℕ) (G L : List Row) (Gs : List (List Row)) (o : Orders) (F : List Row) → ¬ (of ≡ Fan) → AreOrdersOf of n G L Gs o → IsOrder n (IsValid n G L) F → AreOrdersOf of n G L Gs (record { rays = o.rays; facets = F; cones = o.cones })
facets_of Polytope n G L Gs o F none h f = record { rays = h.rays; facets = f; cones = h.cones }
facets_of Cone n G L Gs o F none h f = record { rays = h.rays; facets = f; cones = h.cones }
facets_of Fan n G L Gs o F none h f = absurd (none refl)

pub each_ratios : (F : List Row) → EachIs (λ r x. r ≡ ratios x) (map ratios F) F
each_ratios [] = tt
each_ratios (x ∷ F) = (refl, each_ratios F)

module _ (t : Thing) (o : Orders) (thing : IsThing t) (orders : AreOrders t o) (no_fan : ¬ (t.of ≡ Fan)) (xs ls F H : List Row) (same : (x : Row) → length x ≡ t.cols → InSet t x ↔ InCone xs ls x) (found : AreGenerators t.cols (IsValid t.cols xs ls) F H) where
  of_thing : AreGenerators t.cols (IsValid t.cols t.generators t.lines) F H
  of_thing =
      generators_as t.cols (IsValid t.cols xs ls) (IsValid t.cols t.generators t.lines)
      (valid_as t.cols t.generators t.lines xs ls (λ x lx. (same x lx).0)) (valid_as t.cols xs ls t.generators t.lines (λ x lx. (same x lx).1)) found

  -- the orders with that of these facet rows
  pub facet_orders : AreOrders t (record { rays = o.rays; facets = F; cones = o.cones })
  facet_orders = facets_of t.of t.cols t.generators t.lines t.cones o F no_fan orders of_thing.order

  hull_basis : IsEchelonBasisOf t.cols (Vanishing t) H of_thing.pivots
  hull_basis =
      let (hg, hl) = thing_cols t thing in
      echelon_of t.cols (IsValid t.cols t.generators t.lines) (Vanishing t) H of_thing.pivots of_thing.basis (λ x lx. let e = vanishes_line t.cols t.generators t.lines hg hl x lx in (e.1, e.0))

  pub facets_right : (kind : Kind) (m : ℕ) (c : List Ratio) → Right Facets (matrix m (map ratios F)) t (record { rays = o.rays; facets = F; cones = o.cones }) c × IsCanonical kind Facets (matrix m (map ratios F)) t
  facets_right kind m c =
      let (hg, hl) = thing_cols t thing in (
        record {
          xs = F;
          stand = stand_for_ratios F;
          cols = order_cols t.cols (IsValid t.cols t.generators t.lines) F of_thing.order;
          order = in_order_itself (SameFacet t) F (λ a i. facet_alike t.cols t.generators t.lines hg hl a (extreme_at of_thing.order a i).cols);
        },
        record {
          lines = H;
          pivots = of_thing.pivots;
          echelon = hull_basis;
          xs = F;
          each = each_ratios F;
          primitive = of_thing.primitive;
          reduced = of_thing.reduced;
          ascending = λ fresh. of_thing.ascending;
        },
      )

  pub hull_right : (kind : Kind) (m : ℕ) (o' : Orders) (c : List Ratio) → Right AffineHull (matrix m (map ratios H)) t o' c × IsCanonical kind AffineHull (matrix m (map ratios H)) t
  hull_right kind m o' c = (echelon_is_right t o' kind m c H of_thing.pivots).0 hull_basis

-- ---- extreme rays
pub zero_line : (G L : List Row) (v : Row) → InLineality (InCone G L) (times (pos 0) v)
zero_line G L v = record { inside = in_zero (λ i. simp entry-times (omega (arith, ints))); opposed = in_zero (λ i. simp (entry-opposite, entry-times) (omega (arith, ints))) }

ray_alike_of : (of : ObjectType) (n : ℕ) (G L : List Row) → ¬ (of ≡ Fan) → (v : Row) → length v ≡ n → SameRayOf of n G L v v
ray_alike_of Polytope n G L none v lv = alike_itself n (InCone G L) v lv (zero_line G L v)
ray_alike_of Cone n G L none v lv = alike_itself n (InCone G L) v lv (zero_line G L v)
ray_alike_of Fan n G L none v lv = absurd (none refl)

rays_of : (of : ObjectType) (n : ℕ) (G L : List Row) (Gs : List (List Row)) (o : Orders) (V : List Row) → ¬ (of ≡ Fan) → AreOrdersOf of n G L Gs o → IsOrder n (InCone G L) V → AreOrdersOf of n G L Gs (record { rays = V; facets = o.facets; cones = o.cones })
rays_of Polytope n G L Gs o V none h r = record { rays = r; facets = h.facets; cones = h.cones }
rays_of Cone n G L Gs o V none h r = record { rays = r; facets = h.facets; cones = h.cones }
rays_of Fan n G L Gs o V none h r = absurd (none refl)

pub lines_of : (of : ObjectType) (G L : List Row) → ¬ (of ≡ Fan) → (x : Row) → InLineality (InCone G L) x ↔ InLinesOf of G L x
lines_of Polytope G L none x = (λ h. h, λ h. h)
lines_of Cone G L none x = (λ h. h, λ h. h)
lines_of Fan G L none x = absurd (none refl)

pub each_stands : (t : Thing) (rows : List (List Ratio)) (V : List Row) → EachIs (IsRayRow t) rows V → StandFor rows V
each_stands t [] [] h = tt
each_stands t [] (x ∷ V) h = absurd h
each_stands t (r ∷ rows) [] h = absurd h
each_stands t (r ∷ rows) (x ∷ V) h = (h.0.stands, each_stands t rows V h.1)

module _ (t : Thing) (o : Orders) (thing : IsThing t) (orders : AreOrders t o) (no_fan : ¬ (t.of ≡ Fan)) (S : Row → Type 0) (V K : List Row) (same : (x : Row) → length x ≡ t.cols → InSet t x ↔ S x) (found : AreGenerators t.cols S V K) where
  of_set : AreGenerators t.cols (InSet t) V K
  of_set = generators_as t.cols S (InSet t) (λ x lx. (same x lx).1) (λ x lx. (same x lx).0) found

  -- the orders with that of these rays
  pub ray_orders : AreOrders t (record { rays = V; facets = o.facets; cones = o.cones })
  ray_orders = rays_of t.of t.cols t.generators t.lines t.cones o V no_fan orders of_set.order

  line_basis : IsEchelonBasisOf t.cols (InLines t) K of_set.pivots
  line_basis = echelon_of t.cols (InSet t) (InLines t) K of_set.pivots of_set.basis (λ x lx. lines_of t.of t.generators t.lines no_fan x)

  pub rays_right : (kind : Kind) (m : ℕ) (rows : List (List Ratio)) (c : List Ratio) → EachIs (IsRayRow t) rows V
      → Right Vertices (matrix m rows) t (record { rays = V; facets = o.facets; cones = o.cones }) c × IsCanonical kind Vertices (matrix m rows) t
  rays_right kind m rows c each = (
    record {
      xs = V;
      stand = each_stands t rows V each;
      cols = order_cols t.cols (InSet t) V of_set.order;
      order = in_order_itself (SameRay t) V (λ v i. ray_alike_of t.of t.cols t.generators t.lines no_fan v (extreme_at of_set.order v i).cols);
    },
    record {
      lines = K;
      pivots = of_set.pivots;
      echelon = line_basis;
      xs = V;
      each = each;
      primitive = of_set.primitive;
      reduced = of_set.reduced;
      ascending = λ fresh. of_set.ascending;
    },
  )

  pub lines_right : (kind : Kind) (m : ℕ) (o' : Orders) (c : List Ratio) → Right LinealitySpace (matrix m (map ratios K)) t o' c × IsCanonical kind LinealitySpace (matrix m (map ratios K)) t
  lines_right kind m o' c = (echelon_is_right t o' kind m c K of_set.pivots).1 line_basis
