-- Rows from sets of incidences: the sets that are right are those of the rows that were read, and rows in canonical form in the held order are right and canonical.
use Rattle.pm_vector.proofs.ConeLaws.{in_cone_set}
use Rattle.pm_vector.proofs.Lists.{Among, among_All}
use Rattle.pm_vector.proofs.RowLaws.{length-opposite}
use Rattle.pm_vector.specs.Cones.{InCone}
use Rattle.pm_vector.specs.Divisors.{IsPrimitive}
use Rattle.pm_vector.specs.Numbers.{Ratio}
use Rattle.pm_vector.specs.Rows.{HasCols, Row, Stands, dot, opposite}
use Rattle.pm_geom.proofs.Facets.{order_as, vanishes_line}
use Rattle.pm_geom.proofs.Incidence.{same_zero}
use Rattle.pm_geom.proofs.Reduce.{same_modulo_as}
use Rattle.pm_geom.specs.Cones.{IsExtreme, IsOrder, IsValid, SameModulo}
use Rattle.pm_geom.specs.Faces.{ray}
use Rattle.pm_geom.specs.Generators.{IsLinealityBasis, VanishAt}
use Rattle.pm_geom.specs.Things.{AreConeOrders, Orders}
use Rattle.pm_props.specs.Kinds.{IsFresh}
use Rattle.pm_props.specs.Properties.{facets_tag, rays_tag}
use Rattle.pm_props.specs.declared.kind.Kind.{Kind}
use Rattle.pm_object_type.specs.declared.object_type.ObjectType.TheVariants.{Cone, Fan, Polytope}
use Rattle.pm_object_type.specs.declared.object_type.ObjectType.{ObjectType}
use Rattle.pm_props.specs.declared.property.PropId.TheVariants.{Facets, Vertices, VerticesInFacets}
use Rattle.pm_relations.proofs.Hulls.{alike_itself, each_ratios, each_stands, facet_alike, zero_line}
use Rattle.pm_relations.proofs.Spans.{basis_lineality, hull_rows, thing_cols}
use Rattle.pm_relations.proofs.Standing.{in_order_at, in_order_length, ratios_at, stand_at, stand_for_ratios, stand_length, zero_of_stands, zero_with_stands}
use Rattle.pm_relations.proofs.Twins.{alike_inside, in_order_to, lines_of, orders_of, rays_of}
use Rattle.pm_types.specs.Canonical.{EachIs, IsCanonical, IsEchelonBasisOf, IsRayRow, Vanishing}
use Rattle.pm_types.specs.Right.{InLines, InOrder, InSet, IsIncidence, Right, SameRayOf, StandFor}
use Rattle.pm_types.specs.Things.{AreOrders, IsThing, Thing}
use Rattle.pm_types.specs.Values.{matrix, sets}
use Rattle.pm_types.specs.Views.{ratios}
use Rattle.std.proofs.Common.{arith, refl, suc, sym, ◌∙◌}
use Rattle.std.specs.List.{All}
use Rattle.std.specs.Prelude.{List, [], length, map, ℕ, ◌<◌, ◌↔◌, ◌∷◌, ◌≡◌}
use lib.IntN.{pos}

-- ---- incidences of other rows
-- lists as long, whose products vanish at the same places, have the same sets
incidence_as : (F F' V V' : List Row) (rows : List (List ℕ)) → length F' ≡ length F → length V' ≡ length V → ((i j : ℕ) → i < length F → j < length V → dot (ray F i) (ray V j) ≡ pos 0 ↔ dot (ray F' i) (ray V' j) ≡ pos 0) → IsIncidence F V rows → IsIncidence F' V' rows
incidence_as [] [] V V' [] e l same h = tt
incidence_as [] [] V V' (r ∷ rows) e l same h = h
incidence_as [] (g ∷ F') V V' rows e l same h = absurd (omega arith)
incidence_as (f ∷ F) [] V V' rows e l same h = absurd (omega arith)
incidence_as (f ∷ F) (g ∷ F') V V' [] e l same h = absurd h
incidence_as (f ∷ F) (g ∷ F') V V' (r ∷ rows) e l same h = (
  λ j. (
    λ c. let w = (h.0 j).0 c in let below = w.0 in (omega arith, (same 0 j (omega arith) below).0 w.1),
    λ w. let more = w.0 in let below : j < length V = omega arith in (h.0 j).1 (below, (same 0 j (omega arith) below).1 w.1),
  ),
  incidence_as F F' V V' rows (omega arith) l (λ i j li lj. same (suc i) j (omega arith) lj) h.1,
)

module _ (n : ℕ) (G L F V : List Row) (facets_order : IsOrder n (IsValid n G L) F) (rays_order : IsOrder n (InCone G L) V) (rows : List (List ℕ)) where
  facet_at : (i : ℕ) → i < length F → IsExtreme n (IsValid n G L) (ray F i)
  facet_at i l = facets_order.each i [] l

  ray_at : (j : ℕ) → j < length V → IsExtreme n (InCone G L) (ray V j)
  ray_at j l = rays_order.each j [] l

  -- rows for the facets in the place of these
  pub of_facets : HasCols n G → HasCols n L → (facets : List (List Ratio)) (fs' fs : List Row) → InOrder (SameModulo n (IsValid n G L)) F fs' → StandFor facets fs' → StandFor facets fs → IsIncidence F V rows → IsIncidence fs V rows
  of_facets hg hl facets fs' fs order s' s =
      let long' = in_order_length (SameModulo n (IsValid n G L)) F fs' order in
      let long : length fs ≡ length F = stand_length facets fs s ∙ sym (stand_length facets fs' s') ∙ long' in
      incidence_as F fs V V rows long refl (λ i j li lj.
      let r = ray_at j lj in
      let z = same_zero n G L (ray F i) (ray V j) (ray fs' i) (ray V j) (alike_itself n (InCone G L) (ray V j) r.cols (zero_line G L (ray V j))) (in_order_at (SameModulo n (IsValid n G L)) F fs' order i li) (facet_at i li).inside r.cols r.inside in
      let a' : Stands (ratios_at facets i) (ray fs' i) = stand_at facets fs' s' i (omega arith) in
      let a : Stands (ratios_at facets i) (ray fs i) = stand_at facets fs s i (omega arith) in
      (λ h. zero_of_stands (ray V j) a' a (z.0 h), λ h. z.1 (zero_of_stands (ray V j) a a' h)))

  -- rows for the rays in the place of these
  pub of_rays : HasCols n G → HasCols n L → (rays : List (List Ratio)) (vs' vs : List Row) → InOrder (SameModulo n (InCone G L)) V vs' → StandFor rays vs' → StandFor rays vs → IsIncidence F V rows → IsIncidence F vs rows
  of_rays hg hl rays vs' vs order s' s =
      let long' = in_order_length (SameModulo n (InCone G L)) V vs' order in
      let long : length vs ≡ length V = stand_length rays vs s ∙ sym (stand_length rays vs' s') ∙ long' in
      incidence_as F F V vs rows refl long (λ i j li lj.
      let r = ray_at j lj in
      let f = facet_at i li in
      let z = same_zero n G L (ray F i) (ray V j) (ray F i) (ray vs' j) (in_order_at (SameModulo n (InCone G L)) V vs' order j lj) (facet_alike n G L hg hl (ray F i) f.cols) f.inside r.cols r.inside in
      let a' : Stands (ratios_at rays j) (ray vs' j) = stand_at rays vs' s' j (omega arith) in
      let a : Stands (ratios_at rays j) (ray vs j) = stand_at rays vs s j (omega arith) in
      (λ h. zero_with_stands (ray F i) a' a (z.0 h), λ h. z.1 (zero_with_stands (ray F i) a a' h)))

-- ---- rows of one set, as those of another with the same rows
module _ (n : ℕ) (S S' : Row → Type 0) (to : (x : Row) → length x ≡ n → S x → S' x) (from : (x : Row) → length x ≡ n → S' x → S x) where
  in_order_as : (V U : List Row) → InOrder (SameModulo n S) V U → InOrder (SameModulo n S') V U
  in_order_as [] [] h = tt
  in_order_as [] (u ∷ U) h = absurd h
  in_order_as (v ∷ V) [] h = absurd h
  in_order_as (v ∷ V) (u ∷ U) h = (same_modulo_as n S S' to from h.0, in_order_as V U h.1)

  basis_as : (K : List Row) (P : List ℕ) → IsLinealityBasis n S' K P → IsLinealityBasis n S K P
  basis_as K P b = record {
    echelon = b.echelon;
    lines = λ x lx. (
      λ h. (b.lines x lx).0 (record { inside = to x lx h.inside; opposed = to (opposite x) (length-opposite x ∙ lx) h.opposed }),
      λ h. let l = (b.lines x lx).1 h in record { inside = from x lx l.inside; opposed = from (opposite x) (length-opposite x ∙ lx) l.opposed },
    );
  }

rays_held : (of : ObjectType) (n : ℕ) (G L V xs : List Row) → ¬ (of ≡ Fan) → InOrder (SameModulo n (InCone G L)) V xs → InOrder (SameRayOf of n G L) V xs
rays_held Polytope n G L V xs none h = h
rays_held Cone n G L V xs none h = h
rays_held Fan n G L V xs none h = absurd (none refl)

-- rows U in canonical form for the rows V of S, in their order
pub record ArePlaced (n : ℕ) (S : Row → Type 0) (V U : List Row) : Type 0 where
  pub cols : HasCols n U
  pub order : InOrder (SameModulo n S) V U
  pub primitive : All IsPrimitive U
  pub reduced : (K : List Row) (P : List ℕ) → IsLinealityBasis n S K P → All (VanishAt P) U

module _ (t : Thing) (o : Orders) (thing : IsThing t) (orders : AreOrders t o) (no_fan : ¬ (t.of ≡ Fan)) where
  held : AreConeOrders t.cols t.generators t.lines o
  held = orders_of t.of t.cols t.generators t.lines t.cones o no_fan orders

  -- ---- VERTICES, where the rows S describe the thing
  module _ (S : Row → Type 0) (same : (x : Row) → length x ≡ t.cols → InSet t x ↔ S x) where
    pub rays_order : IsOrder t.cols S o.rays
    rays_order = order_as t.cols (InSet t) S (λ x lx. (same x lx).0) (λ x lx. (same x lx).1) held.rays

    -- rows that are placed for the rays lie in the thing
    pub placed_inside : (U : List Row) → ArePlaced t.cols S o.rays U → (x : Row) → Among x U → InSet t x
    placed_inside U h =
        in_order_to (SameModulo t.cols (InSet t)) (InSet t) (InSet t) (alike_inside t.cols (InSet t) (in_cone_set t.generators t.lines)) o.rays U
        (in_order_as t.cols S (InSet t) (λ x lx. (same x lx).1) (λ x lx. (same x lx).0) o.rays U h.order)
        (λ v i. (among_All (λ u. IsExtreme t.cols (InSet t) u) i held.rays.each).inside)

    pub placed_rays : (kind : Kind) (m : ℕ) (c : List Ratio) (rows : List (List Ratio)) (U N : List Row) (P : List ℕ) → ¬ (IsFresh rays_tag kind) → ArePlaced t.cols S o.rays U → IsEchelonBasisOf t.cols (InLines t) N P → EachIs (IsRayRow t) rows U
        → Right Vertices (matrix m rows) t o c × IsCanonical kind Vertices (matrix m rows) t
    placed_rays kind m c rows U N P held_order h echelon each =
        let basis = lines_of t.of t.cols t.generators t.lines N no_fan echelon.basis in
        let lineality : IsLinealityBasis t.cols (InSet t) N P = record { echelon = echelon.echelon; lines = basis_lineality t.cols t.generators t.lines N basis } in (
          record {
            xs = U;
            stand = each_stands t rows U each;
            cols = h.cols;
            order = rays_held t.of t.cols t.generators t.lines o.rays U no_fan (in_order_as t.cols S (InSet t) (λ x lx. (same x lx).1) (λ x lx. (same x lx).0) o.rays U h.order);
          },
          record {
            lines = N;
            pivots = P;
            echelon = echelon;
            xs = U;
            each = each;
            primitive = h.primitive;
            reduced = h.reduced N P (basis_as t.cols S (InSet t) (λ x lx. (same x lx).1) (λ x lx. (same x lx).0) N P lineality);
            ascending = λ fresh. absurd (held_order fresh);
          },
        )

  -- ---- FACETS, where rows generate the thing
  module _ (G L : List Row) (same : (x : Row) → length x ≡ t.cols → InSet t x ↔ InCone G L x) where
    valid_to : (a : Row) → length a ≡ t.cols → IsValid t.cols t.generators t.lines a → IsValid t.cols G L a
    valid_to a la v = record { cols = la; holds = λ x lx h. v.holds x lx ((same x lx).1 h) }

    valid_from : (a : Row) → length a ≡ t.cols → IsValid t.cols G L a → IsValid t.cols t.generators t.lines a
    valid_from a la v = record { cols = la; holds = λ x lx h. v.holds x lx ((same x lx).0 h) }

    pub facets_order : IsOrder t.cols (IsValid t.cols G L) o.facets
    facets_order = order_as t.cols (IsValid t.cols t.generators t.lines) (IsValid t.cols G L) valid_to valid_from held.facets

    pub placed_facets : (kind : Kind) (m : ℕ) (c : List Ratio) (U N : List Row) (P : List ℕ) → ¬ (IsFresh facets_tag kind) → ArePlaced t.cols (IsValid t.cols G L) o.facets U → IsEchelonBasisOf t.cols (Vanishing t) N P
        → Right Facets (matrix m (map ratios U)) t o c × IsCanonical kind Facets (matrix m (map ratios U)) t
    placed_facets kind m c U N P held_order h echelon =
        let (hg, hl) = thing_cols t thing in
        let lineality : IsLinealityBasis t.cols (IsValid t.cols t.generators t.lines) N P = record {
          echelon = echelon.echelon;
          lines = λ x lx.
              let v = vanishes_line t.cols t.generators t.lines hg hl x lx in
              let s = hull_rows t.cols t.generators t.lines hg hl N echelon.basis x lx in
              (λ l. s.0 (v.1 l), λ i. v.0 (s.1 i));
        } in (
          record {
            xs = U;
            stand = stand_for_ratios U;
            cols = h.cols;
            order = in_order_as t.cols (IsValid t.cols G L) (IsValid t.cols t.generators t.lines) valid_from valid_to o.facets U h.order;
          },
          record {
            lines = N;
            pivots = P;
            echelon = echelon;
            xs = U;
            each = each_ratios U;
            primitive = h.primitive;
            reduced = h.reduced N P (basis_as t.cols (IsValid t.cols G L) (IsValid t.cols t.generators t.lines) valid_from valid_to N P lineality);
            ascending = λ fresh. absurd (held_order fresh);
          },
        )

  -- ---- the sets that are right, of the rows that were read
  pub sets_of_facets : (m k : ℕ) (facets : List (List Ratio)) (rows : List (List ℕ)) (c d : List Ratio) (xs : List Row) → Right Facets (matrix m facets) t o c → Right VerticesInFacets (sets rows k) t o d → StandFor facets xs
      → (k ≡ length o.rays) × IsIncidence xs o.rays rows
  sets_of_facets m k facets rows c d xs rf rs sx =
      let (hg, hl) = thing_cols t thing in
      (rs.0, of_facets t.cols t.generators t.lines o.facets o.rays held.facets held.rays rows hg hl facets rf.xs xs rf.order rf.stand sx rs.1)

  pub sets_of_rays : (m k : ℕ) (rays : List (List Ratio)) (rows : List (List ℕ)) (c d : List Ratio) (xs : List Row) → Right Vertices (matrix m rays) t o c → Right VerticesInFacets (sets rows k) t o d → StandFor rays xs
      → IsIncidence o.facets xs rows
  sets_of_rays m k rays rows c d xs rv rs sx =
      let (hg, hl) = thing_cols t thing in
      of_rays t.cols t.generators t.lines o.facets o.rays held.facets held.rays rows hg hl rays rv.xs xs (rays_of t.of t.cols t.generators t.lines o.rays rv.xs no_fan rv.order) rv.stand sx rs.1
