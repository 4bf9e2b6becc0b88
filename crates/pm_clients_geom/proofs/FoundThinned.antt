-- What the clients put that thin one description of a thing by the other, or find one from sets of incidences, is sound.
use Rattle.pm_vector.proofs.Lists.{All_among, all_at}
use Rattle.pm_vector.specs.Cones.{InCone}
use Rattle.pm_vector.specs.Numbers.{InRange, Ratio}
use Rattle.pm_vector.specs.Rows.{HasCols, Row, entry}
use Rattle.pm_client.proofs.Puts.{IsPut, sound_one}
use Rattle.pm_client.proofs.ReadValues.{read_right}
use Rattle.pm_client.specs.Sound.{AreRowsOf, AreSetsOf, IsSound, added_rows}
use Rattle.pm_clients_geom.proofs.FoundHulls.{AreFacetsOf, by_facets, facets_forms, facets_sound_as, first_of, generated, primitive_some, rows_pair, vertices_forms}
use Rattle.pm_clients_geom.proofs.PutMatrices.{put_states, ratios_columned}
use Rattle.pm_clients_geom.proofs.PutRays.{ray_rows}
use Rattle.pm_clients_geom.specs.Hulls.{AreFewRows}
use Rattle.pm_clients_geom.specs.Lists.{ReadsParts}
use Rattle.pm_clients_geom.specs.Matrices.{AreRays}
use Rattle.pm_types.specs.Parts.{cols_over, as_put}
use Rattle.pm_clients_geom.specs.Rays.{ArePutRays}
use Rattle.pm_clients_geom.specs.Thinned.{ArePossibleFacets, ArePossibleRays, ArePutFacets}
use Rattle.pm_dd.specs.Fronts.{HalfSpaces}
use Rattle.pm_vector.specs.NullSpaces.{IsNullBasis}
use Rattle.pm_geom.specs.Cones.{IsOrder, IsValid}
use Rattle.pm_geom.specs.Generators.{AreGenerators}
use Rattle.pm_geom.specs.Things.{Orders}
use Rattle.pm_incidence.specs.FromSets.{AreCanonicalFor, turned}
use Rattle.pm_fraction.specs.Matrices.{FractionMatrix}
use Rattle.pm_object.specs.Reading.{DraftSeen, IsView, ViewSeen, fact_of}
use Rattle.pm_props.specs.Kinds.{IsFresh}
use Rattle.pm_props.specs.Places.{place_of}
use Rattle.pm_props.specs.Properties.{facets_tag, rays_tag}
use Rattle.pm_props.specs.Sets.{has, set_of}
use Rattle.pm_object_type.specs.declared.object_type.ObjectType.TheVariants.{Cone, Fan, Polytope}
use Rattle.pm_object_type.specs.declared.object_type.ObjectType.{ObjectType}
use Rattle.pm_props.specs.declared.property.PropId.TheVariants.{AffineHull, Equations, Facets, Inequalities, InputLineality, LinealitySpace, Points, Vertices, VerticesInFacets}
use Rattle.pm_props.specs.declared.property.PropId.{PropId}
use Rattle.pm_relations.proofs.FromSets.{ArePlaced, facets_order, placed_facets, placed_inside, placed_rays, rays_order, sets_of_facets, sets_of_rays}
use Rattle.pm_relations.proofs.PrimitiveStanding.{hull_primitive, lineality_primitive, primitive_stand}
use Rattle.pm_relations.proofs.Thinning.{cuts_cone, rows_cut}
use Rattle.pm_types.specs.Canonical.{EachIs, IsCanonical, IsRayRow}
use Rattle.pm_types.specs.Forms.{FormsIn, are_indices}
use Rattle.pm_types.specs.Right.{CutsOutOf, InSet, IsIncidence, Right, RightAll, StandFor, objective_of}
use Rattle.pm_types.specs.Things.{Thing}
use Rattle.pm_types.specs.Values.{IndexSets, matrix, sets}
use Rattle.pm_types.specs.Views.{ratios}
use Rattle.std.proofs.Common.{arith, inl, inr, lit≤, refl, subst, suc, sym, true, true≢false, ◌∙◌}
use Rattle.std.proofs.lemmas.Bool.{and_parts, leb-true, ltb-true}
use Rattle.std.proofs.lemmas.List.Elements.{All-cons, All-nil}
use Rattle.std.proofs.lemmas.List.{append-nil}
use Rattle.std.specs.List.{All, list_all}
use Rattle.std.specs.Prelude.{IsTrue, List, Some, [], length, map, nat_le, nat_lt, ℕ, ◌&&◌, ◌+◌, ◌++◌, ◌<◌, ◌^◌, ◌↔◌, ◌∷◌, ◌≡◌, ◌≤◌}
use lib.IntN.{pos}
use lib.Signed.{◌≤ℤ◌}
use Rattle.pm_limits.specs.Limits.{most_rows}

-- ---- what was read, as evidence names it
pub first_rows_of : {v : ViewSeen} {first second : PropId} {L G : List Row} → ReadsParts v first second L G → AreRowsOf v first L
first_rows_of read = record { cols = read.first_cols; rows = read.first_rows; reads = read.reads_first; primitive = read.first_primitive }

pub second_rows_of : {v : ViewSeen} {first second : PropId} {L G : List Row} → ReadsParts v first second L G → AreRowsOf v second G
second_rows_of read = record { cols = read.second_cols; rows = read.second_rows; reads = read.reads_second; primitive = read.second_primitive }

-- sets are of few places
places_few : (n low : ℕ) (set : List ℕ) → are_indices n low set ≡ true → low ≤ n → length set + low ≤ n
places_few n low [] h l = omega arith
places_few n low (j ∷ set) h l =
    let p = and_parts (nat_le low j && nat_lt j n) (are_indices n (suc j) set) h in
    let q = and_parts (nat_le low j) (nat_lt j n) p.0 in
    let a = leb-true low j q.0 in
    let b = ltb-true j n q.1 in
    let m = places_few n (suc j) set p.1 (omega arith) in
    omega arith

each_few : (n : ℕ) (rows : List (List ℕ)) → n ≤ most_rows → list_all (are_indices n 0) rows ≡ true → All (λ set. length set < 2 ^ 30) rows
each_few n [] l h = All-nil (λ (set : List ℕ). length set < 2 ^ 30)
each_few n (set ∷ rows) l h =
    let p = and_parts (are_indices n 0 set) (list_all (are_indices n 0) rows) h in
    All-cons (λ (s : List ℕ). length s < 2 ^ 30) set rows (let f = places_few n 0 set p.0 (omega arith) in omega arith) (each_few n rows l p.1)

module _ (of : ObjectType) (n : ℕ) (s : IndexSets) (forms : FormsIn of n VerticesInFacets (sets s.rows s.cols)) where
  form_parts : (nat_le (length s.rows) most_rows && nat_le s.cols most_rows ≡ true) × (list_all (are_indices s.cols 0) s.rows ≡ true)
  form_parts = and_parts (nat_le (length s.rows) most_rows && nat_le s.cols most_rows) (list_all (are_indices s.cols 0) s.rows) forms.formed

  pub sets_few : length s.rows ≤ most_rows
  sets_few = leb-true (length s.rows) most_rows (and_parts (nat_le (length s.rows) most_rows) (nat_le s.cols most_rows) form_parts.0).0

  pub columns_few : s.cols ≤ most_rows
  columns_few = leb-true s.cols most_rows (and_parts (nat_le (length s.rows) most_rows) (nat_le s.cols most_rows) form_parts.0).1

  pub all_few : All (λ set. length set < 2 ^ 30) s.rows
  all_few = each_few s.cols s.rows columns_few form_parts.1

-- ---- the evidence names sets that were read
pub ray_sets : {v : ViewSeen} {E A : List Row} (s : IndexSets) → ReadsParts v AffineHull Facets E A → fact_of VerticesInFacets v.facts ≡ Some (sets s.rows s.cols) → AreSetsOf v AffineHull Facets E A (turned s)
ray_sets s read reads = record { parts = refl; equations = first_rows_of read; inequalities = second_rows_of read; index = s; reads = reads; turned = refl }

pub facet_sets : {v : ViewSeen} {L G : List Row} (s : IndexSets) → ReadsParts v LinealitySpace Vertices L G → fact_of VerticesInFacets v.facts ≡ Some (sets s.rows s.cols) → AreSetsOf v LinealitySpace Vertices L G s.rows
facet_sets s read reads = record { parts = refl; equations = first_rows_of read; inequalities = second_rows_of read; index = s; reads = reads; turned = refl }

-- ---- nothing is added to these
pub no_point_added : (of : ObjectType) (n : ℕ) → added_rows of n Points ≡ []
no_point_added Polytope n = refl
no_point_added Cone n = refl
no_point_added Fan n = refl

pub no_vertex_added : (of : ObjectType) (n : ℕ) → added_rows of n Vertices ≡ []
no_vertex_added Polytope n = refl
no_vertex_added Cone n = refl
no_vertex_added Fan n = refl

-- ---- thinning
-- what is thinned from POINTS generates whatever thing what was read is right for
pub points_found : (v : ViewSeen) → ¬ (v.of ≡ Fan) → (L G E A V K : List Row) → ReadsParts v InputLineality Points L G → ReadsParts v AffineHull Facets E A
    → (CutsOutOf Cone v.cols (InCone G L) A E → AreGenerators v.cols (InCone G L) V K)
    → (t : Thing) (o : Orders) → t.of ≡ v.of → t.cols ≡ v.cols → RightAll v.facts t o → AreGenerators v.cols (InCone G L) V K × ((x : Row) → length x ≡ t.cols → InSet t x ↔ InCone G L x)
points_found v no_fan L G E A V K points halves thinned t o of cols right =
    let same = generated v InputLineality Points L G refl refl points t o right (λ e. no_fan (sym of ∙ e)) in
    (thinned (subst (λ n. CutsOutOf Cone n (InCone G L) A E) cols (cuts_cone t G L A E same (by_facets v E A t o of cols right no_fan halves))), same)

-- and what is thinned from INEQUALITIES are its facet rows
pub inequalities_found : (v : ViewSeen) → ¬ (v.of ≡ Fan) → (E A L G F H : List Row) → ReadsParts v Equations Inequalities E A → ReadsParts v LinealitySpace Vertices L G
    → (CutsOutOf v.of v.cols (InCone G L) A E → AreGenerators v.cols (IsValid v.cols G L) F H)
    → (t : Thing) (o : Orders) → t.of ≡ v.of → t.cols ≡ v.cols → RightAll v.facts t o → AreFacetsOf t v.cols F H
inequalities_found v no_fan E A L G F H halves rays thinned t o of cols right =
    let same = generated v LinealitySpace Vertices L G refl refl rays t o right (λ e. no_fan (sym of ∙ e)) in
    let cut = rows_cut t halves.second_rows halves.first_rows (rows_pair v E A t o of cols right no_fan halves) A E
    (primitive_stand halves.second_rows A halves.second_primitive) (primitive_stand halves.first_rows E halves.first_primitive) G L same in
    record { rays = G; lines = L; facets = thinned (subst (λ k. CutsOutOf k v.cols (InCone G L) A E) of (subst (λ n. CutsOutOf t.of n (InCone G L) A E) cols cut)); same = same }

-- the facet rows that were put, and the rows that vanish, are sound
pub thinned_facets_sound : (v : ViewSeen) → IsView v → v.kind.targets ≡ set_of (Facets ∷ AffineHull ∷ []) → IsFresh facets_tag v.kind → (F H : List Row)
    → ((t : Thing) (o : Orders) → t.of ≡ v.of → t.cols ≡ v.cols → RightAll v.facts t o → AreFacetsOf t v.cols F H) → (new : DraftSeen) → ArePutFacets v F H new → IsSound v new
thinned_facets_sound v view targets fresh F H found new h = facets_sound_as v view targets fresh F h.facets H found h.possible.kept h.few h.few_hull h.possible.may h.in_range h.hull_in_range new h.draft

-- facet rows, or none in their place, are few
pub possible_few : (v : ViewSeen) (F' F : List Row) → AreFewRows v.cols F' → ArePossibleFacets F' F → AreFewRows v.cols F
possible_few v F' F few possible = elim possible.either [ inl e ↦ subst (AreFewRows v.cols) (sym e) few | inr e ↦ subst (AreFewRows v.cols) (sym e) (record { cols = tt; few = lit≤ tt }) ]

-- so are rays
pub possible_rays_few : (v : ViewSeen) (V' V : List Row) → AreFewRows v.cols V' → ArePossibleRays v.of V' V → AreFewRows v.cols V
possible_rays_few v V' V few possible = elim possible.either [ inl e ↦ subst (AreFewRows v.cols) (sym e) few | inr e ↦ subst (AreFewRows v.cols) (sym e) (record { cols = tt; few = lit≤ tt }) ]

-- ---- VERTICES from sets
module _ (v : ViewSeen) (view : IsView v) (no_fan : ¬ (v.of ≡ Fan)) (targets : v.kind.targets ≡ set_of (Vertices ∷ [])) (sources : IsTrue (has v.kind.sources VerticesInFacets)) (E A : List Row) (halves : ReadsParts v AffineHull Facets E A)
    (index : IndexSets) (reads : fact_of VerticesInFacets v.facts ≡ Some (sets index.rows index.cols)) (U' N : List Row) (P : List ℕ) (null : IsNullBasis v.cols (E ++ A) N P) (few : AreFewRows v.cols U')
    (found : (V : List Row) → IsOrder v.cols (HalfSpaces E A) V → index.cols ≡ length V → IsIncidence A V index.rows → AreCanonicalFor v.cols (HalfSpaces E A) V U') (U : List Row) (possible : ArePossibleRays v.of U' U) (rows : List (List Ratio)) (each : ArePutRays v.of rows U) where
  no_choice : ¬ (IsFresh rays_tag v.kind)
  no_choice fresh = true≢false (fresh.sources VerticesInFacets sources)

  few_put : AreFewRows v.cols U
  few_put = possible_rays_few v U' U few possible

  module _ (t : Thing) (o : Orders) (of : t.of ≡ v.of) (cols : t.cols ≡ v.cols) (right : RightAll v.facts t o) where
    not_fan : ¬ (t.of ≡ Fan)
    not_fan e = no_fan (sym of ∙ e)

    bound : (x : Row) → length x ≡ t.cols → InSet t x ↔ HalfSpaces E A x
    bound = by_facets v E A t o of cols right no_fan halves

    stand : StandFor halves.second_rows A
    stand = primitive_stand halves.second_rows A halves.second_primitive

    placed : ArePlaced t.cols (HalfSpaces E A) o.rays U'
    placed =
        let (s, rf) = read_right Facets v.facts (matrix halves.second_cols halves.second_rows) t o halves.reads_second right in
        let (r, rs) = read_right VerticesInFacets v.facts (sets index.rows index.cols) t o reads right in
        let here = sets_of_facets t o right.thing right.orders not_fan halves.second_cols index.cols halves.second_rows index.rows (objective_of t s) (objective_of t r) A rf rs stand in
        let order = subst (λ n. IsOrder n (HalfSpaces E A) o.rays) cols (rays_order t o right.thing right.orders not_fan (HalfSpaces E A) bound) in
        let c : AreCanonicalFor t.cols (HalfSpaces E A) o.rays U' = subst (λ n. AreCanonicalFor n (HalfSpaces E A) o.rays U') (sym cols) (found o.rays order here.0 here.1) in
        record { cols = subst (λ n. HasCols n U') (sym cols) few.cols; order = c.order; primitive = c.primitive; reduced = c.reduced }

    are_rays : AreRays v.of U'
    are_rays = record {
      before = λ e. All_among (λ (x : Row). pos 0 ≤ℤ entry x 0) U' (λ x i.
          first_of t.of t.cols t.generators t.lines t.cones right.thing.kind (of ∙ e) x (all_at (λ (y : Row). length y ≡ t.cols) i placed.cols) (placed_inside t o right.thing right.orders not_fan (HalfSpaces E A) bound U' placed x i));
      not_zero = primitive_some U' placed.primitive;
    }

    vertices_follow : Right Vertices (matrix (cols_over v.cols rows) rows) t o (objective_of t (place_of v.sub Vertices)) × IsCanonical v.kind Vertices (matrix (cols_over v.cols rows) rows) t
    vertices_follow =
        let (s, rf) = read_right Facets v.facts (matrix halves.second_cols halves.second_rows) t o halves.reads_second right in
        let (r, rh) = read_right AffineHull v.facts (matrix halves.first_cols halves.first_rows) t o halves.reads_first right in
        let echelon = lineality_primitive t o right.thing right.orders not_fan halves.second_cols halves.first_cols halves.second_rows halves.first_rows (objective_of t s) (objective_of t r) rf rh A E (E ++ A) N P
        halves.second_primitive halves.first_primitive (sym (append-nil (E ++ A))) (subst (λ n. IsNullBasis n (E ++ A) N P) (sym cols) null) in
        let is : EachIs (IsRayRow t) rows U' = subst (EachIs (IsRayRow t) rows) (possible.kept are_rays) (ray_rows t v.of rows U of each) in
        placed_rays t o right.thing right.orders not_fan (HalfSpaces E A) bound v.kind (cols_over v.cols rows) (objective_of t (place_of v.sub Vertices)) rows U' N P no_choice placed echelon is

  pub vertices_sound : (a : FractionMatrix) (old new : DraftSeen) → a ≡ as_put v.cols rows → old ≡ record { kind = v.kind; values = [] }
      → new ≡ record old { values = old.values ++ record { property = Vertices; value = matrix a.cols a.rows } ∷ [] } → IsSound v new
  vertices_sound a old new same empty put =
      sound_one v Vertices (matrix (cols_over v.cols rows) rows) old new
      (subst (λ z. IsPut v Vertices (matrix z.cols z.rows) old new) same (record { targets = targets; empty = empty; put = put })) refl
      (vertices_forms v view rows U few_put possible.may.not_zero each) (put_states v.cols rows) vertices_follow

-- ---- FACETS from sets
module _ (v : ViewSeen) (view : IsView v) (no_fan : ¬ (v.of ≡ Fan)) (targets : v.kind.targets ≡ set_of (Facets ∷ [])) (sources : IsTrue (has v.kind.sources VerticesInFacets)) (L G : List Row) (rays : ReadsParts v LinealitySpace Vertices L G)
    (index : IndexSets) (reads : fact_of VerticesInFacets v.facts ≡ Some (sets index.rows index.cols)) (U' N : List Row) (P : List ℕ) (null : IsNullBasis v.cols (L ++ G) N P) (few : AreFewRows v.cols U')
    (found : (F : List Row) → IsOrder v.cols (IsValid v.cols G L) F → IsIncidence F G index.rows → AreCanonicalFor v.cols (IsValid v.cols G L) F U') (U : List Row) (possible : ArePossibleFacets U' U) (range : All (All InRange) U) where
  no_facet_choice : ¬ (IsFresh facets_tag v.kind)
  no_facet_choice fresh = true≢false (fresh.sources VerticesInFacets sources)

  few_facets : AreFewRows v.cols U
  few_facets = possible_few v U' U few possible

  facets_follow : (t : Thing) (o : Orders) → t.of ≡ v.of → t.cols ≡ v.cols → RightAll v.facts t o
      → Right Facets (matrix (cols_over v.cols (map ratios U)) (map ratios U)) t o (objective_of t (place_of v.sub Facets)) × IsCanonical v.kind Facets (matrix (cols_over v.cols (map ratios U)) (map ratios U)) t
  facets_follow t o of cols right =
      let none : ¬ (t.of ≡ Fan) = λ e. no_fan (sym of ∙ e) in
      let same = generated v LinealitySpace Vertices L G refl refl rays t o right none in
      let (s, rv) = read_right Vertices v.facts (matrix rays.second_cols rays.second_rows) t o rays.reads_second right in
      let (r, rl) = read_right LinealitySpace v.facts (matrix rays.first_cols rays.first_rows) t o rays.reads_first right in
      let (q, rs) = read_right VerticesInFacets v.facts (sets index.rows index.cols) t o reads right in
      let here = sets_of_rays t o right.thing right.orders none rays.second_cols index.cols rays.second_rows index.rows (objective_of t s) (objective_of t q) G rv rs (primitive_stand rays.second_rows G rays.second_primitive) in
      let order = subst (λ n. IsOrder n (IsValid n G L) o.facets) cols (facets_order t o right.thing right.orders none G L same) in
      let c : AreCanonicalFor t.cols (IsValid t.cols G L) o.facets U' = subst (λ n. AreCanonicalFor n (IsValid n G L) o.facets U') (sym cols) (found o.facets order here) in
      let echelon = hull_primitive t o right.thing right.orders none rays.second_cols rays.first_cols rays.second_rows rays.first_rows (objective_of t s) (objective_of t r) rv rl G L (L ++ G) N P
      rays.second_primitive rays.first_primitive (sym (append-nil (L ++ G))) (subst (λ n. IsNullBasis n (L ++ G) N P) (sym cols) null) in
      let is : U ≡ U' = possible.kept (primitive_some U' c.primitive) in
      let placed : ArePlaced t.cols (IsValid t.cols G L) o.facets U' = record { cols = subst (λ n. HasCols n U') (sym cols) few.cols; order = c.order; primitive = c.primitive; reduced = c.reduced } in
      placed_facets t o right.thing right.orders none G L same v.kind (cols_over v.cols (map ratios U)) (objective_of t (place_of v.sub Facets)) U N P no_facet_choice (subst (ArePlaced t.cols (IsValid t.cols G L) o.facets) (sym is) placed) echelon

  pub facets_from_sets_sound : (a : FractionMatrix) (old new : DraftSeen) → a ≡ as_put v.cols (map ratios U) → old ≡ record { kind = v.kind; values = [] }
      → new ≡ record old { values = old.values ++ record { property = Facets; value = matrix a.cols a.rows } ∷ [] } → IsSound v new
  facets_from_sets_sound a old new same empty put =
      sound_one v Facets (matrix (cols_over v.cols (map ratios U)) (map ratios U)) old new
      (subst (λ z. IsPut v Facets (matrix z.cols z.rows) old new) same (record { targets = targets; empty = empty; put = put })) refl
      (facets_forms v.of v.cols U (ratios_columned v.cols U view.some_cols view.few_cols few_facets.few few_facets.cols) range possible.may) (put_states v.cols (map ratios U)) facets_follow
