-- What the clients of double description put is sound.
use Rattle.pm_vector.proofs.ConeLaws.{in_line}
use Rattle.pm_vector.proofs.Lists.{All_among, Contains_among, all_at, among_All}
use Rattle.pm_vector.proofs.RowLaws.{entry-opposite, length-opposite}
use Rattle.pm_vector.specs.Cones.{InCone}
use Rattle.pm_vector.specs.Divisors.{IsPrimitive}
use Rattle.pm_vector.specs.Numbers.{InRange, Ratio}
use Rattle.pm_vector.specs.Rows.{HasCols, IsZero, Row, entry, opposite}
use Rattle.pm_vector.specs.Bases.{IsEchelonBasis}
use Rattle.pm_client.proofs.Drafts.{put}
use Rattle.pm_client.proofs.FreshOrders.{fresh_facets, fresh_kind, fresh_rays}
use Rattle.pm_client.proofs.Puts.{AreFormed, AreRight, IsRightPut, sound_alone}
use Rattle.pm_client.proofs.ReadValues.{found, read_right}
use Rattle.pm_client.proofs.ViewLaws.{has_listed, not_fan, source_named, target_named}
use Rattle.pm_client.specs.Sound.{AreParts, IsSound, added_rows, are_parts}
use Rattle.pm_clients_geom.proofs.FoundDims.{pair_right}
use Rattle.pm_clients_geom.proofs.PutMatrices.{hull_forms, lineality_forms, put_columned, put_states, ratios_columned, rows_columned}
use Rattle.pm_clients_geom.proofs.PutRays.{primitive_not_zero, ray_form, ray_rows, some_not_zero}
use Rattle.pm_clients_geom.proofs.RowLists.{IsColumned, second_source}
use Rattle.pm_clients_geom.specs.Hulls.{AreFewRows, ArePutGenerators, ArePutRows, FindsFacets, MayGenerate, cut_type}
use Rattle.pm_clients_geom.specs.Lists.{ReadsParts}
use Rattle.pm_clients_geom.specs.Matrices.{AreNotZero, AreRays, MayBeLines}
use Rattle.pm_types.specs.Parts.{cols_over}
use Rattle.pm_clients_geom.specs.Rays.{ArePutRays}
use Rattle.pm_elim.proofs.PrefixLaws.{at_most_columns}
use Rattle.pm_geom.specs.Cones.{IsExtreme, IsValid}
use Rattle.pm_geom.specs.Generators.{AreGenerators}
use Rattle.pm_geom.specs.Things.{Orders}
use Rattle.pm_dd.specs.Hulls.{AreFacets, InConeOf, half_spaces_of}
use Rattle.pm_dd.specs.Fronts.{HalfSpaces}
use Rattle.pm_fraction.specs.Matrices.{IsFraction}
use Rattle.pm_object.specs.Reading.{DraftSeen, IsView, Put, ViewSeen}
use Rattle.pm_props.specs.Kinds.{IsFresh, names_of}
use Rattle.pm_props.specs.Places.{place_of}
use Rattle.pm_props.specs.Properties.{facets_tag, is_generator, is_half_space, rays_tag}
use Rattle.pm_props.specs.Sets.{has, set_of}
use Rattle.pm_props.specs.declared.kind.Kind.{Kind}
use Rattle.pm_object_type.specs.declared.object_type.ObjectType.TheVariants.{Cone, Fan, Polytope}
use Rattle.pm_object_type.specs.declared.object_type.ObjectType.{ObjectType}
use Rattle.pm_props.specs.declared.property.PropId.TheVariants.{AffineHull, Equations, Facets, Inequalities, InputLineality, LinealitySpace, Points, Vertices}
use Rattle.pm_props.specs.declared.property.PropId.{PropId}
use Rattle.pm_relations.proofs.Hulls.{facet_orders, facets_bound, facets_right, hull_right, lines_right, order_cols, points_generate, ray_orders, rays_generate, rays_right, rows_bound}
use Rattle.pm_relations.proofs.PrimitiveStanding.{primitive_stand}
use Rattle.pm_types.specs.Canonical.{EachIs, IsCanonical, IsRayRow}
use Rattle.pm_types.specs.Forms.{FormsIn, HasPrimitiveRow, is_row, is_row_of_entries}
use Rattle.pm_types.specs.Right.{InSet, PairCutsOut, Right, RightAll, RightPair, objective_of}
use Rattle.pm_types.specs.Things.{AreOrders, IsOfType, IsThing, Thing}
use Rattle.pm_types.specs.Values.{matrix}
use Rattle.pm_types.specs.Views.{ratios}
use Rattle.std.proofs.Common.{ap, arith, inl, inr, refl, subst, suc, sym, true, true≢false, ◌∙◌}
use Rattle.std.proofs.lemmas.Bool.{eq-eqb, leb-true}
use Rattle.std.proofs.lemmas.Int.{ints}
use Rattle.std.proofs.lemmas.List.{append-nil}
use Rattle.std.proofs.lemmas.List.Elements.{All-cons, All-nil}
use Rattle.std.specs.List.{All, AllByRecursion, list_all}
use Rattle.std.specs.Prelude.{Bool, IsTrue, List, [], false, length, map, not, ℕ, ◌++◌, ◌↔◌, ◌∷◌, ◌≡◌, ◌≤◌, ◌⊎◌}
use lib.IntN.{neg_ℤ, pos, ℤ}
use lib.Signed.{◌≤ℤ◌}
use Rattle.pm_limits.specs.Limits.{most_columns, most_rows}

-- ---- what was read
-- the two parts as those of a row list
pub parts_read : (v : ViewSeen) (first second : PropId) (L G : List Row) → IsTrue (are_parts first second) → ReadsParts v first second L G → AreParts v L (G ++ added_rows v.of v.cols second)
parts_read v first second L G parts read = record {
  first = first;
  second = second;
  parts = parts;
  read = record {
    first_cols = read.first_cols;
    second_cols = read.second_cols;
    first_rows = read.first_rows;
    second_rows = read.second_rows;
    reads_first = read.reads_first;
    reads_second = read.reads_second;
    ys = G;
    first_primitive = read.first_primitive;
    second_primitive = read.second_primitive;
    added = refl;
  };
}

-- nothing is added to points, rays and facets
none_added : (of : ObjectType) (n : ℕ) (first second : PropId) → IsTrue (are_parts first second) → IsTrue (is_generator second) → added_rows of n second ≡ []
none_added Polytope n first Points parts gen = refl
none_added Polytope n first Vertices parts gen = refl
none_added Polytope n first Inequalities parts gen = absurd (true≢false (sym gen))
none_added Polytope n first q parts gen = refl
none_added Cone n first q parts gen = refl
none_added Fan n first q parts gen = refl

pub parts_of_generators : (v : ViewSeen) (first second : PropId) (L G : List Row) → IsTrue (are_parts first second) → IsTrue (is_generator second) → ReadsParts v first second L G → AreParts v L G
parts_of_generators v first second L G parts gen read =
    subst (AreParts v L) (append-nil G) (subst (λ z. AreParts v L (G ++ z)) (none_added v.of v.cols first second parts gen) (parts_read v first second L G parts read))

pub no_facet_added : (of : ObjectType) (n : ℕ) → added_rows of n Facets ≡ []
no_facet_added Polytope n = refl
no_facet_added Cone n = refl
no_facet_added Fan n = refl

pub parts_of_facets : (v : ViewSeen) (L G : List Row) → ReadsParts v AffineHull Facets L G → AreParts v L G
parts_of_facets v L G read =
    subst (AreParts v L) (append-nil G) (subst (λ z. AreParts v L (G ++ z)) (no_facet_added v.of v.cols) (parts_read v AffineHull Facets L G refl read))

half_spaces : (of : ObjectType) (n : ℕ) (G : List Row) → ¬ (of ≡ Fan) → G ++ added_rows of n Inequalities ≡ half_spaces_of of n G
half_spaces Polytope n G none = refl
half_spaces Cone n G none = append-nil G
half_spaces Fan n G none = absurd (none refl)

pub parts_of_rows : (v : ViewSeen) (L G : List Row) → ¬ (v.of ≡ Fan) → ReadsParts v Equations Inequalities L G → AreParts v L (half_spaces_of v.of v.cols G)
parts_of_rows v L G none read = subst (AreParts v L) (half_spaces v.of v.cols G none) (parts_read v Equations Inequalities L G refl read)

-- half-spaces are inequalities or facets
pub halves_are : (first second : PropId) → IsTrue (are_parts first second) → IsTrue (is_half_space second) → ((first ≡ Equations) × (second ≡ Inequalities)) ⊎ ((first ≡ AffineHull) × (second ≡ Facets))
halves_are Equations Inequalities parts half = inl (refl, refl)
halves_are AffineHull Facets parts half = inr (refl, refl)
halves_are InputLineality Points parts half = absurd (true≢false (sym half))
halves_are LinealitySpace Vertices parts half = absurd (true≢false (sym half))
halves_are first second parts half = absurd (true≢false (sym parts))

-- the same for either, as they are taken
pub parts_of_halves : (v : ViewSeen) (first second : PropId) (L G : List Row) → IsTrue (are_parts first second) → IsTrue (is_half_space second) → ¬ (v.of ≡ Fan) → ReadsParts v first second L G → AreParts v L (half_spaces_of (cut_type second v.of) v.cols G)
parts_of_halves v first second L G parts half none read = elim (halves_are first second parts half) [
  | inl e ↦ subst (λ q. AreParts v L (half_spaces_of (cut_type q v.of) v.cols G)) (sym e.1) (parts_of_rows v L G none (subst (λ q. ReadsParts v Equations q L G) e.1 (subst (λ p. ReadsParts v p second L G) e.0 read)))
  | inr e ↦ subst (λ q. AreParts v L (half_spaces_of (cut_type q v.of) v.cols G)) (sym e.1) (parts_of_facets v L G (subst (λ q. ReadsParts v AffineHull q L G) e.1 (subst (λ p. ReadsParts v p second L G) e.0 read)))
]

-- points or rays with their lines generate what is right
pub generated : (v : ViewSeen) (first second : PropId) (L G : List Row) → IsTrue (are_parts first second) → IsTrue (is_generator second) → ReadsParts v first second L G → (t : Thing) (o : Orders) → RightAll v.facts t o → ¬ (t.of ≡ Fan)
    → (x : Row) → length x ≡ t.cols → InSet t x ↔ InCone G L x
generated v InputLineality Points L G parts gen read t o right none =
    points_generate t o right.thing read.second_rows read.first_rows (pair_right v read.second_cols read.first_cols read.second_rows read.first_rows t o read.reads_second read.reads_first right) G L
    (primitive_stand read.second_rows G read.second_primitive) (primitive_stand read.first_rows L read.first_primitive)
generated v LinealitySpace Vertices L G parts gen read t o right none =
    let (s, rv) = read_right Vertices v.facts (matrix read.second_cols read.second_rows) t o read.reads_second right in
    let (r, rl) = read_right LinealitySpace v.facts (matrix read.first_cols read.first_rows) t o read.reads_first right in
    rays_generate t o right.thing right.orders none read.second_cols read.first_cols read.second_rows read.first_rows (objective_of t s) (objective_of t r) rv rl G L
    (primitive_stand read.second_rows G read.second_primitive) (primitive_stand read.first_rows L read.first_primitive)
generated v Equations Inequalities L G parts gen read t o right none = absurd (true≢false (sym gen))
generated v AffineHull Facets L G parts gen read t o right none = absurd (true≢false (sym gen))
generated v p q L G parts gen read t o right none = absurd (true≢false (sym parts))

-- no part of such a row list has the tag of facets
pub none_of_facets : (first second : PropId) → IsTrue (are_parts first second) → IsTrue (is_generator second) → list_all (λ q. not (facets_tag q)) (second ∷ first ∷ []) ≡ true
none_of_facets InputLineality Points parts gen = refl
none_of_facets LinealitySpace Vertices parts gen = refl
none_of_facets Equations Inequalities parts gen = absurd (true≢false (sym gen))
none_of_facets AffineHull Facets parts gen = absurd (true≢false (sym gen))
none_of_facets p q parts gen = absurd (true≢false (sym parts))

-- ---- few rows
pub rays_few : (n : ℕ) (S : Row → Type 0) (V K : List Row) → AreGenerators n S V K → length V ≤ most_rows → AreFewRows n V
rays_few n S V K g l = record { cols = order_cols n S V g.order; few = l }

pub echelon_few : (v : ViewSeen) → IsView v → (K : List Row) (P : List ℕ) → IsEchelonBasis v.cols K P → AreFewRows v.cols K
echelon_few v view K P echelon = record { cols = echelon.cols; few = let l = at_most_columns v.cols K P echelon in let f = leb-true v.cols most_columns view.few_cols in omega arith }

pub lines_few : (v : ViewSeen) → IsView v → (S : Row → Type 0) (V K : List Row) → AreGenerators v.cols S V K → AreFewRows v.cols K
lines_few v view S V K g = echelon_few v view K g.pivots g.basis.echelon

-- ---- forms
facet_row : (of : ObjectType) (x : Row) → ¬ (IsZero x) → is_row of Facets (ratios x) ≡ true
facet_row Polytope x p = rw (some_not_zero x p) refl
facet_row Cone x p = rw (some_not_zero x p) refl
facet_row Fan x p = rw (some_not_zero x p) refl

first_of_all : {X : Type 0} (P : X → Type 0) (x : X) (xs : List X) → All P (x ∷ xs) → P x × All P xs
first_of_all P x xs h = (h 0 x (omega arith), λ i d l. h (suc i) d (omega arith))

facet_rows : (of : ObjectType) (F : List Row) → AreNotZero F → list_all (is_row of Facets) (map ratios F) ≡ true
facet_rows of [] h = refl
facet_rows of (x ∷ F) h = let (p, q) = first_of_all (λ y. ¬ (IsZero y)) x F h in rw (facet_row of x p, facet_rows of F q) refl

pub facets_forms : (of : ObjectType) (n : ℕ) (F : List Row) → IsColumned n (cols_over n (map ratios F)) (map ratios F) → All (All InRange) F → AreNotZero F → FormsIn of n Facets (matrix (cols_over n (map ratios F)) (map ratios F))
facets_forms of n F c range some = let h = hull_forms of n F c range in record { formed = c.0; columns = c.1; rows = facet_rows of F some; entries = h.entries; primitive = h.primitive }

-- primitive rows are not zero
pub primitive_some : (F : List Row) → All IsPrimitive F → AreNotZero F
primitive_some F h = All_among (λ (x : Row). ¬ (IsZero x)) F (λ x i. primitive_not_zero x (among_All IsPrimitive i h))

-- some rows generate the thing, and have the facet rows F and the rows H that vanish
pub record AreFacetsOf (t : Thing) (n : ℕ) (F H : List Row) : Type 0 where
  pub rays : List Row
  pub lines : List Row
  pub facets : AreFacets n rays lines F H
  pub same : (x : Row) → length x ≡ t.cols → InSet t x ↔ InCone rays lines x

-- ---- FACETS and AFFINE_HULL, where the rows that were read say which these are; F are the facet rows F', or none where no thing has those
abbrev pub hull_puts : ViewSeen → List Row → List Row → List Put
hull_puts v F H = put Facets (matrix (cols_over v.cols (map ratios F)) (map ratios F)) ∷ put AffineHull (matrix (cols_over v.cols (map ratios H)) (map ratios H)) ∷ []

-- the orders with the facets F
abbrev pub with_facets : Orders → List Row → Orders
with_facets o F = record { rays = o.rays; facets = F; cones = o.cones }

module _ (v : ViewSeen) (view : IsView v) (no_fan : ¬ (v.of ≡ Fan)) (F' F H : List Row)
    (found : (t : Thing) (o : Orders) → t.of ≡ v.of → t.cols ≡ v.cols → RightAll v.facts t o → AreFacetsOf t v.cols F' H)
    (kept : AreNotZero F' → F ≡ F') (few : AreFewRows v.cols F) (few_hull : AreFewRows v.cols H) (not_zero : AreNotZero F) (range : All (All InRange) F) (range_hull : All (All InRange) H) where
  pub hull_formed : AreFormed v (hull_puts v F H)
  hull_formed = (
    (facets_forms v.of v.cols F (ratios_columned v.cols F view.some_cols view.few_cols few.few few.cols) range not_zero, put_states v.cols (map ratios F)),
    ((hull_forms v.of v.cols H (ratios_columned v.cols H view.some_cols view.few_cols few_hull.few few_hull.cols) range_hull, put_states v.cols (map ratios H)), tt),
  )

  pub hull_found : (t : Thing) (o : Orders) → t.of ≡ v.of → t.cols ≡ v.cols → RightAll v.facts t o → AreOrders t (with_facets o F) × AllByRecursion (IsRightPut v t (with_facets o F)) (hull_puts v F H)
  hull_found t o of cols right =
      let none : ¬ (t.of ≡ Fan) = λ e. no_fan (sym of ∙ e) in
      let w = found t o of cols right in
      let same = w.same in
      let is : F' ≡ F = sym (kept (primitive_some F' w.facets.primitive)) in
      let found' : AreGenerators t.cols (IsValid t.cols w.rays w.lines) F H = subst (λ (X : List Row). AreGenerators t.cols (IsValid t.cols w.rays w.lines) X H) is (subst (λ n. AreGenerators n (IsValid n w.rays w.lines) F' H) (sym cols) w.facets) in
      let f = facets_right t o right.thing right.orders none w.rays w.lines F H same found' v.kind (cols_over v.cols (map ratios F)) (objective_of t (place_of v.sub Facets)) in
      let h = hull_right t o right.thing right.orders none w.rays w.lines F H same found' v.kind (cols_over v.cols (map ratios H)) (with_facets o F) (objective_of t (place_of v.sub AffineHull)) in
      (facet_orders t o right.thing right.orders none w.rays w.lines F H same found', (record { right = f.0; canonical = f.1 }, (record { right = h.0; canonical = h.1 }, tt)))

module _ (v : ViewSeen) (view : IsView v) (targets : v.kind.targets ≡ set_of (Facets ∷ AffineHull ∷ [])) (fresh : IsFresh facets_tag v.kind) (F' F H : List Row)
    (found : (t : Thing) (o : Orders) → t.of ≡ v.of → t.cols ≡ v.cols → RightAll v.facts t o → AreFacetsOf t v.cols F' H)
    (kept : AreNotZero F' → F ≡ F') (few : AreFewRows v.cols F) (few_hull : AreFewRows v.cols H) (not_zero : AreNotZero F) (range : All (All InRange) F) (range_hull : All (All InRange) H) where
  no_fan : ¬ (v.of ≡ Fan)
  no_fan = not_fan v Facets view (target_named v.kind Facets (has_listed v.kind.targets (Facets ∷ AffineHull ∷ []) Facets targets)) refl refl

  abbrev pub facet_puts : List Put
  facet_puts = hull_puts v F H

  facets_formed : AreFormed v facet_puts
  facets_formed = hull_formed v view no_fan F' F H found kept few few_hull not_zero range range_hull

  facets_are_right : AreRight v facet_puts
  facets_are_right t o of cols right meets =
      let w = hull_found v view no_fan F' F H found kept few few_hull not_zero range range_hull t o of cols right in
      fresh_facets v (hull_puts v F H) t o (with_facets o F) view.only w.0 right w.1 fresh refl

  pub facets_sound_as : (new : DraftSeen) → new ≡ record { kind = v.kind; values = facet_puts } → IsSound v new
  facets_sound_as new draft = sound_alone v facet_puts new (record { targets = targets; draft = draft }) (refl, (refl, tt)) facets_formed facets_are_right

-- ---- the same, by double description
module _ (v : ViewSeen) (view : IsView v) (first second : PropId) (kind : FindsFacets v.kind first second) (L G F H : List Row) (read : ReadsParts v first second L G) (facets : AreFacets v.cols G L F H) (few : length F ≤ most_rows) (few_hull : length H ≤ most_rows) where
  is_fresh : IsFresh facets_tag v.kind
  is_fresh = fresh_kind facets_tag v.kind (Facets ∷ AffineHull ∷ []) (second ∷ first ∷ []) Facets kind.targets kind.sources refl refl (none_of_facets first second kind.parts kind.generators)

  pub facets_sound : (old new : DraftSeen) → old ≡ record { kind = v.kind; values = [] } → ArePutRows v.cols F H old new → IsSound v new
  facets_sound old new empty put =
      let no_fan : ¬ (v.of ≡ Fan) = not_fan v Facets view (target_named v.kind Facets (has_listed v.kind.targets (Facets ∷ AffineHull ∷ []) Facets kind.targets)) refl refl in
      facets_sound_as v view kind.targets is_fresh F F H
      (λ t o of cols right. record { rays = G; lines = L; facets = facets; same = generated v first second L G kind.parts kind.generators read t o right (λ e. no_fan (sym of ∙ e)) }) (λ h. refl)
      (record { cols = order_cols v.cols (IsValid v.cols G L) F facets.order; few = few }) (record { cols = facets.basis.echelon.cols; few = few_hull }) (primitive_some F facets.primitive) put.in_range put.hull_in_range
      new (put.draft ∙ ap (λ (d : DraftSeen). record { kind = d.kind; values = hull_puts v F H }) empty)

-- ---- VERTICES
ray_lengths : (of : ObjectType) (n : ℕ) (rows : List (List Ratio)) (X : List Row) → HasCols n X → ArePutRays of rows X → list_all (is_row_of_entries n) rows ≡ true
ray_lengths of n [] [] c h = refl
ray_lengths of n [] (x ∷ X) c h = absurd h
ray_lengths of n (r ∷ rows) [] c h = absurd h
ray_lengths of n (r ∷ rows) (x ∷ X) c h = rw (eq-eqb (length r) n ((ray_form of r x h.0).cols ∙ c.0), ray_lengths of n rows X c.1 h.1) refl

ray_count : (of : ObjectType) (rows : List (List Ratio)) (X : List Row) → ArePutRays of rows X → length rows ≡ length X
ray_count of [] [] h = refl
ray_count of [] (x ∷ X) h = absurd h
ray_count of (r ∷ rows) [] h = absurd h
ray_count of (r ∷ rows) (x ∷ X) h = ap suc (ray_count of rows X h.1)

ray_passes : (of : ObjectType) (rows : List (List Ratio)) (X : List Row) → AreNotZero X → ArePutRays of rows X → list_all (is_row of Vertices) rows ≡ true
ray_passes of [] [] p h = refl
ray_passes of [] (x ∷ X) p h = absurd h
ray_passes of (r ∷ rows) [] p h = absurd h
ray_passes of (r ∷ rows) (x ∷ X) p h = let (q, more) = first_of_all (λ y. ¬ (IsZero y)) x X p in rw ((ray_form of r x h.0).passes q, ray_passes of rows X more h.1) refl

ray_entries : (of : ObjectType) (rows : List (List Ratio)) (X : List Row) → ArePutRays of rows X → All (All IsFraction) rows
ray_entries of [] [] h = All-nil (All IsFraction)
ray_entries of [] (x ∷ X) h = absurd h
ray_entries of (r ∷ rows) [] h = absurd h
ray_entries of (r ∷ rows) (x ∷ X) h = All-cons (All IsFraction) r rows (ray_form of r x h.0).entries (ray_entries of rows X h.1)

ray_primitive : (of : ObjectType) (rows : List (List Ratio)) (X : List Row) → ArePutRays of rows X → All HasPrimitiveRow rows
ray_primitive of [] [] h = All-nil HasPrimitiveRow
ray_primitive of [] (x ∷ X) h = absurd h
ray_primitive of (r ∷ rows) [] h = absurd h
ray_primitive of (r ∷ rows) (x ∷ X) h = All-cons HasPrimitiveRow r rows (ray_form of r x h.0).primitive (ray_primitive of rows X h.1)

pub vertices_forms : (v : ViewSeen) → IsView v → (rows : List (List Ratio)) (X : List Row) → AreFewRows v.cols X → AreNotZero X → ArePutRays v.of rows X → FormsIn v.of v.cols Vertices (matrix (cols_over v.cols rows) rows)
vertices_forms v view rows X few some each =
    let c = put_columned v.cols v.cols rows (rows_columned v.cols rows view.some_cols view.few_cols (let e = ray_count v.of rows X each in let l = few.few in omega arith) (ray_lengths v.of v.cols rows X few.cols each)) in
    record { formed = c.0; columns = c.1; rows = ray_passes v.of rows X some each; entries = ray_entries v.of rows X each; primitive = ray_primitive v.of rows X each }

-- ---- the rays and lines of a polytope
pub first_of : (of : ObjectType) (n : ℕ) (G L : List Row) (Gs : List (List Row)) → IsOfType of n G L Gs → of ≡ Polytope → (x : Row) → length x ≡ n → InCone G L x → pos 0 ≤ℤ entry x 0
first_of Polytope n G L Gs h e x lx s = h.0.first x lx s
first_of Cone n G L Gs h e x lx s = cc
first_of Fan n G L Gs h e x lx s = cc

both_ways : (a b : ℤ) → pos 0 ≤ℤ a → pos 0 ≤ℤ b → b ≡ neg_ℤ a → a ≡ pos 0
both_ways a b p q e = omega (arith, ints)

may_generate : (of : ObjectType) (t : Thing) (S : Row → Type 0) (V K : List Row) → t.of ≡ of → IsThing t → ((x : Row) → length x ≡ t.cols → InSet t x ↔ S x) → AreGenerators t.cols S V K → MayGenerate of V K
may_generate of t S V K is thing same g = record { rays = rays; lines = lines }
  where
    first_at : of ≡ Polytope → (x : Row) → length x ≡ t.cols → S x → pos 0 ≤ℤ entry x 0
    first_at e x lx s = first_of t.of t.cols t.generators t.lines t.cones thing.kind (is ∙ e) x lx ((same x lx).1 s)

    rays : AreRays of V
    rays = record { before = λ e. first_rays e; not_zero = primitive_some V g.primitive }
      where
        first_rays : of ≡ Polytope → All (λ x. pos 0 ≤ℤ entry x 0) V
        first_rays e = All_among (λ (x : Row). pos 0 ≤ℤ entry x 0) V (λ x i. let r = among_All (λ u. IsExtreme t.cols S u) i g.order.each in first_at e x r.cols r.inside)

    lines : MayBeLines of K
    lines e = All_among (λ (x : Row). entry x 0 ≡ pos 0) K (λ x i.
        let lx = all_at (λ (y : Row). length y ≡ t.cols) i g.basis.echelon.cols in
        let l = (g.basis.lines x lx).1 (in_line i) in
        both_ways (entry x 0) (entry (opposite x) 0) (first_at e x lx l.inside) (first_at e (opposite x) (length-opposite x ∙ lx) l.opposed) (entry-opposite x 0))

-- ---- VERTICES and LINEALITY_SPACE, where the rows that were read describe the cone S
module _ (v : ViewSeen) (view : IsView v) (targets : v.kind.targets ≡ set_of (Vertices ∷ LinealitySpace ∷ [])) (no_fan : ¬ (v.of ≡ Fan)) (fresh : IsFresh rays_tag v.kind) (S : Row → Type 0) (V K : List Row)
    (found : (t : Thing) (o : Orders) → t.of ≡ v.of → t.cols ≡ v.cols → RightAll v.facts t o → AreGenerators v.cols S V K × ((x : Row) → length x ≡ t.cols → InSet t x ↔ S x)) (new : DraftSeen) (h : ArePutGenerators v V K new) where
  ray_puts : List Put
  ray_puts = put Vertices (matrix (cols_over v.cols h.rows) h.rows) ∷ put LinealitySpace (matrix (cols_over v.cols (map ratios h.lines)) (map ratios h.lines)) ∷ []

  rays_formed : AreFormed v ray_puts
  unfolding ray_puts
  rays_formed = (
    (vertices_forms v view h.rows h.rays h.possible.few_rays h.possible.may.rays.not_zero h.each, put_states v.cols h.rows),
    ((lineality_forms v.of v.cols h.lines (ratios_columned v.cols h.lines view.some_cols view.few_cols h.possible.few_lines.few h.possible.few_lines.cols) h.in_range h.possible.may.lines, put_states v.cols (map ratios h.lines)), tt),
  )

  rays_are_right : AreRight v ray_puts
  unfolding ray_puts
  rays_are_right t o of cols right meets =
      let none : ¬ (t.of ≡ Fan) = λ e. no_fan (sym of ∙ e) in
      let w = found t o of cols right in
      let is = w.1 in
      let g' : AreGenerators t.cols S V K = subst (λ n. AreGenerators n S V K) (sym cols) w.0 in
      let kept = h.possible.kept (may_generate v.of t S V K of right.thing is g') in
      let each : EachIs (IsRayRow t) h.rows V = subst (EachIs (IsRayRow t) h.rows) kept.0 (ray_rows t v.of h.rows h.rays of h.each) in
      let o' : Orders = record { rays = V; facets = o.facets; cones = o.cones } in
      let r = rays_right t o right.thing right.orders none S V K is g' v.kind (cols_over v.cols h.rows) h.rows (objective_of t (place_of v.sub Vertices)) each in
      let l = lines_right t o right.thing right.orders none S V K is g' v.kind (cols_over v.cols (map ratios h.lines)) o' (objective_of t (place_of v.sub LinealitySpace)) in
      let lines : map ratios K ≡ map ratios h.lines = ap (map ratios) (sym kept.1) in
      fresh_rays v (put Vertices (matrix (cols_over v.cols h.rows) h.rows) ∷ put LinealitySpace (matrix (cols_over v.cols (map ratios h.lines)) (map ratios h.lines)) ∷ []) t o o' view.only
      (ray_orders t o right.thing right.orders none S V K is g') right (
        record { right = r.0; canonical = r.1 },
        (
          record {
            right = subst (λ z. Right LinealitySpace (matrix (cols_over v.cols (map ratios h.lines)) z) t o' (objective_of t (place_of v.sub LinealitySpace))) lines l.0;
            canonical = subst (λ z. IsCanonical v.kind LinealitySpace (matrix (cols_over v.cols (map ratios h.lines)) z) t) lines l.1;
          },
          tt,
        ),
      ) fresh refl refl

  pub rays_sound : IsSound v new
  unfolding ray_puts
  rays_sound = sound_alone v ray_puts new (record { targets = targets; draft = h.draft }) (refl, (refl, tt)) rays_formed rays_are_right

-- ---- FACETS with AFFINE_HULL, INEQUALITIES with EQUATIONS
module _ (v : ViewSeen) (L G : List Row) (t : Thing) (o : Orders) (of : t.of ≡ v.of) (cols : t.cols ≡ v.cols) (right : RightAll v.facts t o) (no_fan : ¬ (v.of ≡ Fan)) where
  pub by_facets : ReadsParts v AffineHull Facets L G → (x : Row) → length x ≡ t.cols → InSet t x ↔ HalfSpaces L G x
  by_facets read =
      let (s, rf) = read_right Facets v.facts (matrix read.second_cols read.second_rows) t o read.reads_second right in
      let (r, rh) = read_right AffineHull v.facts (matrix read.first_cols read.first_rows) t o read.reads_first right in
      facets_bound t o right.thing right.orders (λ e. no_fan (sym of ∙ e)) read.second_cols read.first_cols read.second_rows read.first_rows (objective_of t s) (objective_of t r) rf rh G L
      (primitive_stand read.second_rows G read.second_primitive) (primitive_stand read.first_rows L read.first_primitive)

  pub rows_pair : (read : ReadsParts v Equations Inequalities L G) → PairCutsOut t read.second_rows read.first_rows
  rows_pair read =
      let (f, i, p, a) = found Inequalities v.facts (matrix read.second_cols read.second_rows) read.reads_second in
      let (g, j, q, b) = found Equations v.facts (matrix read.first_cols read.first_rows) read.reads_first in
      let both = right.together f g (Contains_among i) (Contains_among j) in
      subst (λ z. RightPair Inequalities (matrix read.second_cols read.second_rows) Equations z t) b
      (subst (λ z. RightPair Inequalities (matrix read.second_cols read.second_rows) z g.value t) q (subst (λ z. RightPair Inequalities z g.property g.value t) a (subst (λ z. RightPair z f.value g.property g.value t) p both)))

  pub by_rows : ReadsParts v Equations Inequalities L G → (x : Row) → length x ≡ t.cols → InSet t x ↔ InConeOf v.of v.cols G L x
  by_rows read x lx =
      subst (λ k. InSet t x ↔ InConeOf v.of k G L x) cols
      (subst (λ k. InSet t x ↔ InConeOf k t.cols G L x) of
      (rows_bound t o right.thing (λ e. no_fan (sym of ∙ e)) read.second_rows read.first_rows (rows_pair read) G L (primitive_stand read.second_rows G read.second_primitive) (primitive_stand read.first_rows L read.first_primitive) x lx))

  pub by_halves : (first second : PropId) → IsTrue (are_parts first second) → IsTrue (is_half_space second) → ReadsParts v first second L G → (x : Row) → length x ≡ t.cols → InSet t x ↔ InConeOf (cut_type second v.of) v.cols G L x
  by_halves first second parts half read x lx = elim (halves_are first second parts half) [
    | inl e ↦ subst (λ q. InSet t x ↔ InConeOf (cut_type q v.of) v.cols G L x) (sym e.1) (by_rows (subst (λ q. ReadsParts v Equations q L G) e.1 (subst (λ p. ReadsParts v p second L G) e.0 read)) x lx)
    | inr e ↦ subst (λ q. InSet t x ↔ InConeOf (cut_type q v.of) v.cols G L x) (sym e.1) (by_facets (subst (λ q. ReadsParts v AffineHull q L G) e.1 (subst (λ p. ReadsParts v p second L G) e.0 read)) x lx)
  ]

-- neither is a fan's
pub halves_of_no_fan : (v : ViewSeen) (first second : PropId) → IsView v → v.kind.sources ≡ set_of (second ∷ first ∷ []) → IsTrue (are_parts first second) → IsTrue (is_half_space second) → ¬ (v.of ≡ Fan)
halves_of_no_fan v first second view sources parts half =
    let named = source_named v.kind second (second_source _ first second sources) in
    elim (halves_are first second parts half) [
      | inl e ↦ not_fan v Inequalities view (subst (λ q. has (names_of v.kind) q ≡ true) e.1 named) refl refl
      | inr e ↦ not_fan v Facets view (subst (λ q. has (names_of v.kind) q ≡ true) e.1 named) refl refl
    ]

-- their rays are new
pub fresh_of_halves : (kind : Kind) (first second : PropId) → kind.targets ≡ set_of (Vertices ∷ LinealitySpace ∷ []) → kind.sources ≡ set_of (second ∷ first ∷ []) → IsTrue (are_parts first second) → IsTrue (is_half_space second) → IsFresh rays_tag kind
fresh_of_halves kind first second targets sources parts half = fresh_kind rays_tag kind (Vertices ∷ LinealitySpace ∷ []) (second ∷ first ∷ []) Vertices targets sources refl refl (elim (halves_are first second parts half) [
  | inl e ↦ rw (e.0, e.1) refl
  | inr e ↦ rw (e.0, e.1) refl
])

is_cone : ObjectType → Bool
is_cone Cone = true
is_cone of = false

cone_is_no_fan : Cone ≡ Fan → ⊥
unfolding is_cone
cone_is_no_fan e = true≢false (ap is_cone e)

pub cut_no_fan : (second : PropId) (of : ObjectType) → ¬ (of ≡ Fan) → ¬ (cut_type second of ≡ Fan)
cut_no_fan Facets of none e = cone_is_no_fan e
cut_no_fan p of none e = none e
