-- What the clients that place rays put is sound, and how they fail.
use Rattle.pm_vector.specs.Numbers.{InRange}
use Rattle.pm_vector.specs.Rows.{Row}
use Rattle.pm_beneath.specs.Placed.{IsShownPlace}
use Rattle.pm_beneath.specs.declared.fails.PlaceFail.{PlaceFail}
use Rattle.pm_beneath.specs.declared.fails.PlaceFail.TheVariants as place
use Rattle.pm_client.proofs.Drafts.{put}
use Rattle.pm_client.proofs.Failing.{fails_by_parts}
use Rattle.pm_client.proofs.FreshOrders.{fresh_facets, fresh_kind}
use Rattle.pm_client.proofs.PlainValues.{Follows, plain_form, sound_plain}
use Rattle.pm_client.proofs.Puts.{AreFormed, AreRight, IsPut, put_more, sound_alone}
use Rattle.pm_client.proofs.ReadValues.{read_right}
use Rattle.pm_client.proofs.ViewLaws.{has_listed, not_fan, target_named}
use Rattle.pm_client.specs.Sound.{AreParts, FailsRightly, IsSound}
use Rattle.pm_clients_geom.proofs.FoundHulls.{AreFacetsOf, generated, hull_formed, hull_found, hull_puts, lines_few, primitive_some, with_facets}
use Rattle.pm_clients_geom.specs.Hulls.{AreFewRows}
use Rattle.pm_clients_geom.specs.PlacedRays.{ArePlaced, PlacesRays, fail_of_place}
use Rattle.pm_dd.specs.declared.fails.DdFail.TheVariants as double
use Rattle.pm_geom.specs.Cones.{IsValid}
use Rattle.pm_geom.specs.Things.{Orders}
use Rattle.pm_geom.specs.declared.evidence.Evidence.{Evidence}
use Rattle.pm_geom.specs.declared.evidence.Evidence.TheVariants.{E1, E2, E3, E4, E5Cells, E5Faces, E5Rays, E5Rows}
use Rattle.pm_object.specs.Reading.{DraftSeen, IsView, Put, ViewSeen}
use Rattle.pm_object_type.specs.declared.object_type.ObjectType.TheVariants.{Fan}
use Rattle.pm_props.specs.Kinds.{IsFresh}
use Rattle.pm_props.specs.Places.{place_of}
use Rattle.pm_props.specs.Properties.{facets_tag}
use Rattle.pm_props.specs.Sets.{set_of}
use Rattle.pm_props.specs.declared.property.PropId.TheVariants.{AffineHull, Facets, LinealitySpace, PlacingTriangulation, Vertices}
use Rattle.pm_props.specs.declared.property.PropId.{PropId}
use Rattle.pm_relations.proofs.Hulls.{order_cols}
use Rattle.pm_relations.proofs.PrimitiveStanding.{primitive_stand}
use Rattle.pm_relations.proofs.Standing.{stand_length}
use Rattle.pm_relations.proofs.Triangulations.{placing_is_found}
use Rattle.pm_types.proofs.Indices.{ascending_sets}
use Rattle.pm_geom.specs.Triangulations.{IsTriangulation}
use Rattle.pm_types.specs.Forms.{is_sets_form}
use Rattle.pm_types.specs.Right.{Right, RightAll, objective_of}
use Rattle.pm_types.specs.Things.{Thing}
use Rattle.pm_types.specs.Values.{IndexSets, matrix, sets}
use Rattle.std.proofs.Common.{ap, inl, inr, refl, subst, sym, ◌∙◌}
use Rattle.std.specs.List.{All}
use Rattle.std.specs.Prelude.{List, [], length, true, ◌++◌, ◌∷◌, ◌≡◌}

-- ---- failures
module _ (v : ViewSeen) (first second : PropId) (kind : PlacesRays v.kind first second) (L G : List Row) (parts : AreParts v L G) where
  fails_for_cells : (e : Evidence) → IsShownPlace v.cols L G (place.Many e) → FailsRightly v (fail_of_place (place.Many e))
  fails_for_cells e (inl h) = fails_by_parts v kind.doubles kind.lists L G (double.Many e) parts h
  fails_for_cells (E5Cells front cells) (inr h) = record { named = kind.counts; lines = L; rays = G; read = parts; shown = h }
  fails_for_cells (E1 a) (inr h) = absurd h
  fails_for_cells (E2 a b d e) (inr h) = absurd h
  fails_for_cells (E3 a b d e f) (inr h) = absurd h
  fails_for_cells (E4 a b) (inr h) = absurd h
  fails_for_cells (E5Rays a b) (inr h) = absurd h
  fails_for_cells (E5Rows a) (inr h) = absurd h
  fails_for_cells (E5Faces a) (inr h) = absurd h

  pub fails_by_placing : (f : PlaceFail) → IsShownPlace v.cols L G f → FailsRightly v (fail_of_place f)
  fails_by_placing (place.Wide e) h = fails_by_parts v kind.doubles kind.lists L G (double.Wide e) parts h
  fails_by_placing (place.Many e) h = fails_for_cells e h
  fails_by_placing place.Memory h = tt

-- ---- the cells as a value
-- of the rays and lines that were read
pub placing_right : (v : ViewSeen) → ¬ (v.of ≡ Fan) → (L G F H : List Row) (T : IndexSets) → ArePlaced v LinealitySpace Vertices L G F H T → Follows v PlacingTriangulation (sets T.rows T.cols)
placing_right v no_fan L G F H T p t o of cols right c =
    let read = p.read in
    let (s, rv) = read_right Vertices v.facts (matrix read.second_cols read.second_rows) t o read.reads_second right in
    let (r, rl) = read_right LinealitySpace v.facts (matrix read.first_cols read.first_rows) t o read.reads_first right in
    let stand = primitive_stand read.second_rows G read.second_primitive in
    subst (λ k. Right PlacingTriangulation (sets T.rows k) t o c) (sym (stand_length read.second_rows G stand) ∙ sym p.cols)
    (placing_is_found t o right.thing right.orders (λ e. no_fan (sym of ∙ e)) read.second_cols read.first_cols read.second_rows read.first_rows (objective_of t s) (objective_of t r) c rv rl G L
    stand (primitive_stand read.first_rows L read.first_primitive) T.rows p.different (subst (λ k. IsTriangulation k G L T.rows) (sym cols) p.triangulation))

cells_formed : (v : ViewSeen) (first second : PropId) (L G F H : List Row) (T : IndexSets) → ArePlaced v first second L G F H T → is_sets_form T.rows T.cols ≡ true
cells_formed v first second L G F H T p = subst (λ k. is_sets_form T.rows k ≡ true) (sym p.cols) (ascending_sets (length G) T.rows p.few_cells p.few_rays p.ascending)

-- PLACING_TRIANGULATION alone
pub placing_sound : (v : ViewSeen) → IsView v → v.kind.targets ≡ set_of (PlacingTriangulation ∷ []) → (L G F H : List Row) (T : IndexSets) → ArePlaced v LinealitySpace Vertices L G F H T → (old new : DraftSeen) → IsPut v PlacingTriangulation (sets T.rows T.cols) old new → IsSound v new
placing_sound v view targets L G F H T p old new put =
    let no_fan : ¬ (v.of ≡ Fan) = not_fan v PlacingTriangulation view (target_named v.kind PlacingTriangulation (has_listed v.kind.targets (PlacingTriangulation ∷ []) PlacingTriangulation targets)) refl refl in
    sound_plain v PlacingTriangulation (sets T.rows T.cols) old new refl refl (cells_formed v LinealitySpace Vertices L G F H T p) put (placing_right v no_fan L G F H T p)

-- ---- with FACETS and AFFINE_HULL
module _ (v : ViewSeen) (view : IsView v) (kind : PlacesRays v.kind LinealitySpace Vertices) (targets : v.kind.targets ≡ set_of (Facets ∷ AffineHull ∷ PlacingTriangulation ∷ [])) (L G F H : List Row) (T : IndexSets) (p : ArePlaced v LinealitySpace Vertices L G F H T) (range : All (All InRange) F) (range_hull : All (All InRange) H) where
  no_fan : ¬ (v.of ≡ Fan)
  no_fan = not_fan v Facets view (target_named v.kind Facets (has_listed v.kind.targets (Facets ∷ AffineHull ∷ PlacingTriangulation ∷ []) Facets targets)) refl refl

  is_fresh : IsFresh facets_tag v.kind
  is_fresh = fresh_kind facets_tag v.kind (Facets ∷ AffineHull ∷ PlacingTriangulation ∷ []) (Vertices ∷ LinealitySpace ∷ []) Facets targets kind.sources refl refl refl

  found : (t : Thing) (o : Orders) → t.of ≡ v.of → t.cols ≡ v.cols → RightAll v.facts t o → AreFacetsOf t v.cols F H
  found t o of cols right = record { rays = G; lines = L; facets = p.facets; same = generated v LinealitySpace Vertices L G refl refl p.read t o right (λ e. no_fan (sym of ∙ e)) }

  few : AreFewRows v.cols F
  few = record { cols = order_cols v.cols (IsValid v.cols G L) F p.facets.order; few = p.few_facets }

  few_hull : AreFewRows v.cols H
  few_hull = lines_few v view (IsValid v.cols G L) F H p.facets

  abbrev three_puts : List Put
  three_puts = hull_puts v F H ++ put PlacingTriangulation (sets T.rows T.cols) ∷ []

  three_formed : AreFormed v three_puts
  three_formed =
      let h = hull_formed v view no_fan F F H found (λ z. refl) few few_hull (primitive_some F p.facets.primitive) range range_hull in
      (h.0, (h.1.0, ((plain_form v.of v.cols PlacingTriangulation (sets T.rows T.cols) refl refl (cells_formed v LinealitySpace Vertices L G F H T p), refl), tt)))

  three_right : AreRight v three_puts
  three_right t o of cols right meets =
      let w = hull_found v view no_fan F F H found (λ z. refl) few few_hull (primitive_some F p.facets.primitive) range range_hull t o of cols right in
      let cells = placing_right v no_fan L G F H T p t o of cols right (objective_of t (place_of v.sub PlacingTriangulation)) in
      fresh_facets v (hull_puts v F H ++ put PlacingTriangulation (sets T.rows T.cols) ∷ []) t o (with_facets o F) view.only w.0 right (w.1.0, (w.1.1.0, (record { right = cells; canonical = tt }, tt))) is_fresh refl

  pub three_sound : (old mid new : DraftSeen) → old ≡ record { kind = v.kind; values = [] } → mid ≡ record { kind = old.kind; values = hull_puts v F H }
      → new ≡ record mid { values = mid.values ++ record { property = PlacingTriangulation; value = sets T.rows T.cols } ∷ [] } → IsSound v new
  three_sound old mid new empty hull third =
      sound_alone v three_puts new
      (record { targets = targets; draft = put_more v.kind (hull_puts v F H) (put PlacingTriangulation (sets T.rows T.cols)) mid new (hull ∙ ap (λ (d : DraftSeen). record { kind = d.kind; values = hull_puts v F H }) empty) third })
      (refl, (refl, (refl, tt))) three_formed three_right
