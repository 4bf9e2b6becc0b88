-- What the clients put is right.
use Rattle.pm_vector.proofs.Lists.{Among, among_Contains}
use Rattle.pm_vector.specs.Cones.{InCone}
use Rattle.pm_vector.specs.Numbers.{Ratio}
use Rattle.pm_vector.specs.Rows.{Row, entry}
use Rattle.pm_client.proofs.Puts.{IsPut}
use Rattle.pm_client.specs.Sound.{AreRowsOf, IsSound, ReadsObjective, optimum}
use Rattle.pm_clients_lp.proofs.AlikePlaces.{places_alike}
use Rattle.pm_clients_lp.proofs.Facts.{not_a_fan, objective_cols, objective_is, objective_of_polytope, read_at}
use Rattle.pm_clients_lp.proofs.Greatest.{greatest_as}
use Rattle.pm_clients_lp.proofs.Sense.{ForEach, face_sound, optimum_read, value_sound}
use Rattle.pm_clients_lp.specs.Clients.{face}
use Rattle.pm_clients_lp.specs.Reading.{ArePlacesAt}
use Rattle.pm_geom.specs.Cones.{InLineality}
use Rattle.pm_geom.specs.Faces.{ray}
use Rattle.pm_geom.specs.Things.{Orders}
use Rattle.pm_object.specs.Reading.{DraftSeen, IsView, ViewSeen, fact_of}
use Rattle.pm_object_type.specs.declared.object_type.ObjectType.TheVariants.{Polytope}
use Rattle.pm_props.specs.declared.property.PropId.TheVariants.{LinealitySpace, Vertices}
use Rattle.pm_relations.proofs.FlatLineality.{polytope_lineality_first}
use Rattle.pm_relations.proofs.Hulls.{lines_of, rays_generate}
use Rattle.pm_relations.proofs.PrimitiveStanding.{primitive_stand}
use Rattle.pm_relations.proofs.Spans.{thing_cols}
use Rattle.pm_relations.proofs.Twins.{rays_of}
use Rattle.pm_simplex.proofs.Senses.{objective_length}
use Rattle.pm_simplex.specs.Senses.{IsOptimum, objective_in, value_in}
use Rattle.pm_simplex.specs.declared.sense.Sense.TheVariants.{Maximal, Minimal}
use Rattle.pm_simplex.specs.declared.sense.Sense.{Sense}
use Rattle.pm_types.specs.Views.{extended_of}
use Rattle.pm_types.specs.declared.number.Number.TheVariants as number
use Rattle.pm_types.specs.declared.number.Number.{Number}
use Rattle.pm_types.specs.Forms.{AreFractions, is_counts_form}
use Rattle.pm_types.specs.Programs.{ArePlacesOfValue, HasExtendedAt}
use Rattle.pm_types.specs.Right.{InSet, RightAll, objective_of}
use Rattle.pm_types.specs.Things.{Thing}
use Rattle.pm_types.specs.Values.{Extended, counts, extended, matrix, minus_infinity, plus_infinity}
use Rattle.std.proofs.Common.{arith, refl, subst, sym, true, ◌∙◌}
use Rattle.std.specs.Prelude.{List, [], Some, length, ℕ, ◌↔◌, ◌≡◌}
use lib.IntN.{pos, ℤ}

-- an optimum on a set that has the rows of the thing is the thing's
pub optimum_as : (v : ViewSeen) (view : IsView v) (c : List Ratio) (reads : ReadsObjective v c) (sense : Sense) (x : Extended) (S : Row → Type 0) → IsOptimum sense S c x
    → ((t : Thing) (o : Orders) → t.of ≡ v.of → t.cols ≡ v.cols → RightAll v.facts t o → (y : Row) → length y ≡ t.cols → InSet t y ↔ S y) → ForEach v (λ t o d. IsOptimum sense (InSet t) d x)
optimum_as v view c reads sense x S optimal same t o of cols right =
    let (hg, hl) = thing_cols t right.thing in
    let n : length (objective_in sense c) ≡ t.cols = objective_length sense c ∙ objective_cols v view c reads ∙ sym cols in
    subst (λ d. IsOptimum sense (InSet t) d x) (objective_is v view c reads t o right)
    (greatest_as t.cols t.generators t.lines hg hl S (same t o of cols right) (objective_in sense c) n (value_in sense x) optimal)

-- ---- at rays
module _ (v : ViewSeen) (view : IsView v) (c : List Ratio) (reads : ReadsObjective v c) (V : List Row) (rays : AreRowsOf v Vertices V) where
  -- right VERTICES and LINEALITY_SPACE generate the thing
  rays_same : (L : List Row) → AreRowsOf v LinealitySpace L → (t : Thing) (o : Orders) → t.of ≡ v.of → t.cols ≡ v.cols → RightAll v.facts t o → (y : Row) → length y ≡ t.cols → InSet t y ↔ InCone V L y
  rays_same L lines t o of cols right =
      rays_generate t o right.thing right.orders (not_a_fan (of ∙ objective_of_polytope v view c reads)) rays.cols lines.cols rays.rows lines.rows [] []
      (read_at v view Vertices (matrix rays.cols rays.rows) rays.reads t o right) (read_at v view LinealitySpace (matrix lines.cols lines.rows) lines.reads t o right) V L
      (primitive_stand rays.rows V rays.primitive) (primitive_stand lines.rows L lines.primitive)

  pub rays_sound : (L : List Row) → AreRowsOf v LinealitySpace L → (sense : Sense) (x : Extended) → IsOptimum sense (InCone V L) c x → AreFractions (extended x) → (old new : DraftSeen) → IsPut v (optimum sense) (extended x) old new → IsSound v new
  rays_sound L lines sense x optimal fractions old new put = value_sound v old new sense x fractions put (optimum_as v view c reads sense x (InCone V L) optimal (rays_same L lines))

-- ---- the rays at an optimum
-- no ray is at an infinity
pub none_at : (v : ViewSeen) (sense : Sense) (x : Number) → ((q : Ratio) → ¬ (x ≡ number.Finite q)) → (V : List Row) → AreRowsOf v Vertices V → (c : List Ratio) → ReadsObjective v c → ArePlacesAt v sense (extended_of x) []
none_at v sense x other V rays c reads = record { rays = V; reads_rays = rays; objective = c; reads_objective = reads; places = by sense x other }
  where
    none : (s : Sense) (e : Extended) → ((r : Row) → ¬ (HasExtendedAt (objective_in s c) e r)) → ArePlacesOfValue (objective_in s c) e V []
    none s e never = record { js = []; places = refl; ascending = λ i j d l m. absurd (omega arith); each = λ j. (λ i. absurd (nowhere (among_Contains [] i)), λ w. absurd (never (ray V j) w.1)) }
      where
        nowhere : {j : ℕ} → Among j [] → ⊥
        nowhere i = elim i [ ]

    by : (s : Sense) (y : Number) → ((q : Ratio) → ¬ (y ≡ number.Finite q)) → ArePlacesOfValue (objective_in s c) (value_in s (extended_of y)) V []
    by s (number.Finite q) never = absurd (never q refl)
    by Maximal number.Plus never = none Maximal plus_infinity (λ r h. h)
    by Maximal number.Minus never = none Maximal minus_infinity (λ r h. h)
    by Minimal number.Plus never = none Minimal minus_infinity (λ r h. h)
    by Minimal number.Minus never = none Minimal plus_infinity (λ r h. h)

flat_of : (t : Thing) (o : Orders) (facts : List Rattle.pm_types.specs.Values.Fact) → t.of ≡ Polytope → RightAll facts t o → (x : Row) → length x ≡ t.cols → InLineality (InCone t.generators t.lines) x → entry x 0 ≡ pos 0
flat_of t o facts polytope right x lx h = polytope_lineality_first t right.thing polytope x lx ((lines_of t.of t.generators t.lines (not_a_fan polytope) x).0 h)

pub places_sound : (v : ViewSeen) (view : IsView v) (sense : Sense) (x : Extended) → fact_of (optimum sense) v.facts ≡ Some (extended x) → (ks : List ℤ) → ArePlacesAt v sense x ks → is_counts_form ks ≡ true → (old new : DraftSeen) → IsPut v (face sense) (counts ks) old new → IsSound v new
places_sound v view sense x read ks at form old new put =
    face_sound v old new sense ks form put (λ t o of cols right.
    let polytope = of ∙ objective_of_polytope v view at.objective at.reads_objective in
    let greatest = optimum_read v view sense x read t o of cols right in
    let rv = read_at v view Vertices (matrix at.reads_rays.cols at.reads_rays.rows) at.reads_rays.reads t o right in
    let places : ArePlacesOfValue (objective_in sense (objective_of t v.sub)) (value_in sense x) at.rays ks = subst (λ d. ArePlacesOfValue (objective_in sense d) (value_in sense x) at.rays ks) (objective_is v view at.objective at.reads_objective t o right) at.places in
    record {
      value = value_in sense x;
      greatest = greatest;
      holds = places_alike t.cols t.generators t.lines (flat_of t o v.facts polytope right) (objective_in sense (objective_of t v.sub)) (value_in sense x) greatest o.rays rv.xs at.rays at.reads_rays.rows
          (rays_of t.of t.cols t.generators t.lines o.rays rv.xs (not_a_fan polytope) rv.order) rv.stand (primitive_stand at.reads_rays.rows at.rays at.reads_rays.primitive) ks places;
    })
