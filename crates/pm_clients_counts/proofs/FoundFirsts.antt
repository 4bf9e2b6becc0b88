-- What follows from first entries: whether a polytope is bounded or centered, and its far face.
use Rattle.pm_vector.specs.Numbers.{Ratio}
use Rattle.pm_client.proofs.PlainValues.{sound_counts, sound_truth}
use Rattle.pm_client.proofs.Puts.{IsPut}
use Rattle.pm_client.proofs.ReadValues.{read_right}
use Rattle.pm_client.specs.Sound.{IsSound}
use Rattle.pm_clients_counts.specs.Places.{AreZeroPlaces}
use Rattle.pm_object.specs.Reading.{DraftSeen, ViewSeen, fact_of}
use Rattle.pm_object_type.specs.declared.object_type.ObjectType.TheVariants.{Fan, Polytope}
use Rattle.pm_object_type.specs.declared.object_type.ObjectType.{ObjectType}
use Rattle.pm_props.specs.declared.property.PropId.TheVariants.{AffineHull, Bounded, Centered, Facets, FarFace, LinealitySpace, Vertices}
use Rattle.pm_relations.proofs.FirstEntries.{bounded_is_found, centered_is_found, far_face_is_found}
use Rattle.pm_relations.specs.FirstEntries.{HasPositiveFirst, HasZeroFirst}
use Rattle.pm_types.specs.Forms.{is_counts_form}
use Rattle.pm_types.specs.Right.{Right, objective_of}
use Rattle.pm_types.specs.Values.{counts, matrix, truth}
use Rattle.std.proofs.Common.{refl, subst, sym, true, ◌∙◌}
use Rattle.std.specs.List.{All}
use Rattle.std.specs.Prelude.{Bool, IsTrue, List, Some, [], length, ℕ, ◌↔◌, ◌≡◌}
use lib.IntN.{ℤ}

not_a_fan : (of : ObjectType) → of ≡ Polytope → ¬ (of ≡ Fan)
not_a_fan of e f = cc

module _ (v : ViewSeen) (is : v.of ≡ Polytope) (m k : ℕ) (first second : List (List Ratio)) (b : Bool) (old new : DraftSeen) where
  pub bounded_follows : fact_of Vertices v.facts ≡ Some (matrix m first) → fact_of LinealitySpace v.facts ≡ Some (matrix k second) → (IsTrue b ↔ ((second ≡ []) × All HasPositiveFirst first)) → IsPut v Bounded (truth b) old new → IsSound v new
  bounded_follows rays lines says put = sound_truth v Bounded b old new refl put (λ t o of cols right c.
      let (s, rv) = read_right Vertices v.facts (matrix m first) t o rays right in
      let (r, rl) = read_right LinealitySpace v.facts (matrix k second) t o lines right in
      bounded_is_found t o right.thing right.orders (of ∙ is) m k first second b (objective_of t s) (objective_of t r) c rv rl says)

  pub centered_follows : fact_of Facets v.facts ≡ Some (matrix m first) → fact_of AffineHull v.facts ≡ Some (matrix k second) → (IsTrue b ↔ (All HasZeroFirst second × All HasPositiveFirst first)) → IsPut v Centered (truth b) old new → IsSound v new
  centered_follows facets hull says put = sound_truth v Centered b old new refl put (λ t o of cols right c.
      let (s, rf) = read_right Facets v.facts (matrix m first) t o facets right in
      let (r, rh) = read_right AffineHull v.facts (matrix k second) t o hull right in
      centered_is_found t o right.thing right.orders (not_a_fan t.of (of ∙ is)) m k first second b (objective_of t s) (objective_of t r) c rf rh says)

module _ (v : ViewSeen) (is : v.of ≡ Polytope) (m : ℕ) (rays : List (List Ratio)) (read : fact_of Vertices v.facts ≡ Some (matrix m rays)) (old new : DraftSeen) where
  pub far_face_follows : (ks : List ℤ) → AreZeroPlaces rays (length rays) ks → is_counts_form ks ≡ true → IsPut v FarFace (counts ks) old new → IsSound v new
  far_face_follows ks places form put = sound_counts v FarFace ks old new refl form put (λ t o of cols right d.
      let (s, rv) = read_right Vertices v.facts (matrix m rays) t o read right in
      subst (λ zs. Right FarFace (counts zs) t o d) (sym places.places) (far_face_is_found t o right.thing right.orders (of ∙ is) m rays places.js (objective_of t s) d rv places.ascending places.zero))
