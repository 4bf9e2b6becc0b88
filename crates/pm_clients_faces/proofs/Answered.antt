-- What the clients put is sound, and how they fail.
use Rattle.pm_vector.specs.Numbers.{Ratio}
use Rattle.pm_client.proofs.PlainValues.{sound_counts, sound_plain}
use Rattle.pm_client.proofs.Puts.{IsPut, sound_one}
use Rattle.pm_client.proofs.ReadValues.{read_right}
use Rattle.pm_client.specs.Sound.{FailsRightly, IsSound, fail_of_lattice, has_way, face_count}
use Rattle.pm_client.specs.declared.ClientFail.{ClientFail}
use Rattle.pm_client.specs.declared.ClientFail.TheVariants.{Failed, Memory}
use Rattle.pm_clients_faces.proofs.FaceForms.{f_numbers_form, lattice_formed}
use Rattle.pm_clients_faces.proofs.HForms.{h_numbers_form}
use Rattle.pm_clients_faces.proofs.PairForms.{f2_table_form}
use Rattle.pm_clients_faces.proofs.RightFaces.{f2_vector_is_found, f_vector_is_found, h_vector_is_found, hasse_diagram_is_found, ranks_are_few}
use Rattle.pm_clients_faces.specs.Faces.{FailsForMany}
use Rattle.pm_clients_faces.specs.Numbers.{f2_table, f_numbers, has_few_ranks}
use Rattle.pm_geom.specs.FaceCounts.{f2_entry, f_of, inner}
use Rattle.pm_geom.specs.Meets.{IsSmallLattice}
use Rattle.pm_geom.specs.Things.{Orders}
use Rattle.pm_geom.specs.declared.evidence.Evidence.TheVariants.{E5Faces}
use Rattle.pm_graph.specs.Counts.{f2_matrix}
use Rattle.pm_graph.specs.HVectors.{AreHNumbers, HasNoHVector}
use Rattle.pm_lattice.specs.Lattices.{IsFaceLattice, IsShown}
use Rattle.pm_lattice.specs.declared.lattice.LatticeFail.{LatticeFail}
use Rattle.pm_lattice.specs.declared.lattice.LatticeFail.TheVariants as closing
use Rattle.pm_fraction.specs.Matrices.{FractionMatrix}
use Rattle.pm_object.specs.Reading.{DraftSeen, ViewSeen, fact_of}
use Rattle.pm_standard.specs.Table.{standard_kind}
use Rattle.pm_props.specs.Places.{place_of}
use Rattle.pm_object_type.specs.declared.object_type.ObjectType.TheVariants.{Fan}
use Rattle.pm_props.specs.declared.property.PropId.TheVariants.{CombinatorialDim, F2Vector, FVector, HVector, HasseDiagram, VerticesInFacets}
use Rattle.pm_standard.specs.declared.standard.StandardClient.TheVariants as client
use Rattle.pm_types.specs.Forms.{FormsIn}
use Rattle.pm_types.specs.Right.{Right, objective_of}
use Rattle.pm_types.specs.Things.{AreOrders, IsThing, Thing}
use Rattle.pm_types.specs.Values.{IndexSets, counts, lattice, matrix, sets, whole}
use Rattle.std.proofs.Common.{ap, arith, refl, subst, sym, true, ◌∙◌}
use Rattle.std.proofs.lemmas.Bool.{le-leb}
use Rattle.std.proofs.lemmas.List.FromFn.{length-map-range_with_len}
use Rattle.std.specs.List.{range_with_len}
use Rattle.std.specs.Prelude.{List, Some, [], if◌then◌else◌, length, map, ℕ, ◌≡◌, ◌+◌}
use lib.IntN.{pos, ℤ}
use Rattle.pm_limits.specs.Limits.{most_columns}

-- ---- failures
pub fails_for_many : (v : ViewSeen) (index : IndexSets) (f : LatticeFail) → v.kind ≡ standard_kind client.Faces → fact_of VerticesInFacets v.facts ≡ Some (sets index.rows index.cols) → IsShown index f → FailsForMany v (fail_of_lattice f)
fails_for_many v index (closing.Many (E5Faces faces)) kind reads h = record { named = ap (λ k. has_way k face_count) kind; index = index; reads = reads; shown = h }
fails_for_many v index (closing.Many e) kind reads h = absurd h
fails_for_many v index closing.Memory kind reads h = tt

pub fails_rightly : (v : ViewSeen) (e : ClientFail) → FailsForMany v e → FailsRightly v e
fails_rightly v Memory h = tt
fails_rightly v (Failed (E5Faces faces)) h = h
fails_rightly v (Failed e) h = absurd h

-- ---- few ranks
-- a right lattice has few ranks
right_few : (t : Thing) (o : Orders) → IsThing t → AreOrders t o → ¬ (t.of ≡ Fan) → (ranks : List (List (List ℕ))) (c : List Ratio) → Right HasseDiagram (lattice ranks) t o c → has_few_ranks ranks ≡ true
right_few t o thing orders no_fan ranks c right =
    let few = ranks_are_few t o thing orders no_fan ranks c right in
    let cols = thing.few_cols in
    le-leb (length ranks) (most_columns + 1) (omega arith)

counts_right : (t : Thing) (o : Orders) → IsThing t → AreOrders t o → ¬ (t.of ≡ Fan) → (ranks : List (List (List ℕ))) (c d : List Ratio) → Right HasseDiagram (lattice ranks) t o c → Right FVector (counts (f_numbers ranks)) t o d
counts_right t o thing orders no_fan ranks c d right =
    subst (λ b. Right FVector (counts (if b then map pos (f_of ranks) else [])) t o d) (sym (right_few t o thing orders no_fan ranks c right)) (f_vector_is_found t o orders ranks c d right)

abbrev as_value : Thing → Orders → List Ratio → FractionMatrix → Type 0
as_value t o d a = Right F2Vector (matrix a.cols a.rows) t o d

pairs_right : (t : Thing) (o : Orders) → IsThing t → AreOrders t o → ¬ (t.of ≡ Fan) → (ranks : List (List (List ℕ))) (c d : List Ratio) → Right HasseDiagram (lattice ranks) t o c → Right F2Vector (matrix (f2_table ranks).cols (f2_table ranks).rows) t o d
pairs_right t o thing orders no_fan ranks c d right =
    subst (λ b. as_value t o d (if b then f2_matrix ranks else record { cols = 0; rows = [] })) (sym (right_few t o thing orders no_fan ranks c right)) (f2_vector_is_found t o orders ranks (f2_matrix ranks).cols (sym (length-map-range_with_len (λ i. map (f2_entry ranks i) (range_with_len 0 (length (inner ranks)))) 0 (length (inner ranks)))) c d right)

-- ---- the clients
module _ (v : ViewSeen) (no_fan : ¬ (v.of ≡ Fan)) (old new : DraftSeen) where
  pub faces_sound : (rows : List (List ℕ)) (n : ℕ) (ranks : List (List (List ℕ))) → fact_of VerticesInFacets v.facts ≡ Some (sets rows n) → FormsIn v.of v.cols VerticesInFacets (sets rows n)
      → IsFaceLattice (record { rows = rows; cols = n }) ranks → IsSmallLattice ranks → IsPut v HasseDiagram (lattice ranks) old new → IsSound v new
  faces_sound rows n ranks read forms faces small put = sound_plain v HasseDiagram (lattice ranks) old new refl refl (lattice_formed rows n _ ranks forms.formed faces small) put (λ t o of cols right d.
      let (s, value) = read_right VerticesInFacets v.facts (sets rows n) t o read right in
      hasse_diagram_is_found t o right.thing right.orders (λ e. no_fan (sym of ∙ e)) rows n ranks (objective_of t s) d value faces)

  module _ (ranks : List (List (List ℕ))) (read : fact_of HasseDiagram v.facts ≡ Some (lattice ranks)) (forms : FormsIn v.of v.cols HasseDiagram (lattice ranks)) where
    pub counts_sound : IsPut v FVector (counts (f_numbers ranks)) old new → IsSound v new
    counts_sound put = sound_counts v FVector (f_numbers ranks) old new refl (f_numbers_form ranks forms.formed) put (λ t o of cols right d.
        let (s, value) = read_right HasseDiagram v.facts (lattice ranks) t o read right in
        counts_right t o right.thing right.orders (λ e. no_fan (sym of ∙ e)) ranks (objective_of t s) d value)

    pub pairs_sound : IsPut v F2Vector (matrix (f2_table ranks).cols (f2_table ranks).rows) old new → IsSound v new
    pairs_sound put =
        let form = f2_table_form v.of v.cols ranks forms.formed in
        sound_one v F2Vector (matrix (f2_table ranks).cols (f2_table ranks).rows) old new put refl form.0 form.1 (λ t o of cols right.
        let (s, value) = read_right HasseDiagram v.facts (lattice ranks) t o read right in
        (pairs_right t o right.thing right.orders (λ e. no_fan (sym of ∙ e)) ranks (objective_of t s) (objective_of t (place_of v.sub F2Vector)) value, tt))

  pub h_numbers_sound : (f h : List ℤ) (d : ℤ) → fact_of FVector v.facts ≡ Some (counts f) → fact_of CombinatorialDim v.facts ≡ Some (whole d) → AreHNumbers f d h → (HasNoHVector f d → h ≡ []) → IsPut v HVector (counts h) old new → IsSound v new
  h_numbers_sound f h d read dim numbers none put = sound_counts v HVector h old new refl (h_numbers_form f h d numbers none) put (λ t o of cols right e.
      let (s, value) = read_right FVector v.facts (counts f) t o read right in
      let (r, dimension) = read_right CombinatorialDim v.facts (whole d) t o dim right in
      h_vector_is_found t o right.thing (λ x. no_fan (sym of ∙ x)) f h d (objective_of t s) (objective_of t r) e value dimension numbers none)
