-- Sizes of sets, and what they show, are sound.
use Rattle.pm_client.proofs.PlainValues.{sound_counts, sound_truth}
use Rattle.pm_client.proofs.Puts.{IsPut}
use Rattle.pm_client.proofs.ReadValues.{read_right}
use Rattle.pm_client.specs.Sound.{IsSound}
use Rattle.pm_object.specs.Reading.{DraftSeen, ViewSeen, fact_of}
use Rattle.pm_object_type.specs.declared.object_type.ObjectType.TheVariants.{Fan}
use Rattle.pm_props.specs.declared.property.PropId.TheVariants.{CombinatorialDim, FacetSizes, Simple, Simplicial, VertexSizes, VerticesInFacets}
use Rattle.pm_relations.proofs.Sizes.{simple_by_sizes, simplicial_by_sizes, sizes_of_facets, sizes_of_rays}
use Rattle.pm_relations.specs.Sizes.{has_place, holding, place_sizes, set_sizes}
use Rattle.pm_types.specs.Forms.{FormsIn, are_indices, has_64_bits, is_counts_form, is_sets_form}
use Rattle.pm_types.specs.Right.{objective_of}
use Rattle.pm_types.specs.Values.{counts, sets, truth, whole}
use Rattle.std.proofs.Common.{arith, leb, ltb, refl, sym, true, ◌&&◌, ◌∙◌}
use Rattle.std.proofs.lemmas.Bool.{and_from, and_parts, le-leb, leb-true, lt-ltb, ltb-true}
use Rattle.std.proofs.lemmas.List.{length-map}
use Rattle.std.proofs.lemmas.List.FromFn.{length-map-range_with_len}
use Rattle.std.specs.List.{All, list_all, range_with_len}
use Rattle.std.specs.Prelude.{Bool, IsTrue, List, Some, [], if◌then◌else◌, length, map, nat_le, suc, ℕ, ◌+◌, ◌∷◌, ◌↔◌, ◌≡◌, ◌≤◌, ◌^◌}
use lib.IntN.{pos, ℤ}
use Rattle.pm_limits.specs.Limits.{most_rows}

-- ---- the form of sizes
pub few_sets : (rows : List (List ℕ)) (n : ℕ) → is_sets_form rows n ≡ true → length rows ≤ most_rows
few_sets rows n form =
    let p = and_parts (leb (length rows) most_rows && leb n most_rows) (list_all (are_indices n 0) rows) form in
    leb-true (length rows) most_rows (and_parts (leb (length rows) most_rows) (leb n most_rows) p.0).0

few_places : (rows : List (List ℕ)) (n : ℕ) → is_sets_form rows n ≡ true → n ≤ most_rows
few_places rows n form =
    let p = and_parts (leb (length rows) most_rows && leb n most_rows) (list_all (are_indices n 0) rows) form in
    leb-true n most_rows (and_parts (leb (length rows) most_rows) (leb n most_rows) p.0).1

pub ascending : (rows : List (List ℕ)) (n : ℕ) → is_sets_form rows n ≡ true → list_all (are_indices n 0) rows ≡ true
ascending rows n form = (and_parts (leb (length rows) most_rows && leb n most_rows) (list_all (are_indices n 0) rows) form).1

small_has_bits : (k : ℕ) → k ≤ most_rows → has_64_bits (pos k) ≡ true
small_has_bits k l = lt-ltb k (2 ^ 63) (omega arith)

pub holding_few : (rows : List (List ℕ)) (j : ℕ) → holding rows j ≤ length rows
holding_few [] j = omega arith
holding_few (r ∷ rows) j =
    let one : (if has_place j r then 1 else 0) ≤ 1 = at_most (has_place j r) in
    let rest = holding_few rows j in
    omega arith
  where
    at_most : (b : Bool) → (if b then 1 else 0) ≤ 1
    at_most true = omega arith
    at_most b = grind arith

counts_bits : {X : Type 0} (f : X → ℕ) (xs : List X) → ((x : X) → f x ≤ most_rows) → list_all has_64_bits (map (λ x. pos (f x)) xs) ≡ true
counts_bits f [] h = refl
counts_bits f (x ∷ xs) h = and_from (has_64_bits (pos (f x))) (list_all has_64_bits (map (λ x. pos (f x)) xs)) (small_has_bits (f x) (h x)) (counts_bits f xs h)

place_sizes_form : (rows : List (List ℕ)) (n : ℕ) → is_sets_form rows n ≡ true → is_counts_form (place_sizes rows n) ≡ true
place_sizes_form rows n form =
    let count = length-map-range_with_len (λ j. pos (holding rows j)) 0 n in
    let few = few_places rows n form in
    and_from (nat_le (length (place_sizes rows n)) most_rows) (list_all has_64_bits (place_sizes rows n)) (le-leb (length (place_sizes rows n)) most_rows (omega arith))
    (counts_bits (holding rows) (range_with_len 0 n) (λ j. let a = holding_few rows j in let b = few_sets rows n form in omega arith))

index_count : (n low : ℕ) (r : List ℕ) → low ≤ n → are_indices n low r ≡ true → low + length r ≤ n
index_count n low [] l h = omega arith
index_count n low (j ∷ r) l h =
    let p = and_parts (leb low j && ltb j n) (are_indices n (suc j) r) h in
    let q = and_parts (leb low j) (ltb j n) p.0 in
    let above = leb-true low j q.0 in
    let below = ltb-true j n q.1 in
    let rest = index_count n (suc j) r (omega arith) p.1 in
    omega arith

set_bits : (n : ℕ) (rows : List (List ℕ)) → n ≤ most_rows → list_all (are_indices n 0) rows ≡ true → list_all has_64_bits (set_sizes rows) ≡ true
set_bits n [] few h = refl
set_bits n (r ∷ rows) few h =
    let p = and_parts (are_indices n 0 r) (list_all (are_indices n 0) rows) h in
    let count = index_count n 0 r (omega arith) p.0 in
    and_from (has_64_bits (pos (length r))) (list_all has_64_bits (set_sizes rows)) (small_has_bits (length r) (omega arith)) (set_bits n rows few p.1)

set_sizes_form : (rows : List (List ℕ)) (n : ℕ) → is_sets_form rows n ≡ true → is_counts_form (set_sizes rows) ≡ true
set_sizes_form rows n form =
    let count = length-map rows (λ r. pos (length r)) in
    let few = few_sets rows n form in
    and_from (nat_le (length (set_sizes rows)) most_rows) (list_all has_64_bits (set_sizes rows)) (le-leb (length (set_sizes rows)) most_rows (omega arith))
    (set_bits n rows (few_places rows n form) (ascending rows n form))

-- ---- the clients
module _ (v : ViewSeen) (no_fan : ¬ (v.of ≡ Fan)) (old new : DraftSeen) where
  module _ (rows : List (List ℕ)) (n : ℕ) (read : fact_of VerticesInFacets v.facts ≡ Some (sets rows n)) (forms : FormsIn v.of v.cols VerticesInFacets (sets rows n)) where
    pub vertex_sizes_sound : IsPut v VertexSizes (counts (place_sizes rows n)) old new → IsSound v new
    vertex_sizes_sound put = sound_counts v VertexSizes (place_sizes rows n) old new refl (place_sizes_form rows n forms.formed) put (λ t o of cols right d.
        let (s, value) = read_right VerticesInFacets v.facts (sets rows n) t o read right in
        sizes_of_rays t o right.orders rows n (objective_of t s) value d (λ e. no_fan (sym of ∙ e)))

    pub facet_sizes_sound : IsPut v FacetSizes (counts (set_sizes rows)) old new → IsSound v new
    facet_sizes_sound put = sound_counts v FacetSizes (set_sizes rows) old new refl (set_sizes_form rows n forms.formed) put (λ t o of cols right d.
        let (s, value) = read_right VerticesInFacets v.facts (sets rows n) t o read right in
        sizes_of_facets t o right.orders rows n (objective_of t s) value d (λ e. no_fan (sym of ∙ e)) n (ascending rows n forms.formed))

  module _ (ks : List ℤ) (k : ℤ) (b : Bool) (dim : fact_of CombinatorialDim v.facts ≡ Some (whole k)) (says : IsTrue b ↔ All (λ z. z ≡ k) ks) where
    pub simple_sound : fact_of VertexSizes v.facts ≡ Some (counts ks) → IsPut v Simple (truth b) old new → IsSound v new
    simple_sound read put = sound_truth v Simple b old new refl put (λ t o of cols right e.
        let (s, value) = read_right VertexSizes v.facts (counts ks) t o read right in
        let (r, d) = read_right CombinatorialDim v.facts (whole k) t o dim right in
        simple_by_sizes t o right.orders (λ f. no_fan (sym of ∙ f)) ks k b (objective_of t s) (objective_of t r) e d says value)

    pub simplicial_sound : fact_of FacetSizes v.facts ≡ Some (counts ks) → IsPut v Simplicial (truth b) old new → IsSound v new
    simplicial_sound read put = sound_truth v Simplicial b old new refl put (λ t o of cols right e.
        let (s, value) = read_right FacetSizes v.facts (counts ks) t o read right in
        let (r, d) = read_right CombinatorialDim v.facts (whole k) t o dim right in
        simplicial_by_sizes t o right.orders (λ f. no_fan (sym of ∙ f)) ks k b (objective_of t s) (objective_of t r) e d says value)
