-- The number of sets that were read, and their column count.
use Rattle.pm_client.proofs.PlainValues.{sound_count}
use Rattle.pm_client.proofs.Puts.{IsPut}
use Rattle.pm_client.proofs.ReadValues.{read_right}
use Rattle.pm_client.specs.Sound.{IsSound}
use Rattle.pm_object.specs.Reading.{DraftSeen, ViewSeen, fact_of}
use Rattle.pm_props.specs.declared.property.PropId.TheVariants.{NFacets, NVertices, VerticesInFacets}
use Rattle.pm_relations.proofs.Sizes.{facets_of_sets, rays_of_sets}
use Rattle.pm_types.specs.Forms.{FormsIn, are_indices, is_sets_form}
use Rattle.pm_types.specs.Right.{Right, objective_of}
use Rattle.pm_types.specs.Values.{sets, whole}
use Rattle.std.proofs.Common.{arith, leb, refl, subst, sym, to_z, true, w64, ◌&&◌}
use Rattle.std.proofs.lemmas.Bool.{and_parts, leb-true}
use Rattle.std.specs.List.{list_all}
use Rattle.std.specs.Prelude.{List, Some, length, ℕ, ◌≡◌, ◌≤◌}
use lib.IntN.{pos}
use Rattle.pm_limits.specs.Limits.{most_rows}

few : (rows : List (List ℕ)) (n : ℕ) → is_sets_form rows n ≡ true → (length rows ≤ most_rows) × (n ≤ most_rows)
few rows n form =
    let p = and_parts (leb (length rows) most_rows && leb n most_rows) (list_all (are_indices n 0) rows) form in
    let q = and_parts (leb (length rows) most_rows) (leb n most_rows) p.0 in
    (leb-true (length rows) most_rows q.0, leb-true n most_rows q.1)

module _ (v : ViewSeen) (rows : List (List ℕ)) (n : ℕ) (read : fact_of VerticesInFacets v.facts ≡ Some (sets rows n)) (forms : FormsIn v.of v.cols VerticesInFacets (sets rows n)) (old new : DraftSeen) where
  form : is_sets_form rows n ≡ true
  form = forms.formed

  pub places_follow : (k : ℕ) → k ≡ n → IsPut v NVertices (whole (to_z w64 k)) old new → IsSound v new
  places_follow k e put =
      sound_count v NVertices k old new refl (let l = (few rows n form).1 in omega arith) put (λ t o of cols right d.
      let (s, value) = read_right VerticesInFacets v.facts (sets rows n) t o read right in
      subst (λ m. Right NVertices (whole (pos m)) t o d) (sym e) (rays_of_sets t o right.orders rows n (objective_of t s) value d))

  pub sets_follow : (k : ℕ) → k ≡ length rows → IsPut v NFacets (whole (to_z w64 k)) old new → IsSound v new
  sets_follow k e put =
      sound_count v NFacets k old new refl (let l = (few rows n form).0 in omega arith) put (λ t o of cols right d.
      let (s, value) = read_right VerticesInFacets v.facts (sets rows n) t o read right in
      subst (λ m. Right NFacets (whole (pos m)) t o d) (sym e) (facets_of_sets t o right.orders rows n (objective_of t s) value d))
