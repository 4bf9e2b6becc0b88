-- The truth values that follow from dimensions.
use Rattle.pm_client.proofs.ReadValues.{read_right}
use Rattle.pm_client.proofs.Machine.{same_bits}
use Rattle.pm_client.proofs.PlainValues.{sound_truth}
use Rattle.pm_client.proofs.Puts.{IsPut}
use Rattle.pm_client.proofs.ViewLaws.{few_columns}
use Rattle.pm_client.specs.Sound.{IsSound}
use Rattle.pm_object.specs.Reading.{DraftSeen, IsView, ViewSeen, fact_of}
use Rattle.pm_relations.proofs.Dimensions.{feasible_is_found, full_dim_is_found, pointed_is_found}
use Rattle.pm_types.specs.Forms.{FormsIn}
use Rattle.pm_types.specs.Right.{objective_of}
use Rattle.pm_types.specs.Values.{truth, whole}
use Rattle.pm_props.specs.declared.property.PropId.TheVariants.{ConeDim, Feasible, FullDim, LinealityDim, Pointed}
use Rattle.std.proofs.Common.{arith, eqb, of_z, refl, w64}
use Rattle.std.proofs.lemmas.Bool.Decides.{Decides-not}
use Rattle.std.specs.Prelude.{Some, not, ℕ, ◌≡◌}
use lib.IntN.{ℤ}

module _ (v : ViewSeen) (k : ℤ) (old new : DraftSeen) where
  pub feasible_follows : fact_of ConeDim v.facts ≡ Some (whole k) → FormsIn v.of v.cols ConeDim (whole k) → IsPut v Feasible (truth (not (eqb (of_z w64 k) 0))) old new → IsSound v new
  feasible_follows read form put = sound_truth v Feasible (not (eqb (of_z w64 k) 0)) old new refl put (λ t o of cols right c.
      let (s, dim) = read_right ConeDim v.facts (whole k) t o read right in
      feasible_is_found t o right.thing k (not (eqb (of_z w64 k) 0)) (objective_of t s) c dim (Decides-not (eqb (of_z w64 k) 0) (same_bits k 0 form.formed (omega arith))))

  pub pointed_follows : fact_of LinealityDim v.facts ≡ Some (whole k) → FormsIn v.of v.cols LinealityDim (whole k) → IsPut v Pointed (truth (eqb (of_z w64 k) 0)) old new → IsSound v new
  pointed_follows read form put = sound_truth v Pointed (eqb (of_z w64 k) 0) old new refl put (λ t o of cols right c.
      let (s, dim) = read_right LinealityDim v.facts (whole k) t o read right in
      pointed_is_found t o k (eqb (of_z w64 k) 0) (objective_of t s) c dim (same_bits k 0 form.formed (omega arith)))

  pub full_dim_follows : (n : ℕ) → n ≡ v.cols → IsView v → fact_of ConeDim v.facts ≡ Some (whole k) → FormsIn v.of v.cols ConeDim (whole k) → IsPut v FullDim (truth (eqb (of_z w64 k) n)) old new → IsSound v new
  full_dim_follows n e view read form put = sound_truth v FullDim (eqb (of_z w64 k) n) old new refl put (λ t o of cols right c.
      let (s, dim) = read_right ConeDim v.facts (whole k) t o read right in
      full_dim_is_found t o k (eqb (of_z w64 k) n) (objective_of t s) c dim (rw (e, cols) (same_bits k v.cols form.formed (few_columns v view))))
