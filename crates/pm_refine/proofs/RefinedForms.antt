-- The values of a refinement have the forms of values that a fan may hold.
use Rattle.pm_object.proofs.FanForms.{IsOfFan, dimension_form, rows_form}
use Rattle.pm_vector.proofs.DivisorLaws.{not_zero}
use Rattle.pm_vector.proofs.Lists.{All_among, Among, among_All, here, there}
use Rattle.pm_vector.specs.Divisors.{IsPrimitive}
use Rattle.pm_vector.specs.Numbers.{InRange}
use Rattle.pm_vector.specs.Rows.{HasCols, Row, entry}
use Rattle.pm_laws_normal_fans.proofs.Places.{map_length, place_at}
use Rattle.pm_laws_normal_fans.specs.Refinements.{Intersection}
use Rattle.pm_fraction.specs.Matrices.{IsFraction}
use Rattle.pm_types.specs.Parts.{value_over}
use Rattle.pm_object_type.specs.declared.object_type.ObjectType.TheVariants.{Fan}
use Rattle.pm_props.specs.declared.property.PropId.TheVariants.{ConeAmbientDim, LinealitySpace, MaximalCones, Vertices}
use Rattle.pm_props.specs.declared.property.PropId.{PropId}
use Rattle.pm_geom.specs.Graphs.{IsAscending}
use Rattle.pm_refine.specs.ObjectRefinements.{HaveForms, fan_given, refined_values}
use Rattle.pm_refine.specs.Refined.{AreRaySets}
use Rattle.pm_types.proofs.Indices.{ascending_sets}
use Rattle.pm_types.proofs.WholeRows.{ratios_rows_fractions, ratios_rows_of_entries, ratios_rows_primitive}
use Rattle.pm_types.specs.Forms.{FormsIn, HasPrimitiveRow, is_row, is_zero_row}
use Rattle.pm_types.specs.Values.{PropertyValue, sets, whole}
use Rattle.pm_types.specs.Views.{ratios}
use Rattle.std.proofs.Common.{arith, false, refl, subst, suc, sym, true, true≢false, zero}
use Rattle.std.proofs.lemmas.Bool.{and_from}
use Rattle.std.proofs.lemmas.List.Elements.{All-cons, All-nil}
use Rattle.std.specs.List.{All, list_all, slice_index_or}
use Rattle.std.specs.Prelude.{Bool, List, [], length, map, not, ℕ, ◌<◌, ◌∷◌, ◌≡◌, ◌≤◌}
use lib.IntN.{negsuc, pos}
use Rattle.pm_limits.specs.Limits.{most_columns, most_rows}

-- ---- primitive rows pass the test of rays
all_zero : (x : Row) → is_zero_row (ratios x) ≡ true → (i : ℕ) → entry x i ≡ pos 0
all_zero [] h i = refl
all_zero (pos zero ∷ x) h zero = refl
all_zero (pos zero ∷ x) h (suc i) = all_zero x h i
all_zero (pos (suc n) ∷ x) h i = absurd (true≢false (sym h))
all_zero (negsuc n ∷ x) h i = absurd (true≢false (sym h))

ray_passes : (x : Row) → IsPrimitive x → is_row Fan Vertices (ratios x) ≡ true
ray_passes x p = by (is_zero_row (ratios x)) refl
  where
    by : (b : Bool) → is_zero_row (ratios x) ≡ b → not b ≡ true
    by false e = refl
    by true e = absurd (not_zero x p (all_zero x e))

rays_pass : (R : List Row) → ((x : Row) → Among x R → IsPrimitive x) → list_all (is_row Fan Vertices) (map ratios R) ≡ true
rays_pass [] h = refl
rays_pass (x ∷ R) h = and_from (is_row Fan Vertices (ratios x)) (list_all (is_row Fan Vertices) (map ratios R)) (ray_passes x (h x here)) (rays_pass R (λ y i. h y (there i)))

lines_pass : (K : List Row) → list_all (is_row Fan LinealitySpace) (map ratios K) ≡ true
lines_pass [] = refl
lines_pass (x ∷ K) = lines_pass K

-- ---- values
rows_over_one : (n : ℕ) (p : PropId) → IsOfFan p → (N : List Row) → 1 ≤ n → n ≤ most_columns → length N ≤ most_rows → HasCols n N → All (All InRange) N → list_all (is_row Fan p) (map ratios N) ≡ true → FormsIn Fan n p (value_over n (map ratios N))
rows_over_one n p h N some few all cols range pass =
    rows_form n p h (map ratios N) some few (let e = map_length ratios N in omega arith) (ratios_rows_of_entries n N cols) (ratios_rows_fractions N range) (ratios_rows_primitive N range) pass

sets_form : (n : ℕ) (R : List Row) (kept : List Intersection) (S : List (List ℕ)) → AreRaySets R kept S → length R ≤ most_rows → length kept ≤ most_rows → FormsIn Fan n MaximalCones (sets S (length R))
sets_form n R kept S are few cones = record {
  formed = ascending_sets (length R) S (let e = are.as_many in omega arith) few (All_among (IsAscending (length R)) S (λ s i. rises s (place_at [] S i)));
  columns = refl;
  rows = refl;
  entries = All-nil (All IsFraction);
  primitive = All-nil HasPrimitiveRow;
}
  where
    rises : (s : List ℕ) → (k : ℕ) × (k < length S) × (slice_index_or S k [] ≡ s) → IsAscending (length R) s
    rises s w = let e = are.as_many in let l = w.1 in subst (IsAscending (length R)) w.2 (are.each w.0 (record { first = 0; second = 0; rays = [] }) (omega arith)).ascending

pub forms_of : (n : ℕ) (K R : List Row) (kept : List Intersection) (S : List (List ℕ)) → 1 ≤ n → n ≤ most_columns → length R ≤ most_rows → length kept ≤ most_rows → length K ≤ n → HasCols n R → HasCols n K → All IsPrimitive R
    → All (All InRange) R → All (All InRange) K → AreRaySets R kept S → HaveForms n (fan_given (refined_values n K R S))
forms_of n K R kept S some few rays cones lines cols cols' primitive range range' are =
    All-cons P (ConeAmbientDim, whole (pos n)) ((Vertices, value_over n (map ratios R)) ∷ (LinealitySpace, value_over n (map ratios K)) ∷ (MaximalCones, sets S (length R)) ∷ []) (dimension_form n some few)
    (All-cons P (Vertices, value_over n (map ratios R)) ((LinealitySpace, value_over n (map ratios K)) ∷ (MaximalCones, sets S (length R)) ∷ [])
    (rows_over_one n Vertices tt R some few rays cols range (rays_pass R (λ x i. among_All IsPrimitive i primitive)))
    (All-cons P (LinealitySpace, value_over n (map ratios K)) ((MaximalCones, sets S (length R)) ∷ [])
    (rows_over_one n LinealitySpace tt K some few (omega arith) cols' range' (lines_pass K))
    (All-cons P (MaximalCones, sets S (length R)) [] (sets_form n R kept S are rays cones) (All-nil P))))
  where
    P : PropId × PropertyValue → Type 0
    P v = FormsIn Fan n v.0 v.1
