-- The values of new fans have the forms of values that an object may hold.
use Rattle.pm_object.proofs.FanForms.{IsOfFan, dimension_form, rows_form, three}
use Rattle.pm_vector.proofs.Lists.{All_among, Among, among_All, here, there}
use Rattle.pm_vector.specs.Numbers.{Ratio}
use Rattle.pm_fan.proofs.Kept.{all_ascend, holders_ascend, kept_among, kept_few, kept_length}
use Rattle.pm_fan.proofs.Refused.{face_parts, normal_parts}
use Rattle.pm_fan.proofs.Tails.{primitive_behind}
use Rattle.pm_fan.specs.Conditions.{are_of_facets, are_of_vertices, face_reads, face_refusal, normal_reads, normal_refusal, rows_pass}
use Rattle.pm_fan.specs.Fans.{cut, face_cones, face_fan_of, face_rays, fan_cols, has_members, holders_from, is_point, normal_cones, normal_fan_of, normal_rays, only_apex, with_members}
use Rattle.pm_fan.specs.Laws.{FansHaveForms, HaveForms}
use Rattle.pm_fraction.specs.Matrices.{IsFraction}
use Rattle.pm_object.proofs.KnownValues.{IsHeldRow, known_columns, known_rows, known_sets, polytope_is}
use Rattle.pm_object.specs.Formed.{IsFormed}
use Rattle.pm_object.specs.Known.{IsReadable, cols_at, is_true, rows_at, sets_at}
use Rattle.pm_types.specs.Parts.{value_of_sets, value_over}
use Rattle.pm_object.specs.State.{State, is_polytope}
use Rattle.pm_object_type.specs.declared.object_type.ObjectType.TheVariants.{Fan}
use Rattle.pm_object_type.specs.declared.object_type.ObjectType.{ObjectType}
use Rattle.pm_props.specs.declared.property.PropId.TheVariants.{AffineHull, Bounded, Centered, ConeAmbientDim, Facets, Feasible, LinealitySpace, MaximalCones, Vertices, VerticesInFacets}
use Rattle.pm_props.specs.declared.property.PropId.{PropId}
use Rattle.pm_types.specs.Forms.{FormsIn, HasPrimitiveRow, are_indices, is_row, is_row_of_entries, is_sets_form}
use Rattle.pm_types.specs.Values.{IndexSets, PropertyValue, whole}
use Rattle.std.proofs.Common.{arith, false, refl, subst, true}
use Rattle.std.proofs.lemmas.Bool.{and_parts, eq-eqb, eqb-true, le-leb, leb-true}
use Rattle.std.proofs.lemmas.Int.{ints}
use Rattle.std.proofs.lemmas.List.{length-map}
use Rattle.std.proofs.lemmas.List.Elements.{All-cons, All-map, All-nil, All-tail, All-weaker}
use Rattle.std.proofs.lemmas.List.FromFn.{length-map-range_with_len}
use Rattle.std.proofs.lemmas.List.Sums.{list_all-from_AllPass}
use Rattle.std.specs.List.{All, filter, list_all, range_with_len, slice_index_or}
use Rattle.std.specs.Prelude.{Bool, List, None, [], drop, if◌then◌else◌, length, nat_le, suc, unsigned_abs, ℕ, ◌&&◌, ◌<◌, ◌∷◌, ◌≡◌, ◌≤◌}
use lib.IntN.{pos}
use Rattle.pm_limits.specs.Limits.{most_columns, most_rows}

-- ---- rows without their first coordinate
record IsCutRow (n : ℕ) (r : List Ratio) : Type 0 where
  cols : length r ≡ n
  entries : All IsFraction r
  primitive : HasPrimitiveRow r

some_denominator : (f : Ratio) → IsFraction f → 0 < unsigned_abs f.den
some_denominator f h = let p = h.reduced.positive in omega (arith, ints)

cut_row : (n : ℕ) (r : List Ratio) → length r ≡ suc n → All IsFraction r → HasPrimitiveRow r → IsCutRow n (drop 1 r)
cut_row n [] l e h = absurd (omega arith)
cut_row n (q ∷ r) l e h = record {
  cols = omega arith;
  entries = All-tail IsFraction q r e;
  primitive = primitive_behind q r (some_denominator q (e 0 q (omega arith))) h (λ i b. some_denominator (slice_index_or r i (record { num = pos 0; den = pos 1 })) (All-tail IsFraction q r e i (record { num = pos 0; den = pos 1 }) b));
}

cut_rows : (of : ObjectType) (p : PropId) (n : ℕ) (rows : List (List Ratio)) → ((r : List Ratio) → Among r rows → IsHeldRow of p (suc n) r) → All (IsCutRow n) (cut rows)
cut_rows of p n rows h = All-map (IsCutRow n) (λ (r : List Ratio). drop 1 r) rows (All_among (λ (r : List Ratio). IsCutRow n (drop 1 r)) rows (λ r i. let g = h r i in cut_row n r g.cols g.entries g.primitive))

-- ---- values
rows_of_cuts : (n : ℕ) (p : PropId) → IsOfFan p → (rows : List (List Ratio)) → 1 ≤ n → n ≤ most_columns → length rows ≤ most_rows → All (IsCutRow n) rows → list_all (is_row Fan p) rows ≡ true → FormsIn Fan n p (value_over n rows)
rows_of_cuts n p h rows some few all cuts pass = rows_form n p h rows some few all
    (list_all-from_AllPass (is_row_of_entries n) rows (All-weaker (IsCutRow n) (λ x. is_row_of_entries n x ≡ true) (λ x g. eq-eqb (length x) n g.cols) rows cuts))
    (All-weaker (IsCutRow n) (λ x. All IsFraction x) (λ x g. g.entries) rows cuts)
    (All-weaker (IsCutRow n) (λ x. HasPrimitiveRow x) (λ x g. g.primitive) rows cuts) pass

sets_form : (n : ℕ) (s : IndexSets) → is_sets_form s.rows s.cols ≡ true → FormsIn Fan n MaximalCones (value_of_sets s)
sets_form n s f = record { formed = f; columns = refl; rows = refl; entries = All-nil (All IsFraction); primitive = All-nil HasPrimitiveRow }

-- ---- the normal fan
-- the index sets, of the number of vertices, over the number of rays
normal_sets_form : (o : State) → length (sets_at VerticesInFacets o).rows ≡ length (rows_at Facets o) → length (rows_at Facets o) ≤ most_rows → length (rows_at Vertices o) ≤ most_rows → is_sets_form (normal_cones o).rows (normal_cones o).cols ≡ true
normal_sets_form o same facets vertices =
    let S = (sets_at VerticesInFacets o).rows in
    let K = filter has_members S in
    let count = length-map-range_with_len (holders_from 0 K) 0 (length (rows_at Vertices o)) in
    let rays = length-map (with_members S (rows_at Facets o)) (λ (r : List Ratio). drop 1 r) in
    let kept = kept_length S (rows_at Facets o) same in
    let few = kept_few S (rows_at Facets o) in
    three (nat_le (length (normal_cones o).rows) most_rows) (nat_le (normal_cones o).cols most_rows) (list_all (are_indices (normal_cones o).cols 0) (normal_cones o).rows)
    (le-leb (length (normal_cones o).rows) most_rows (omega arith)) (le-leb (normal_cones o).cols most_rows (omega arith))
    (all_ascend (normal_cones o).cols (holders_from 0 K) (range_with_len 0 (length (rows_at Vertices o))) (λ j. holders_ascend (normal_cones o).cols 0 0 K j (omega arith) (omega arith)))

normal_forms : (a : State) → IsFormed a → IsReadable normal_reads a → normal_refusal a ≡ None → HaveForms (fan_cols a) (normal_fan_of a)
normal_forms a f r h =
    let parts = normal_parts (is_polytope a.of) (is_true Bounded a) (is_true Feasible a) (nat_le 2 (cols_at a)) (are_of_facets a && are_of_vertices a) (rows_pass (normal_fan_of a)) h in
    let k = r (polytope_is a.of parts.0) in
    let some = leb-true 2 (cols_at a) parts.1 in
    let n = (known_columns normal_reads a f k).1 in
    let hull = known_rows normal_reads AffineHull a tt f k (there (there here)) in
    let facets = known_rows normal_reads Facets a tt f k (there (there (there (there here)))) in
    let vertices = known_rows normal_reads Vertices a tt f k (there (there (there (there (there here))))) in
    let matched = and_parts (are_of_facets a) (are_of_vertices a) parts.2 in
    let same = eqb-true (length (sets_at VerticesInFacets a).rows) (length (rows_at Facets a)) matched.0 in
    let cols : cols_at a ≡ suc (fan_cols a) = omega arith in
    let pass = and_parts (list_all (is_row Fan Vertices) (normal_rays a)) (list_all (is_row Fan LinealitySpace) (cut (rows_at AffineHull a)) && true) parts.3 in
    let few : length (normal_rays a) ≤ most_rows = (let l = facets.few in let m = kept_few (sets_at VerticesInFacets a).rows (rows_at Facets a) in let e = length-map (with_members (sets_at VerticesInFacets a).rows (rows_at Facets a)) (λ (r : List Ratio). drop 1 r) in omega arith) in
    let lines : length (cut (rows_at AffineHull a)) ≤ most_rows = (let l = hull.few in let e = length-map (rows_at AffineHull a) (λ (r : List Ratio). drop 1 r) in omega arith) in
    let held = λ (p : PropId) (x : List Ratio) (g : IsHeldRow a.of p (cols_at a) x). subst (λ m. IsHeldRow a.of p m x) cols g in
    All-cons P (ConeAmbientDim, whole (pos (fan_cols a))) ((Vertices, value_over (fan_cols a) (normal_rays a)) ∷ (LinealitySpace, value_over (fan_cols a) (cut (rows_at AffineHull a))) ∷ (MaximalCones, value_of_sets (normal_cones a)) ∷ []) (dimension_form (fan_cols a) (omega arith) (omega arith))
    (All-cons P (Vertices, value_over (fan_cols a) (normal_rays a)) ((LinealitySpace, value_over (fan_cols a) (cut (rows_at AffineHull a))) ∷ (MaximalCones, value_of_sets (normal_cones a)) ∷ [])
    (rows_of_cuts (fan_cols a) Vertices tt (normal_rays a) (omega arith) (omega arith) few
    (cut_rows a.of Facets (fan_cols a) (with_members (sets_at VerticesInFacets a).rows (rows_at Facets a)) (λ x i. held Facets x (among_All (IsHeldRow a.of Facets (cols_at a)) (kept_among (sets_at VerticesInFacets a).rows (rows_at Facets a) x i) facets.each))) pass.0)
    (All-cons P (LinealitySpace, value_over (fan_cols a) (cut (rows_at AffineHull a))) ((MaximalCones, value_of_sets (normal_cones a)) ∷ [])
    (rows_of_cuts (fan_cols a) LinealitySpace tt (cut (rows_at AffineHull a)) (omega arith) (omega arith) lines
    (cut_rows a.of AffineHull (fan_cols a) (rows_at AffineHull a) (λ x i. held AffineHull x (among_All (IsHeldRow a.of AffineHull (cols_at a)) i hull.each))) (and_parts (list_all (is_row Fan LinealitySpace) (cut (rows_at AffineHull a))) true pass.1).0)
    (All-cons P (MaximalCones, value_of_sets (normal_cones a)) [] (sets_form (fan_cols a) (normal_cones a) (normal_sets_form a same facets.few vertices.few)) (All-nil P))))
  where
    P : PropId × PropertyValue → Type 0
    P v = FormsIn Fan (fan_cols a) v.0 v.1

-- ---- the face fan
face_rays_form : (a : State) (t : Bool) → 1 ≤ fan_cols a → fan_cols a ≤ most_columns → length (cut (rows_at Vertices a)) ≤ most_rows → All (IsCutRow (fan_cols a)) (cut (rows_at Vertices a)) → list_all (is_row Fan Vertices) (if t then [] else cut (rows_at Vertices a)) ≡ true
    → FormsIn Fan (fan_cols a) Vertices (value_over (fan_cols a) (if t then [] else cut (rows_at Vertices a)))
face_rays_form a true some few all cuts pass = rows_of_cuts (fan_cols a) Vertices tt [] some few (omega arith) (All-nil (IsCutRow (fan_cols a))) refl
face_rays_form a false some few all cuts pass = rows_of_cuts (fan_cols a) Vertices tt (cut (rows_at Vertices a)) some few all cuts pass

face_sets_form : (s : IndexSets) (t : Bool) → is_sets_form s.rows s.cols ≡ true → is_sets_form (if t then only_apex else s).rows (if t then only_apex else s).cols ≡ true
face_sets_form s true f = refl
face_sets_form s false f = f

face_forms : (a : State) → IsFormed a → IsReadable face_reads a → face_refusal a ≡ None → HaveForms (fan_cols a) (face_fan_of a)
face_forms a f r h =
    let parts = face_parts (is_polytope a.of) (is_true Bounded a) (is_true Centered a) (nat_le 2 (cols_at a)) (are_of_vertices a) (rows_pass (face_fan_of a)) h in
    let k = r (polytope_is a.of parts.0) in
    let some = leb-true 2 (cols_at a) parts.1 in
    let n = (known_columns face_reads a f k).1 in
    let vertices = known_rows face_reads Vertices a tt f k (there (there (there here))) in
    let index = known_sets face_reads VerticesInFacets a tt f k (there (there here)) in
    let cols : cols_at a ≡ suc (fan_cols a) = omega arith in
    let pass = (and_parts (list_all (is_row Fan Vertices) (face_rays a)) true parts.3).0 in
    let few : length (cut (rows_at Vertices a)) ≤ most_rows = (let l = vertices.few in let e = length-map (rows_at Vertices a) (λ (r : List Ratio). drop 1 r) in omega arith) in
    All-cons P (ConeAmbientDim, whole (pos (fan_cols a))) ((Vertices, value_over (fan_cols a) (face_rays a)) ∷ (MaximalCones, value_of_sets (face_cones a)) ∷ []) (dimension_form (fan_cols a) (omega arith) (omega arith))
    (All-cons P (Vertices, value_over (fan_cols a) (face_rays a)) ((MaximalCones, value_of_sets (face_cones a)) ∷ [])
    (face_rays_form a (is_point a) (omega arith) (omega arith) few
    (cut_rows a.of Vertices (fan_cols a) (rows_at Vertices a) (λ x i. subst (λ m. IsHeldRow a.of Vertices m x) cols (among_All (IsHeldRow a.of Vertices (cols_at a)) i vertices.each))) pass)
    (All-cons P (MaximalCones, value_of_sets (face_cones a)) [] (sets_form (fan_cols a) (face_cones a) (face_sets_form (sets_at VerticesInFacets a) (is_point a) index)) (All-nil P)))
  where
    P : PropId × PropertyValue → Type 0
    P v = FormsIn Fan (fan_cols a) v.0 v.1

pub fans_forms : FansHaveForms
fans_forms = record { normal = normal_forms; face = face_forms }
