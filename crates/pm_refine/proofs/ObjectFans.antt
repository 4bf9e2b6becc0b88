-- The fan of an object: its rays and lines have n entries, and its sets are of places of rays.
use Rattle.pm_vector.proofs.Filters.{map_among}
use Rattle.pm_vector.proofs.Lists.{All_among, Among, all_from, all_at, among_All, here, there}
use Rattle.pm_vector.specs.Numbers.{Ratio}
use Rattle.pm_vector.specs.Rows.{HasCols, Row}
use Rattle.pm_laws_normal_fans.proofs.Places.{among_at, map_length, place_at}
use Rattle.pm_fraction.specs.FractionRows.{ArePrimitiveRowsOf}
use Rattle.pm_object.proofs.KnownValues.{formed_is, rows_cols, rows_few}
use Rattle.pm_object.specs.Known.{IsOfRows}
use Rattle.pm_object_type.specs.declared.object_type.ObjectType.{ObjectType}
use Rattle.pm_props.specs.declared.property.PropId.{PropId}
use Rattle.pm_props.specs.declared.property.PropId.TheVariants.{MaximalCones}
use Rattle.pm_refine.specs.CutRows.{IsSmallFan, fan_from}
use Rattle.pm_refine.specs.ObjectFans.{rays_at}
use Rattle.pm_types.specs.Forms.{FormsIn, are_indices, is_column_count, is_matrix_form, is_row_of_entries}
use Rattle.pm_types.specs.Values.{matrix, sets}
use Rattle.std.proofs.Common.{ap, arith, refl, subst, suc, sym, true, ◌∙◌}
use Rattle.std.proofs.lemmas.Bool.{and_parts, eqb-true, leb-true, ltb-true}
use Rattle.std.proofs.lemmas.List.Sums.{AllPass-from_list_all}
use Rattle.std.specs.List.{All, list_all, slice_index_or}
use Rattle.std.specs.Prelude.{List, [], length, map, nat_le, nat_lt, ℕ, ◌&&◌, ◌+◌, ◌<◌, ◌^◌, ◌∷◌, ◌≡◌, ◌≤◌}
use Rattle.pm_limits.specs.Limits.{most_rows}

-- the sets, as they are formed
pub record AreFormedSets (rows : List (List ℕ)) (n : ℕ) : Type 0 where
  pub few : length rows ≤ most_rows
  pub few_places : n ≤ most_rows
  pub each : All (λ s. are_indices n 0 s ≡ true) rows

pub cones_are_formed : (of : ObjectType) (cols : ℕ) (rows : List (List ℕ)) (n : ℕ) → FormsIn of cols MaximalCones (sets rows n) → AreFormedSets rows n
cones_are_formed of cols rows n f =
    let p = and_parts (nat_le (length rows) most_rows && nat_le n most_rows) (list_all (are_indices n 0) rows) f.formed in
    let q = and_parts (nat_le (length rows) most_rows) (nat_le n most_rows) p.0 in
    record { few = leb-true (length rows) most_rows q.0; few_places = leb-true n most_rows q.1; each = AllPass-from_list_all (are_indices n 0) rows p.1 }

-- ---- indices
index_parts : (n low j : ℕ) (js : List ℕ) → are_indices n low (j ∷ js) ≡ true → (low ≤ j) × (j < n) × (are_indices n (suc j) js ≡ true)
index_parts n low j js h =
    let p = and_parts (nat_le low j && nat_lt j n) (are_indices n (suc j) js) h in
    let q = and_parts (nat_le low j) (nat_lt j n) p.0 in
    (leb-true low j q.0, ltb-true j n q.1, p.1)

indices_within : (n low : ℕ) (set : List ℕ) → are_indices n low set ≡ true → (j : ℕ) → Among j set → j < n
indices_within n low [] h j k = elim k [ ]
indices_within n low (i ∷ js) h _ here = (index_parts n low i js h).1
indices_within n low (i ∷ js) h j (there k) = indices_within n (suc i) js (index_parts n low i js h).2 j k

pub indices_below : (n : ℕ) (set : List ℕ) → are_indices n 0 set ≡ true → All (λ j. j < n) set
indices_below n set h = All_among (λ j. j < n) set (indices_within n 0 set h)

indices_few : (n low : ℕ) (set : List ℕ) → low ≤ n → are_indices n low set ≡ true → low + length set ≤ n
indices_few n low [] l h = omega arith
indices_few n low (j ∷ js) l h =
    let p = index_parts n low j js h in
    let a = p.0 in
    let b = p.1 in
    let c = indices_few n (suc j) js (omega arith) p.2 in
    omega arith

pub places_below : (n m : ℕ) (rows : List (List ℕ)) → n ≡ m → AreFormedSets rows n → All (λ s. All (λ j. j < m) s) rows
places_below n m rows e f = λ i d l. subst (λ k. All (λ j. j < k) (slice_index_or rows i d)) e (indices_below n (slice_index_or rows i d) (f.each i d l))

-- ---- rows of n entries
pub held_cols : (of : ObjectType) (n : ℕ) (p : PropId) (m : ℕ) (rows : List (List Ratio)) (xs : List Row) → IsOfRows p → FormsIn of n p (matrix m rows) → ArePrimitiveRowsOf rows xs → HasCols n xs
held_cols of n p m rows xs r f are = all_from (λ x. length x ≡ n) xs (λ x i. at x (place_at [] xs i))
  where
    form : is_matrix_form m rows ≡ true
    form = sym (formed_is p r (matrix m rows)) ∙ f.formed

    lengths : All (λ x. is_row_of_entries m x ≡ true) rows
    lengths = AllPass-from_list_all (is_row_of_entries m) rows (and_parts (nat_le (length rows) most_rows && is_column_count rows m) (list_all (is_row_of_entries m) rows) form).1

    at : (x : Row) → (k : ℕ) × (k < length xs) × (slice_index_or xs k [] ≡ x) → length x ≡ n
    at x w =
        let c = are.count in
        let l = w.1 in
        let within : w.0 < length rows = omega arith in
        ap length (sym w.2) ∙ (are.multiple w.0 within).cols ∙ eqb-true _ m (lengths w.0 [] within) ∙ rows_cols of n p m rows r f (omega arith)

pub held_few : (of : ObjectType) (n : ℕ) (p : PropId) (m : ℕ) (rows : List (List Ratio)) (xs : List Row) → IsOfRows p → FormsIn of n p (matrix m rows) → ArePrimitiveRowsOf rows xs → length xs ≤ most_rows
held_few of n p m rows xs r f are = let c = are.count in let l = rows_few of n p m rows r f in omega arith

-- ---- cones
rays_cols : (n : ℕ) (V : List Row) (set : List ℕ) → HasCols n V → ((j : ℕ) → Among j set → j < length V) → HasCols n (rays_at V set)
rays_cols n V [] h f = tt
rays_cols n V (j ∷ set) h f = (all_at (λ (x : Row). length x ≡ n) (among_at [] V j (f j here)) h, rays_cols n V set h (λ i k. f i (there k)))

rays_length : (V : List Row) (set : List ℕ) → length (rays_at V set) ≡ length set
rays_length V [] = refl
rays_length V (j ∷ set) = ap suc (rays_length V set)

mapped_all : {X Y : Type 0} (P : Y → Type 0) (g : X → Y) (xs : List X) → ((x : X) → Among x xs → P (g x)) → All P (map g xs)
mapped_all P g xs h = All_among P (map g xs) (λ y i. let (x, j, e) = map_among g xs i in subst P (sym e) (h x j))

pub small_fan : (n m : ℕ) (V L : List Row) (rows : List (List ℕ)) → HasCols n V → HasCols n L → length L ≤ most_rows → m ≡ length V → AreFormedSets rows m → IsSmallFan n (fan_from (map (rays_at V) rows) L)
small_fan n m V L rows hv hl few e f = record {
  cones = mapped_all (HasCols n) (rays_at V) rows (λ s i. rays_cols n V s hv (λ j k. subst (λ z. j < z) e (indices_within m 0 s (formed s i) j k)));
  lines = hl;
  few_cones = (let l = map_length (rays_at V) rows in let c = f.few in omega arith);
  few_rays = mapped_all (λ G. length G < 2 ^ 30) (rays_at V) rows (λ s i. let l = rays_length V s in let c = indices_few m 0 s (omega arith) (formed s i) in let d = f.few_places in omega arith);
  few_lines = omega arith;
}
  where
    formed : (s : List ℕ) → Among s rows → are_indices m 0 s ≡ true
    formed s i = among_All (λ s. are_indices m 0 s ≡ true) i f.each
