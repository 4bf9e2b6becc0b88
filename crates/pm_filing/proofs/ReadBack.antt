-- The JSON of a value is a text of that value, so it is read as it.
use Rattle.std.proofs.Common.{refl, sym, ap, subst, arith, ◌∙◌, ◌≡◌, ◌<◌, ◌≤◌, ◌&&◌, ◌||◌, ℕ, suc, List, [], ◌∷◌, ◌++◌, length, map, Ok, Err, Bool, true, false, eqb, leb, ltb, true≢false, Some, None, bytes_eq}
use Rattle.std.proofs.lemmas.Bool.{and_from, and_parts, eqb-false, eqb-true, leb-true, lt-ltb, ne_eqb}
use Rattle.std.proofs.lemmas.List.Elements.{All-head, All-tail}
use Rattle.std.proofs.lemmas.Slice.Eq.{bytes_eq-Decides}
use Rattle.std.specs.List.{All, list_all, sum_by}
use Rattle.std.specs.Prelude.{codes, if◌then◌else◌, nat_eq, not}
use Rattle.serde_json.specs.View.{items_of as listed}
use Rattle.pm_vector.specs.Numbers.{Ratio}
use Rattle.pm_fraction.proofs.ReadsBack.{reads_text}
use Rattle.pm_fraction.specs.Text.{text_of}
use Rattle.pm_fraction.specs.Matrices.{IsFraction}
use Rattle.pm_json.proofs.FractionTexts.{text_read}
use Rattle.pm_json.proofs.GrammarReads.{read_of_text}
use Rattle.pm_json.proofs.Parts.{err_ok}
use Rattle.pm_json.specs.Grammar.{AreItems, AreJsonRows, AreJsonSets, HasColumnCount, IsArrayOf, IsEntryOf, IsIndexOf, IsMatrixOf, IsJsonRow, IsSetOf, IsJsonText, StatesCols, are_apart}
use Rattle.pm_json.specs.Readings.{has_index, is_fraction_text, number_value_of, object_behind, ratio_of_text, rows_before, whole_count_of}
use Rattle.pm_json.specs.declared.fail.ValueFail.TheVariants.{Number}
use Rattle.pm_props.specs.Properties.{is_ambient, is_of_counts, is_of_edges, is_of_lattices, is_of_matrices, is_of_sets, is_of_whole_numbers, value_kind}
use Rattle.pm_props.specs.declared.property.PropId.{PropId}
use Rattle.pm_props.specs.declared.property.PropId.TheVariants.{F2Vector, LinearObjective, SiteHeights}
use Rattle.pm_types.specs.Forms.{AreFractions, are_indices, are_joined_back, has_64_bits, is_counts_form, is_dimension, is_edges_form, is_formed, is_lattice_form, is_matrix_form, is_matrix_of, is_row_of_entries, is_sets_form, is_whole_form}
use Rattle.pm_types.specs.Values.{PropertyValue, matrix, sets, whole, truth, extended, edges, lattice, counts, Extended, finite, plus_infinity, minus_infinity}
use Rattle.pm_filing.specs.Laws.{ValuesAreReadBack}
use Rattle.pm_files.specs.ValueJson.{array_of, cols_json, edges_json, extended_json, fraction_json, index_json, json_of, matrix_json, row_json, rows_json, set_json, sets_json, whole_json}
use Rattle.serde_json.specs.Data.{Data, item}
use lib.IntN.{ℤ, pos, negsuc}
use Rattle.pm_limits.specs.Limits.{most_columns, most_faces, most_indices, most_places, most_rows}

-- each of a list is a text of its element
listed_texts : {A : Type 0} (Is : Data → A → Type 0) (f : A → Data) (xs : List A) → ((x : A) → Is (f x) x) → AreItems Is (listed (map f xs)) xs
listed_texts Is f [] h = tt
listed_texts Is f (x ∷ xs) h = (h x, listed_texts Is f xs h)

-- ---- rows
fraction_text : (q : Ratio) → IsFraction q → IsEntryOf (fraction_json q) q
fraction_text q f = sym (text_read (text_of q) q (reads_text q f.reduced f.in_range))

entries_text : (r : List Ratio) → All IsFraction r → AreItems IsEntryOf (listed (map fraction_json r)) r
entries_text [] h = tt
entries_text (q ∷ r) h = (fraction_text q (All-head IsFraction q r h), entries_text r (All-tail IsFraction q r h))

row_text : (r : List Ratio) → All IsFraction r → IsJsonRow (row_json r) r
row_text r h = (listed (map fraction_json r), refl, entries_text r h)

rows_text : (rows : List (List Ratio)) → All (All IsFraction) rows → AreItems IsJsonRow (listed (map row_json rows)) rows
rows_text [] h = tt
rows_text (r ∷ rows) h = (row_text r (All-head (All IsFraction) r rows h), rows_text rows (All-tail (All IsFraction) r rows h))

-- no object stands behind rows
rows_alone : (r : List Ratio) (rows : List (List Ratio)) → rows_before (listed (map row_json (r ∷ rows))) ≡ listed (map row_json (r ∷ rows))
rows_alone r [] = refl
rows_alone r (s ∷ rows) = ap (λ ds. item (row_json r) ds) (rows_alone s rows)

nothing_behind : (r : List Ratio) (rows : List (List Ratio)) → object_behind (listed (map row_json (r ∷ rows))) ≡ None
nothing_behind r [] = refl
nothing_behind r (s ∷ rows) = nothing_behind s rows

matrix_text : (least n : ℕ) (rows : List (List Ratio)) → least ≤ 1 → All (All IsFraction) rows → IsMatrixOf least (matrix_json n rows) n rows
matrix_text least n [] le h = by (eqb n 0) refl
  where
    by : (b : Bool) → eqb n 0 ≡ b → IsMatrixOf least (array_of (if b then [] else cols_json n ∷ [])) n []
    by true e = record { items = _; array = refl; each = tt; cols = eqb-true n 0 e }
    by false e = let other = eqb-false n 0 e in record { items = _; array = refl; each = tt; cols = (refl, omega (arith, other)) }
matrix_text least n (r ∷ rows) le h = record {
  items = listed (map row_json (r ∷ rows));
  array = refl;
  each = subst (λ ds. AreItems IsJsonRow ds (r ∷ rows)) (sym (rows_alone r rows)) (rows_text (r ∷ rows) h);
  cols = subst (λ o. StatesCols least o n (r ∷ rows)) (sym (nothing_behind r rows)) tt;
}

matrix_texts : (p : PropId) (n : ℕ) (rows : List (List Ratio)) → is_matrix_of p n rows ≡ true → All (All IsFraction) rows → AreJsonRows p (rows_json p n rows) n rows
matrix_texts LinearObjective n [] form h = absurd (true≢false (sym form))
matrix_texts LinearObjective n (r ∷ []) form h = (r, refl, row_text r (All-head (All IsFraction) r [] h))
matrix_texts LinearObjective n (r ∷ s ∷ rows) form h =
    let one = eqb-true (suc (suc (length rows))) 1 (and_parts (eqb (suc (suc (length rows))) 1) (is_matrix_form n (r ∷ s ∷ rows)) form).0 in
    absurd (omega arith)
matrix_texts SiteHeights n [] form h = absurd (true≢false (sym form))
matrix_texts SiteHeights n (r ∷ []) form h = (r, refl, row_text r (All-head (All IsFraction) r [] h))
matrix_texts SiteHeights n (r ∷ s ∷ rows) form h =
    let one = eqb-true (suc (suc (length rows))) 1 (and_parts (eqb (suc (suc (length rows))) 1) (leb n most_rows) (and_parts (eqb (suc (suc (length rows))) 1 && leb n most_rows) (list_all (is_row_of_entries n) (r ∷ s ∷ rows)) form).0).0 in
    absurd (omega arith)
matrix_texts F2Vector n rows form h = matrix_text 0 n rows (omega arith) h
matrix_texts p n rows form h = matrix_text 1 n rows (omega arith) h

-- ---- sets
-- an index below all has no like
none_below : (n low i : ℕ) (js : List ℕ) → are_indices n low js ≡ true → i < low → has_index i js ≡ false
none_below n low i [] h l = refl
none_below n low i (j ∷ js) h l =
    let p = and_parts (leb low j && ltb j n) (are_indices n (suc j) js) h in
    let q = leb-true low j (and_parts (leb low j) (ltb j n) p.0).0 in
    ap (λ t. t || has_index i js) (ne_eqb j i (λ e. omega arith)) ∙ none_below n (suc j) i js p.1 (omega arith)

ascending_apart : (n low : ℕ) (js : List ℕ) → are_indices n low js ≡ true → are_apart js ≡ true
ascending_apart n low [] h = refl
ascending_apart n low (j ∷ js) h =
    let p = and_parts (leb low j && ltb j n) (are_indices n (suc j) js) h in
    and_from (not (has_index j js)) (are_apart js) (ap not (none_below n (suc j) j js p.1 (omega arith))) (ascending_apart n (suc j) js p.1)

set_text : (n : ℕ) (js : List ℕ) → are_indices n 0 js ≡ true → IsSetOf (set_json js) js
set_text n js h = record { indices = js; array = (listed (map index_json js), refl, listed_texts IsIndexOf index_json js (λ j. refl)); apart = ascending_apart n 0 js h; members = λ j. refl }

sets_text : (n : ℕ) (rows : List (List ℕ)) → list_all (are_indices n 0) rows ≡ true → AreItems IsSetOf (listed (map set_json rows)) rows
sets_text n [] h = tt
sets_text n (set ∷ rows) h = let p = and_parts (are_indices n 0 set) (list_all (are_indices n 0) rows) h in (set_text n set p.0, sets_text n rows p.1)

-- the column count behind sets
sets_before : (n : ℕ) (rows : List (List ℕ)) → rows_before (listed (map set_json rows ++ cols_json n ∷ [])) ≡ listed (map set_json rows)
sets_before n [] = refl
sets_before n (set ∷ []) = refl
sets_before n (set ∷ other ∷ rows) = ap (λ ds. item (set_json set) ds) (sets_before n (other ∷ rows))

cols_behind : (n : ℕ) (rows : List (List ℕ)) → object_behind (listed (map set_json rows ++ cols_json n ∷ [])) ≡ Some (cols_json n)
cols_behind n [] = refl
cols_behind n (set ∷ []) = refl
cols_behind n (set ∷ other ∷ rows) = cols_behind n (other ∷ rows)

all_sets_text : (rows : List (List ℕ)) (n : ℕ) → list_all (are_indices n 0) rows ≡ true → AreJsonSets (sets_json rows n) rows n
all_sets_text rows n h = record {
  items = listed (map set_json rows ++ cols_json n ∷ []);
  array = refl;
  each = subst (λ ds. AreItems IsSetOf ds rows) (sym (sets_before n rows)) (sets_text n rows h);
  cols = subst (λ o. HasColumnCount o n rows) (sym (cols_behind n rows)) refl;
}

ranks_text : (ranks : List (List (List ℕ))) → list_all (list_all (are_indices most_indices 0)) ranks ≡ true → AreItems (IsArrayOf IsSetOf) (listed (map edges_json ranks)) ranks
ranks_text [] h = tt
ranks_text (faces ∷ ranks) h =
    let p = and_parts (list_all (are_indices most_indices 0) faces) (list_all (list_all (are_indices most_indices 0)) ranks) h in
    ((listed (map set_json faces), refl, sets_text most_rows faces p.0), ranks_text ranks p.1)

-- ---- numbers
number_text : (k : ℤ) → has_64_bits k ≡ true → whole_count_of (whole_json k) ≡ Ok k
number_text (pos n) h = rw h refl
number_text (negsuc n) h = refl

numbers_text : (ks : List ℤ) → list_all has_64_bits ks ≡ true → AreItems (λ d k. whole_count_of d ≡ Ok k) (listed (map whole_json ks)) ks
numbers_text [] h = tt
numbers_text (k ∷ ks) h = let p = and_parts (has_64_bits k) (list_all has_64_bits ks) h in (number_text k p.0, numbers_text ks p.1)

dimension_bits : (k : ℤ) → is_dimension k ≡ true → has_64_bits k ≡ true
dimension_bits (pos n) h = let p = and_parts (leb 1 n) (leb n most_columns) h in let few = leb-true n most_columns p.1 in lt-ltb n 9223372036854775808 (omega arith)
dimension_bits (negsuc n) h = absurd (true≢false (sym h))

whole_bits : (p : PropId) (k : ℤ) → is_whole_form p k ≡ true → has_64_bits k ≡ true
whole_bits p k form = by (is_ambient p) form
  where
    by : (t : Bool) → (if t then is_dimension k else is_of_whole_numbers (value_kind p) && has_64_bits k) ≡ true → has_64_bits k ≡ true
    by true h = dimension_bits k h
    by false h = (and_parts (is_of_whole_numbers (value_kind p)) (has_64_bits k) h).1

whole_text : (p : PropId) (k : ℤ) → has_64_bits k ≡ true → IsJsonText p (whole_json k) (whole k)
whole_text p (pos n) h = (_, refl, rw h refl)
whole_text p (negsuc n) h = (_, refl, refl)

-- the text of a fraction is none that has no digits before a slash
no_infinity : (q : Ratio) (text : List ℕ) → IsFraction q → is_fraction_text text ≡ false → bytes_eq (text_of q) text ≡ false
no_infinity q text f none = by (bytes_eq (text_of q) text) refl
  where
    by : (b : Bool) → bytes_eq (text_of q) text ≡ b → b ≡ false
    by false e = refl
    by true e =
        let same : text_of q ≡ text = (bytes_eq-Decides (text_of q) text).0 e in
        let back : ratio_of_text text ≡ Ok q = ap ratio_of_text (sym same) ∙ fraction_text q f in
        let fault : ratio_of_text text ≡ Err Number = rw none refl in
        absurd (err_ok Number q (sym fault ∙ back))

extended_text : (x : Extended) → AreFractions (extended x) → number_value_of (extended_json x) ≡ Ok x
extended_text (finite q) f = rw (no_infinity q (codes "inf") f refl, no_infinity q (codes "-inf") f refl, fraction_text q f) refl
extended_text plus_infinity f = refl
extended_text minus_infinity f = refl

-- ---- values
text_is : (p : PropId) (v : PropertyValue) → is_formed p v ≡ true → AreFractions v → IsJsonText p (json_of p v) v
text_is p (matrix n rows) form fractions = matrix_texts p n rows (and_parts (is_of_matrices (value_kind p)) (is_matrix_of p n rows) form).1 fractions
text_is p (sets rows n) form fractions =
    let f = and_parts (is_of_sets (value_kind p)) (is_sets_form rows n) form in
    all_sets_text rows n (and_parts (leb (length rows) most_rows && leb n most_rows) (list_all (are_indices n 0) rows) f.1).1
text_is p (whole k) form fractions = whole_text p k (whole_bits p k form)
text_is p (truth b) form fractions = refl
text_is p (counts ks) form fractions =
    let f = and_parts (is_of_counts (value_kind p)) (is_counts_form ks) form in
    (listed (map whole_json ks), refl, numbers_text ks (and_parts (leb (length ks) most_rows) (list_all has_64_bits ks) f.1).1)
text_is p (edges rows n) form fractions =
    let f = and_parts (is_of_edges (value_kind p)) (is_edges_form rows && nat_eq n (length rows)) form in
    let e = and_parts (is_edges_form rows) (nat_eq n (length rows)) f.1 in
    let s = and_parts (is_sets_form rows (length rows)) (are_joined_back rows 0 rows) e.0 in
    (listed (map set_json rows), refl, sets_text (length rows) rows (and_parts (leb (length rows) most_rows && leb (length rows) most_rows) (list_all (are_indices (length rows) 0) rows) s.0).1)
text_is p (lattice ranks) form fractions =
    let f = and_parts (is_of_lattices (value_kind p)) (is_lattice_form ranks) form in
    (listed (map edges_json ranks), refl, ranks_text ranks (and_parts (leb (sum_by length ranks) most_faces && leb (sum_by (sum_by length) ranks) most_places) (list_all (list_all (are_indices most_indices 0)) ranks) f.1).1)
text_is p (extended x) form fractions = extended_text x fractions

pub values_back : ValuesAreReadBack
values_back p v form fractions = read_of_text p (json_of p v) v (record { text = text_is p v form fractions; formed = form })
