-- What the text of a value says is read as that value.
use Rattle.std.proofs.Common.{refl, sym, ap, subst, arith, cond, inl, inr, ◌∙◌, ◌≡◌, ◌<◌, ◌≤◌, ◌+◌, ◌&&◌, ◌||◌, ◌∷◌, ℕ, suc, List, [], length, Option, Some, None, Ok, Err, Bool, true, false, eqb, leb, ltb, true≢false}
use Rattle.std.proofs.lemmas.Bool.{and_from, and_parts, cases_lt, eq-eqb, eqb-false, eqb-true, le-leb, le-ltb, leb-true, lt-ltb, ltb-true, ne_eqb, not-true}
use Rattle.std.proofs.lemmas.List.Sums.{sum_by-cons}
use Rattle.std.specs.List.{list_all, sum_by}
use Rattle.std.specs.Prelude.{if◌then◌else◌, is_some, nat_eq, not}
use Rattle.pm_vector.specs.Numbers.{Ratio}
use Rattle.pm_json.proofs.Grammar.{IsCountOf, Stated, are_new, has_put, is_not}
use Rattle.pm_json.proofs.Parts.{and_then-ok, else-ok, err_ok, same_Ok}
use Rattle.pm_json.proofs.SetLimits.{above_sets_bound, set_keeps_limits}
use Rattle.pm_json.specs.Grammar.{AreItems, AreJsonRows, AreJsonSets, HasColumnCount, IsArrayOf, IsColsOf, IsEntryOf, IsIndexOf, IsJsonOf, IsMatrixOf, IsOneRowOf, IsJsonRow, IsSetOf, IsJsonText, StatesCols, are_apart}
use Rattle.pm_json.specs.Readings.{above_sets, and_then, cols_member, count_of, count_up_to_limit, counts_from, counts_of, edges_of, entries_from, face_from, faces_from, first_row_of, has_index, index_of, later_row_from, later_rows_from, lattice_of, matrix_of, matrix_reading, matrix_with, nodes_from, object_behind, one_row_of, ranks_from, reading, reading_of, rows_before, rows_from, set_from, sets_from, sets_of, stated_of, whole_number_of, whole_value, with_index}
use Rattle.pm_json.specs.declared.fail.ValueFail.{ValueFail}
use Rattle.pm_json.specs.declared.fail.ValueFail.TheVariants.{Shape, Limit}
use Rattle.pm_json.specs.Laws.{TextsAreRead}
use Rattle.pm_props.specs.Properties.{is_ambient, is_of_counts, is_of_edges, is_of_lattices, is_of_matrices, is_of_sets, is_of_truth_values, is_of_whole_numbers, value_kind}
use Rattle.pm_props.specs.declared.property.PropId.{PropId}
use Rattle.pm_props.specs.declared.property.PropId.TheVariants.{ConeAmbientDim, F2Vector, LinearObjective, SiteHeights, Sites}
use Rattle.pm_props.specs.declared.property.ValueKind.{ValueKind}
use Rattle.pm_props.specs.declared.property.ValueKind.TheVariants as kind
use Rattle.pm_types.specs.Forms.{are_indices, are_joined_back, has_64_bits, is_column_count, is_counts_form, is_dimension, is_edges_form, is_formed, is_lattice_form, is_list_form, is_matrix_form, is_matrix_of, is_of_numbers, is_row_of_entries, is_sets_form, is_table_form, is_whole_form}
use Rattle.pm_types.specs.Values.{PropertyValue, matrix, sets, whole, truth, counts, edges, lattice, extended}
use Rattle.serde_json.specs.Data.{Data, Items, item, no_items, null, boolean, number, string, array, object}
use Rattle.serde_json.specs.Find.{as_array, as_object}
use lib.IntN.{ℤ, pos}
use Rattle.pm_limits.specs.Limits.{most_columns, most_faces, most_indices, most_places, most_rows, most_site_columns}

-- ---- rows
entries_read : (most k : ℕ) (ds : Items) (r : List Ratio) → AreItems IsEntryOf ds r → k + length r ≤ most → entries_from most k ds ≡ Ok r
entries_read most k no_items [] h few = refl
entries_read most k no_items (q ∷ r) h few = absurd h
entries_read most k (item d ds) [] h few = absurd h
entries_read most k (item d ds) (q ∷ r) h few = rw (h.0, lt-ltb k most (omega arith), entries_read most (suc k) ds r h.1 (omega arith)) refl

first_read : (least most : ℕ) (ds : Items) (r : List Ratio) → AreItems IsEntryOf ds r → least ≤ length r → length r ≤ most → first_row_of least most ds ≡ Ok r
first_read least most ds r h some few = rw (entries_read most 0 ds r h (omega arith), le-ltb (length r) least some) refl

later_read : (n k : ℕ) (ds : Items) (r : List Ratio) → AreItems IsEntryOf ds r → k + length r ≡ n → later_row_from n k ds ≡ Ok r
later_read n k no_items [] h e = rw (eq-eqb k n (omega arith)) refl
later_read n k no_items (q ∷ r) h e = absurd h
later_read n k (item d ds) [] h e = absurd h
later_read n k (item d ds) (q ∷ r) h e = rw (lt-ltb k n (omega arith), h.0, later_read n (suc k) ds r h.1 (omega arith)) refl

rows_read : (n k : ℕ) (ds : Items) (rows : List (List Ratio)) → AreItems IsJsonRow ds rows → k + length rows ≤ most_rows → list_all (is_row_of_entries n) rows ≡ true → later_rows_from n k ds ≡ Ok rows
rows_read n k no_items [] h few long = refl
rows_read n k no_items (r ∷ rows) h few long = absurd h
rows_read n k (item d ds) [] h few long = absurd h
rows_read n k (item d ds) (r ∷ rows) ((es, is, row), h) few long =
    let p = and_parts (eqb (length r) n) (list_all (is_row_of_entries n) rows) long in
    rw (is, lt-ltb k most_rows (omega arith), later_read n 0 es r row (let e = eqb-true (length r) n p.0 in omega arith), rows_read n (suc k) ds rows h (omega arith) p.1) refl

-- ---- matrices
record HasRows (least most n : ℕ) (rows : List (List Ratio)) : Type 0 where
  few : length rows ≤ most_rows
  narrow : n ≤ most
  wide : (r : List Ratio) (others : List (List Ratio)) → rows ≡ r ∷ others → least ≤ n
  long : list_all (is_row_of_entries n) rows ≡ true

all_read : (least most n : ℕ) (ds : Items) (r : List Ratio) (rows : List (List Ratio)) → AreItems IsJsonRow ds (r ∷ rows) → HasRows least most n (r ∷ rows) → rows_from least most ds ≡ Ok (record { cols = n; rows = r ∷ rows })
all_read least most n no_items r rows h f = absurd h
all_read least most n (item d ds) r rows ((es, is, row), h) f =
    let p = and_parts (eqb (length r) n) (list_all (is_row_of_entries n) rows) f.long in
    let long : length r ≡ n = eqb-true (length r) n p.0 in
    let wide = f.wide r rows refl in
    let narrow = f.narrow in
    let few = f.few in
    rw (is, first_read least most es r row (omega arith) (omega arith), long, rows_read n 1 ds rows h (omega arith) p.1) refl

no_rows : (least most : ℕ) (ds : Items) → AreItems IsJsonRow ds [] → rows_from least most ds ≡ Ok (record { cols = 0; rows = [] })
no_rows least most no_items h = refl
no_rows least most (item d ds) h = absurd h

with_read : (least most n : ℕ) (ds : Items) (behind : Option Data) (rows : List (List Ratio)) → AreItems IsJsonRow ds rows → StatesCols least behind n rows → HasRows least most n rows → matrix_with least most ds behind ≡ Ok (record { cols = n; rows = rows })
with_read least most n ds None [] h c f = no_rows least most ds h ∙ ap (λ (k : ℕ). Ok (record { cols = k; rows = [] })) (sym c)
with_read least most n ds None (r ∷ rows) h c f = all_read least most n ds r rows h f
with_read least most n ds (Some d) [] h c f = let narrow = f.narrow in rw (no_rows least most ds h, c.0, le-leb least n c.1, le-leb n most narrow) refl
with_read least most n ds (Some d) (r ∷ rows) h c f =
    let more : eqb (suc (length rows)) 0 ≡ false = ne_eqb (suc (length rows)) 0 (λ e. omega arith) in
    let same : eqb n n ≡ true = eq-eqb n n refl in
    rw (all_read least most n ds r rows h f, c, more, same) refl

matrix_read : (least most n : ℕ) (d : Data) (rows : List (List Ratio)) → IsMatrixOf least d n rows → HasRows least most n rows → matrix_of least most d ≡ Ok (matrix n rows)
matrix_read least most n d rows m f = rw (m.array, with_read least most n (rows_before m.items) (object_behind m.items) rows m.each m.cols f) refl

has_rows : (n : ℕ) (rows : List (List Ratio)) → is_matrix_form n rows ≡ true → HasRows 1 most_columns n rows
has_rows n rows form =
    let p = and_parts (leb (length rows) most_rows && is_column_count rows n) (list_all (is_row_of_entries n) rows) form in
    let q = and_parts (leb (length rows) most_rows) (is_column_count rows n) p.0 in
    record { few = leb-true (length rows) most_rows q.0; narrow = narrow rows q.1; wide = λ r others e. wide r others (subst (λ (xs : List (List Ratio)). is_column_count xs n ≡ true) e q.1); long = p.1 }
  where
    narrow : (rows : List (List Ratio)) → is_column_count rows n ≡ true → n ≤ most_columns
    narrow [] h = leb-true n most_columns h
    narrow (r ∷ rows) h = leb-true n most_columns (and_parts (leb 1 n) (leb n most_columns) h).1

    wide : (r : List Ratio) (others : List (List Ratio)) → is_column_count (r ∷ others) n ≡ true → 1 ≤ n
    wide r others h = leb-true 1 n (and_parts (leb 1 n) (leb n most_columns) h).0

has_table : (n : ℕ) (rows : List (List Ratio)) → is_table_form n rows ≡ true → HasRows 0 most_columns n rows
has_table n rows form =
    let p = and_parts (leb (length rows) most_rows && leb n most_columns) (list_all (is_row_of_entries n) rows) form in
    let q = and_parts (leb (length rows) most_rows) (leb n most_columns) p.0 in
    record { few = leb-true (length rows) most_rows q.0; narrow = leb-true n most_columns q.1; wide = λ r others e. omega arith; long = p.1 }

objective_read : (n : ℕ) (d : Data) (rows : List (List Ratio)) → AreJsonRows LinearObjective d n rows → is_matrix_form n rows ≡ true → matrix_reading LinearObjective d ≡ Ok (matrix n rows)
objective_read n d rows (r, is, (ds, listed, row)) form =
    let f = has_rows n (r ∷ []) (subst (λ (xs : List (List Ratio)). is_matrix_form n xs ≡ true) is form) in
    let l = and_parts (eqb (length r) n) true f.long in
    let long : length r ≡ n = eqb-true (length r) n l.0 in
    let some = f.wide r [] refl in
    let most = f.narrow in
    rw (is, listed, first_read 1 most_columns ds r row (omega arith) (omega arith), long) refl

-- a list of heights
heights_read : (n : ℕ) (d : Data) (rows : List (List Ratio)) → IsOneRowOf d rows → is_list_form n rows ≡ true → one_row_of 0 most_rows d ≡ Ok (matrix n rows)
heights_read n d rows (r, is, (ds, listed, row)) form =
    let f = and_parts (leb n most_rows) (eqb (length r) n && true) (subst (λ (xs : List (List Ratio)). is_list_form n xs ≡ true) is form) in
    let few = leb-true n most_rows f.0 in
    let long : length r ≡ n = eqb-true (length r) n (and_parts (eqb (length r) n) true f.1).0 in
    rw (is, listed, first_read 0 most_rows ds r row (omega arith) (omega arith), long) refl

-- sites
sites_rows : (n : ℕ) (rows : List (List Ratio)) → is_matrix_of Sites n rows ≡ true → HasRows 1 most_site_columns n rows
sites_rows n rows form =
    let p = and_parts (leb n most_site_columns) (is_matrix_form n rows) form in
    let f = has_rows n rows p.1 in
    record { few = f.few; narrow = leb-true n most_site_columns p.0; wide = f.wide; long = f.long }

rows_json_read : (p : PropId) (n : ℕ) (d : Data) (rows : List (List Ratio)) → AreJsonRows p d n rows → is_matrix_of p n rows ≡ true → matrix_reading p d ≡ Ok (matrix n rows)
rows_json_read LinearObjective n d rows h form = objective_read n d rows h (and_parts (eqb (length rows) 1) (is_matrix_form n rows) form).1
rows_json_read SiteHeights n d rows h form = heights_read n d rows h form
rows_json_read F2Vector n d rows h form = matrix_read 0 most_columns n d rows h (has_table n rows form)
rows_json_read Sites n d rows h form = matrix_read 1 most_site_columns n d rows h (sites_rows n rows form)
rows_json_read p n d rows h form = matrix_read 1 most_columns n d rows h (has_rows n rows form)

-- ---- sets
index_read : (d : Data) (j : ℕ) → IsIndexOf d j → j < most_rows → index_of d ≡ Ok j
index_read d j h l = rw (h, lt-ltb j most_rows l) refl

abbrev are_small_indices : List ℕ → Bool
are_small_indices js = list_all (λ j. ltb j most_rows) js

-- what is new and another index is new beside that index
new_back : (j : ℕ) (front js : List ℕ) → are_new front js ≡ true → has_index j js ≡ false → are_new (with_index j front) js ≡ true
new_back j front [] h n = refl
new_back j front (k ∷ js) h n =
    let b = and_parts (not (has_index k front)) (are_new front js) h in
    let o = or_false (eqb k j) (has_index j js) n in
    let apart : eqb j k ≡ false = ne_eqb j k (λ e. true≢false (sym (eq-eqb k j (omega (arith, e))) ∙ o.0)) in
    and_from (not (has_index k (with_index j front))) (are_new (with_index j front) js)
    (is_not (has_index k (with_index j front)) (has_put k j front ∙ ap (λ t. t || has_index k front) apart ∙ not-true (has_index k front) b.0)) (new_back j front js b.1 o.1)
  where
    or_false : (a b : Bool) → (a || b) ≡ false → (a ≡ false) × (b ≡ false)
    or_false true b e = absurd (true≢false e)
    or_false false b e = (refl, e)

-- indices that are new to a set are read
record SetRead (front : List ℕ) (ds : Items) (js : List ℕ) : Type 0 where
  set : List ℕ
  read : set_from front ds ≡ Ok set
  members : (i : ℕ) → has_index i set ≡ (has_index i front || has_index i js)

no_more : (b : Bool) → b ≡ (b || false)
no_more true = refl
no_more false = refl

shuffled : (a b c : Bool) → ((a || b) || c) ≡ (b || (a || c))
shuffled true true c = refl
shuffled true false c = refl
shuffled false true c = refl
shuffled false false c = refl

set_read : (front : List ℕ) (ds : Items) (js : List ℕ) → AreItems IsIndexOf ds js → are_apart js ≡ true → are_new front js ≡ true → are_small_indices js ≡ true → SetRead front ds js
set_read front no_items [] h a n l = record { set = front; read = refl; members = λ i. no_more (has_index i front) }
set_read front no_items (j ∷ js) h a n l = absurd h
set_read front (item d ds) [] h a n l = absurd h
set_read front (item d ds) (j ∷ js) h a n l =
    let p = and_parts (not (has_index j js)) (are_apart js) a in
    let q = and_parts (not (has_index j front)) (are_new front js) n in
    let m = and_parts (ltb j most_rows) (are_small_indices js) l in
    let s = set_read (with_index j front) ds js h.1 p.1 (new_back j front js q.1 (not-true (has_index j js) p.0)) m.1 in
    record {
      set = s.set;
      read =
          ap (λ r. and_then r (λ i. if has_index i front then Err Shape else set_from (with_index i front) ds)) (index_read d j h.0 (ltb-true j most_rows m.0))
          ∙ ap (λ (t : Bool). if t then Err Shape else set_from (with_index j front) ds) (not-true (has_index j front) q.0) ∙ s.read;
      members = λ i. s.members i ∙ ap (λ b. b || has_index i js) (has_put i j front) ∙ shuffled (eqb j i) (has_index i front) (has_index i js);
    }

-- ascending sets with the same members are the same
below_none : (n low i : ℕ) (set : List ℕ) → are_indices n low set ≡ true → i < low → has_index i set ≡ false
below_none n low i [] h l = refl
below_none n low i (j ∷ set) h l =
    let p = and_parts (leb low j && ltb j n) (are_indices n (suc j) set) h in
    let q = leb-true low j (and_parts (leb low j) (ltb j n) p.0).0 in
    ap (λ t. t || has_index i set) (ne_eqb j i (λ e. omega arith)) ∙ below_none n (suc j) i set p.1 (omega arith)

first_in : (j : ℕ) (set : List ℕ) → has_index j (j ∷ set) ≡ true
first_in j set = ap (λ t. t || has_index j set) (eq-eqb j j refl)

weaker : (n low high : ℕ) (set : List ℕ) → low ≤ high → are_indices n high set ≡ true → are_indices n low set ≡ true
weaker n low high [] l h = refl
weaker n low high (j ∷ set) l h =
    let p = and_parts (leb high j && ltb j n) (are_indices n (suc j) set) h in
    let q = and_parts (leb high j) (ltb j n) p.0 in
    let r = leb-true high j q.0 in
    and_from (leb low j && ltb j n) (are_indices n (suc j) set) (and_from (leb low j) (ltb j n) (le-leb low j (omega arith)) q.1) p.1

parts_at : (n low j : ℕ) (set : List ℕ) → are_indices n low (j ∷ set) ≡ true → (low ≤ j) × (j < n) × (are_indices n (suc j) set ≡ true)
parts_at n low j set h =
    let p = and_parts (leb low j && ltb j n) (are_indices n (suc j) set) h in
    let q = and_parts (leb low j) (ltb j n) p.0 in
    (leb-true low j q.0, ltb-true j n q.1, p.1)

same_set : (n m low : ℕ) (xs ys : List ℕ) → are_indices n low xs ≡ true → are_indices m low ys ≡ true → ((i : ℕ) → has_index i xs ≡ has_index i ys) → xs ≡ ys
same_set n m low [] [] h g f = refl
same_set n m low [] (y ∷ ys) h g f = absurd (true≢false (sym (first_in y ys) ∙ sym (f y)))
same_set n m low (x ∷ xs) [] h g f = absurd (true≢false (sym (first_in x xs) ∙ f x))
same_set n m low (x ∷ xs) (y ∷ ys) h g f = by (eqb x y) refl (λ e t. same_set n m (suc x) xs ys (parts_at n low x xs h).2 e t)
  where
    a : (low ≤ x) × (x < n) × (are_indices n (suc x) xs ≡ true)
    a = parts_at n low x xs h

    b : (low ≤ y) × (y < m) × (are_indices m (suc y) ys ≡ true)
    b = parts_at m low y ys g

    later : x < y → ⊥
    later l =
        let none : has_index x (y ∷ ys) ≡ false = ap (λ t. t || has_index x ys) (ne_eqb y x (λ e. omega arith)) ∙ below_none m (suc y) x ys b.2 (omega arith) in
        true≢false (sym (first_in x xs) ∙ f x ∙ none)

    earlier : y < x → ⊥
    earlier l =
        let none : has_index y (x ∷ xs) ≡ false = ap (λ t. t || has_index y xs) (ne_eqb x y (λ e. omega arith)) ∙ below_none n (suc x) y xs a.2 (omega arith) in
        true≢false (sym (first_in y ys) ∙ sym (f y) ∙ none)

    tails : x ≡ y → (i : ℕ) → has_index i xs ≡ has_index i ys
    tails e i = at (eqb x i) refl
      where
        at : (t : Bool) → eqb x i ≡ t → has_index i xs ≡ has_index i ys
        at true s =
            let is : x ≡ i = eqb-true x i s in
            below_none n (suc x) i xs a.2 (omega arith) ∙ sym (below_none m (suc y) i ys b.2 (omega arith))
        at false s =
            let other : eqb y i ≡ false = subst (λ z. eqb z i ≡ false) e s in
            sym (ap (λ t. t || has_index i xs) s) ∙ f i ∙ ap (λ t. t || has_index i ys) other

    by : (t : Bool) → eqb x y ≡ t → (are_indices m (suc x) ys ≡ true → ((i : ℕ) → has_index i xs ≡ has_index i ys) → xs ≡ ys) → x ∷ xs ≡ y ∷ ys
    by true s rest =
        let is : x ≡ y = eqb-true x y s in
        ap (λ z. z ∷ xs) is ∙ ap (λ (l : List ℕ). y ∷ l) (rest (subst (λ z. are_indices m (suc z) ys ≡ true) (sym is) b.2) (tails is))
    by false s rest =
        let differ = eqb-false x y s in
        elim (cases_lt x y) [ inl l ↦ absurd (later l) | inr l ↦ absurd (earlier (omega (arith, differ))) ]

-- what is in an ascending set is below its bound
within : (n low j : ℕ) (set : List ℕ) → are_indices n low set ≡ true → has_index j set ≡ true → j < n
within n low j [] h i = absurd (true≢false (sym i))
within n low j (k ∷ set) h i = let p = parts_at n low k set h in by (eqb k j) refl i (λ r. within n (suc k) j set p.2 r) p.1
  where
    by : (t : Bool) → eqb k j ≡ t → (t || has_index j set) ≡ true → (has_index j set ≡ true → j < n) → k < n → j < n
    by true e r rest l = let same : k ≡ j = eqb-true k j e in omega arith
    by false e r rest l = rest r

all_within : (js : List ℕ) → ((j : ℕ) → has_index j js ≡ true → j < most_rows) → are_small_indices js ≡ true
all_within [] f = refl
all_within (k ∷ js) f = and_from (ltb k most_rows) (are_small_indices js) (lt-ltb k most_rows (f k (first_in k js))) (all_within js (λ j i. f j (later (eqb k j) (has_index j js) i)))
  where
    later : (a b : Bool) → b ≡ true → (a || b) ≡ true
    later true b h = refl
    later false b h = h

all_new : (js : List ℕ) → are_new [] js ≡ true
all_new [] = refl
all_new (j ∷ js) = all_new js

record SetIs (d : Data) (set : List ℕ) : Type 0 where
  items : Items
  array : as_array d ≡ Some items
  read : set_from [] items ≡ Ok set

set_is : (n : ℕ) (d : Data) (set : List ℕ) → IsSetOf d set → n ≤ most_rows → are_indices n 0 set ≡ true → SetIs d set
set_is n d set s few h = at s.array
  where
    at : IsArrayOf IsIndexOf d s.indices → SetIs d set
    at (ds, listed, items) =
        let r = set_read [] ds s.indices items s.apart (all_new s.indices) (all_within s.indices (λ j i. let l = within n 0 j set h (s.members j ∙ i) in omega arith)) in
        let low : are_indices most_indices 0 r.set ≡ true = set_keeps_limits [] ds r.set r.read refl in
        let same : r.set ≡ set = same_set most_rows n 0 r.set set low h (λ i. r.members i ∙ sym (s.members i)) in
        record { items = ds; array = listed; read = r.read ∙ ap (λ (x : List ℕ). Ok x) same }

-- the items of an array are read as its set
pub read_set_is : (d : Data) (ds : Items) (set : List ℕ) → as_array d ≡ Some ds → IsSetOf d set → are_indices most_indices 0 set ≡ true → set_from [] ds ≡ Ok set
read_set_is d ds set e s h =
    let r = set_is most_rows d set s (omega arith) h in
    ap (set_from []) (items_are ds r.items (sym e ∙ r.array)) ∙ r.read
  where
    items_are : (a b : Items) → Some a ≡ Some b → a ≡ b
    items_are a b g = cc

-- ---- lists of sets
nodes_read : (n k : ℕ) (ds : Items) (rows : List (List ℕ)) → AreItems IsSetOf ds rows → n ≤ most_rows → k + length rows ≤ most_rows → list_all (are_indices n 0) rows ≡ true → nodes_from k ds ≡ Ok rows
nodes_read n k no_items [] h few short l = refl
nodes_read n k no_items (set ∷ rows) h few short l = absurd h
nodes_read n k (item d ds) [] h few short l = absurd h
nodes_read n k (item d ds) (set ∷ rows) h few short l =
    let p = and_parts (are_indices n 0 set) (list_all (are_indices n 0) rows) l in
    let s = set_is n d set h.0 few p.0 in
    rw (s.array, lt-ltb k most_rows (omega arith), s.read, nodes_read n (suc k) ds rows h.1 few (omega arith) p.1) refl

no_object : (d : Data) (ds : Items) → as_array d ≡ Some ds → is_some (as_object d) ≡ false
no_object null ds e = refl
no_object (boolean b) ds e = refl
no_object (number n) ds e = refl
no_object (string s) ds e = refl
no_object (array es) ds e = refl
no_object (object ms) ds e = absurd (true≢false (sym (ap is_some e)))

stated_read : (d : Data) (n : ℕ) → IsColsOf d n → n ≤ most_rows → stated_of d ≡ Ok n
stated_read d n e few =
    and_then-ok (cols_member d) whole_number_of (pos n) e
    (λ c is f. ap (λ r. and_then r count_of) is ∙ ap (λ r. and_then r count_up_to_limit) f ∙ ap (λ (t : Bool). if t then Ok n else Err Limit) (le-leb n most_rows few))

sets_list_read : (n k : ℕ) (ds : Items) (rows : List (List ℕ)) (st : Option ℕ) → AreItems IsSetOf (rows_before ds) rows → Stated (object_behind ds) st → ((c : ℕ) → st ≡ Some c → c ≤ most_rows) → n ≤ most_rows → k + length rows ≤ most_rows → list_all (are_indices n 0) rows ≡ true
    → sets_from k ds ≡ Ok (record { rows = rows; stated = st })
sets_list_read n k no_items [] None h t b few short l = refl
sets_list_read n k no_items [] (Some c) h t b few short l = absurd t
sets_list_read n k no_items (set ∷ rows) st h t b few short l = absurd h
sets_list_read n k (item d no_items) rows st h t b few short l = by (is_some (as_object d)) refl rows st h t b short l
  where
    one : (rows : List (List ℕ)) (st : Option ℕ) → is_some (as_object d) ≡ false → AreItems IsSetOf (item d no_items) rows → Stated None st → k + length rows ≤ most_rows → list_all (are_indices n 0) rows ≡ true → sets_from k (item d no_items) ≡ Ok (record { rows = rows; stated = st })
    one [] st e g u s m = absurd g
    one (set ∷ []) None e g u s m =
        let p = and_parts (are_indices n 0 set) true m in
        let is = set_is n d set g.0 few p.0 in
        rw (e, is.array, lt-ltb k most_rows (omega arith), is.read) refl
    one (set ∷ []) (Some c) e g u s m = absurd u
    one (set ∷ other ∷ rows) st e g u s m = absurd g.1

    by : (t : Bool) → is_some (as_object d) ≡ t → (rows : List (List ℕ)) (st : Option ℕ) → AreItems IsSetOf (if t then no_items else item d no_items) rows → Stated (if t then Some d else None) st → ((c : ℕ) → st ≡ Some c → c ≤ most_rows)
        → k + length rows ≤ most_rows → list_all (are_indices n 0) rows ≡ true → sets_from k (item d no_items) ≡ Ok (record { rows = rows; stated = st })
    by true e [] (Some c) g u v s m = rw (e, stated_read d c u (v c refl)) refl
    by true e [] None g u v s m = absurd u
    by true e (set ∷ rows) st g u v s m = absurd g
    by false e rows st g u v s m = one rows st e g u s m
sets_list_read n k (item d (item x ds)) [] st h t b few short l = absurd h
sets_list_read n k (item d (item x ds)) (set ∷ rows) st h t b few short l =
    let p = and_parts (are_indices n 0 set) (list_all (are_indices n 0) rows) l in
    let s = set_is n d set h.0 few p.0 in
    rw (no_object d s.items s.array, s.array, lt-ltb k most_rows (omega arith), s.read, sets_list_read n (suc k) (item x ds) rows st h.1 t b few (omega arith) p.1) refl

sets_json_read : (d : Data) (rows : List (List ℕ)) (n : ℕ) → AreJsonSets d rows n → is_sets_form rows n ≡ true → sets_of d ≡ Ok (sets rows n)
sets_json_read d rows n s form = by (object_behind s.items) refl s.cols
  where
    p : (leb (length rows) most_rows && leb n most_rows ≡ true) × (list_all (are_indices n 0) rows ≡ true)
    p = and_parts (leb (length rows) most_rows && leb n most_rows) (list_all (are_indices n 0) rows) form

    q : (leb (length rows) most_rows ≡ true) × (leb n most_rows ≡ true)
    q = and_parts (leb (length rows) most_rows) (leb n most_rows) p.0

    short : length rows ≤ most_rows
    short = leb-true (length rows) most_rows q.0

    few : n ≤ most_rows
    few = leb-true n most_rows q.1

    one_is : (a c : ℕ) → Some a ≡ Some c → a ≡ c
    one_is a c e = cc

    by : (o : Option Data) → object_behind s.items ≡ o → HasColumnCount o n rows → sets_of d ≡ Ok (sets rows n)
    by None e h =
        let less = short in
        let list = sets_list_read n 0 s.items rows None s.each (subst (λ (x : Option Data). Stated x None) (sym e) tt) (λ c k. absurd (true≢false (sym (ap is_some k)))) few (omega arith) p.1 in
        rw (s.array, list) (ap (λ (k : ℕ). Ok (sets rows k)) (sym h))
    by (Some o) e h =
        let less = short in
        let low = few in
        let list = sets_list_read n 0 s.items rows (Some n) s.each (subst (λ (x : Option Data). Stated x (Some n)) (sym e) h) (λ c k. let i = one_is n c k in omega arith) few (omega arith) p.1 in
        rw (s.array, list, le-leb (above_sets rows) n (above_sets_bound n rows p.1)) refl

edges_read : (d : Data) (rows : List (List ℕ)) → IsArrayOf IsSetOf d rows → is_edges_form rows ≡ true → edges_of d ≡ Ok (edges rows (length rows))
edges_read d rows (ds, listed, items) form =
    let p = and_parts (is_sets_form rows (length rows)) (are_joined_back rows 0 rows) form in
    let q = and_parts (leb (length rows) most_rows && leb (length rows) most_rows) (list_all (are_indices (length rows) 0) rows) p.0 in
    let few = leb-true (length rows) most_rows (and_parts (leb (length rows) most_rows) (leb (length rows) most_rows) q.0).0 in
    rw (listed, nodes_read (length rows) 0 ds rows items few (omega arith) q.1, le-leb (above_sets rows) (length rows) (above_sets_bound (length rows) rows q.1), p.1) refl

-- ---- lattices
length_put : (j : ℕ) (set : List ℕ) → length (with_index j set) ≡ suc (length set)
length_put j [] = refl
length_put j (k ∷ set) = by (ltb j k) (length_put j set)
  where
    by : (t : Bool) → length (with_index j set) ≡ suc (length set) → length (if t then j ∷ k ∷ set else k ∷ with_index j set) ≡ suc (suc (length set))
    by true e = refl
    by false e = ap suc e

set_longer : (front : List ℕ) (ds : Items) (set : List ℕ) → set_from front ds ≡ Ok set → length front ≤ length set
set_longer front no_items set e = let same = ap length (same_Ok front set e) in omega arith
set_longer front (item d ds) set e =
    and_then-ok (index_of d) (λ j. cond (has_index j front) (Err Shape) (set_from (with_index j front) ds)) set e
    (λ j is f. let p = else-ok (has_index j front) (set_from (with_index j front) ds) Shape set f in
    let long = set_longer (with_index j front) ds set p.1 in
    let put = length_put j front in
    omega arith)

-- a face is read as a set is, where the lattice has room for it
face_read : (k : ℕ) (front : List ℕ) (ds : Items) (set : List ℕ) → set_from front ds ≡ Ok set → k + length set ≤ most_places + length front → face_from k front ds ≡ Ok set
face_read k front no_items set e few = e
face_read k front (item d ds) set e few =
    and_then-ok (index_of d) (λ j. cond (has_index j front) (Err Shape) (set_from (with_index j front) ds)) set e
    (λ j is f. let p = else-ok (has_index j front) (set_from (with_index j front) ds) Shape set f in
    let long = set_longer (with_index j front) ds set p.1 in
    let put = length_put j front in
    rw (is, p.0, lt-ltb k most_places (omega arith)) (face_read (suc k) (with_index j front) ds set p.1 (omega arith)))

faces_read : (m k : ℕ) (ds : Items) (faces : List (List ℕ)) → AreItems IsSetOf ds faces → m + length faces ≤ most_faces → k + sum_by length faces ≤ most_places → list_all (are_indices most_indices 0) faces ≡ true → faces_from m k ds ≡ Ok faces
faces_read m k no_items [] h few short l = refl
faces_read m k no_items (face ∷ faces) h few short l = absurd h
faces_read m k (item d ds) [] h few short l = absurd h
faces_read m k (item d ds) (face ∷ faces) h few short l =
    let p = and_parts (are_indices most_indices 0 face) (list_all (are_indices most_indices 0) faces) l in
    let places = sum_by-cons length face faces in
    let s = set_is most_rows d face h.0 (omega arith) p.0 in
    rw (s.array, lt-ltb m most_faces (omega arith), face_read k [] s.items face s.read (omega arith), faces_read (suc m) (k + length face) ds faces h.1 (omega arith) (omega arith) p.1) refl

ranks_read : (m k : ℕ) (ds : Items) (ranks : List (List (List ℕ))) → AreItems (IsArrayOf IsSetOf) ds ranks → m + sum_by length ranks ≤ most_faces → k + sum_by (sum_by length) ranks ≤ most_places → list_all (list_all (are_indices most_indices 0)) ranks ≡ true → ranks_from m k ds ≡ Ok ranks
ranks_read m k no_items [] h few short l = refl
ranks_read m k no_items (faces ∷ ranks) h few short l = absurd h
ranks_read m k (item d ds) [] h few short l = absurd h
ranks_read m k (item d ds) (faces ∷ ranks) ((es, listed, items), h) few short l =
    let p = and_parts (list_all (are_indices most_indices 0) faces) (list_all (list_all (are_indices most_indices 0)) ranks) l in
    let all = sum_by-cons length faces ranks in
    let places = sum_by-cons (sum_by length) faces ranks in
    rw (listed, faces_read m k es faces items (omega arith) (omega arith) p.0, ranks_read (m + length faces) (k + sum_by length faces) ds ranks h (omega arith) (omega arith) p.1) refl

lattice_read : (d : Data) (ranks : List (List (List ℕ))) → IsArrayOf (IsArrayOf IsSetOf) d ranks → is_lattice_form ranks ≡ true → lattice_of d ≡ Ok (lattice ranks)
lattice_read d ranks (ds, listed, items) form =
    let p = and_parts (leb (sum_by length ranks) most_faces && leb (sum_by (sum_by length) ranks) most_places) (list_all (list_all (are_indices most_indices 0)) ranks) form in
    let q = and_parts (leb (sum_by length ranks) most_faces) (leb (sum_by (sum_by length) ranks) most_places) p.0 in
    let faces = leb-true (sum_by length ranks) most_faces q.0 in
    let places = leb-true (sum_by (sum_by length) ranks) most_places q.1 in
    rw (listed, ranks_read 0 0 ds ranks items (omega arith) (omega arith) p.1) refl

-- ---- numbers
numbers_read : (k : ℕ) (ds : Items) (ks : List ℤ) → AreItems IsCountOf ds ks → k + length ks ≤ most_rows → counts_from k ds ≡ Ok ks
numbers_read k no_items [] h few = refl
numbers_read k no_items (z ∷ ks) h few = absurd h
numbers_read k (item d ds) [] h few = absurd h
numbers_read k (item d ds) (z ∷ ks) h few = rw (h.0, lt-ltb k most_rows (omega arith), numbers_read (suc k) ds ks h.1 (omega arith)) refl

counts_read : (d : Data) (ks : List ℤ) → IsArrayOf IsCountOf d ks → is_counts_form ks ≡ true → counts_of d ≡ Ok (counts ks)
counts_read d ks (ds, listed, items) form =
    let few = leb-true (length ks) most_rows (and_parts (leb (length ks) most_rows) (list_all has_64_bits ks) form).0 in
    rw (listed, numbers_read 0 ds ks items (omega arith)) refl

whole_is : (p : PropId) (k : ℤ) → is_whole_form p k ≡ true → whole_value p k ≡ Ok (whole k)
whole_is p k form = by (is_ambient p) refl form
  where
    by : (t : Bool) → is_ambient p ≡ t → (if t then is_dimension k else is_of_whole_numbers (value_kind p) && has_64_bits k) ≡ true → (if t && not (is_dimension k) then Err Limit else Ok (whole k)) ≡ Ok (whole k)
    by true e h = ap (λ b. if not b then Err Limit else Ok (whole k)) h
    by false e h = refl

-- ---- kinds
matrix_kind : (k : ValueKind) → is_of_matrices k ≡ true → k ≡ kind.Mat
matrix_kind kind.Mat h = refl
matrix_kind k h = absurd (true≢false (sym h))

sets_kind : (k : ValueKind) → is_of_sets k ≡ true → k ≡ kind.Sets
sets_kind kind.Sets h = refl
sets_kind k h = absurd (true≢false (sym h))

whole_kind : (k : ValueKind) → is_of_whole_numbers k ≡ true → k ≡ kind.Int
whole_kind kind.Int h = refl
whole_kind k h = absurd (true≢false (sym h))

truth_kind : (k : ValueKind) → is_of_truth_values k ≡ true → k ≡ kind.Bool
truth_kind kind.Bool h = refl
truth_kind k h = absurd (true≢false (sym h))

counts_kind : (k : ValueKind) → is_of_counts k ≡ true → k ≡ kind.Counts
counts_kind kind.Counts h = refl
counts_kind k h = absurd (true≢false (sym h))

edges_kind : (k : ValueKind) → is_of_edges k ≡ true → k ≡ kind.Edges
edges_kind kind.Edges h = refl
edges_kind k h = absurd (true≢false (sym h))

lattice_kind : (k : ValueKind) → is_of_lattices k ≡ true → k ≡ kind.Lattice
lattice_kind kind.Lattice h = refl
lattice_kind k h = absurd (true≢false (sym h))

extended_kind : (k : ValueKind) → is_of_numbers k ≡ true → k ≡ kind.Number
extended_kind kind.Number h = refl
extended_kind k h = absurd (true≢false (sym h))

-- the number of columns is a whole number
ambient_kind : (p : PropId) → is_ambient p ≡ true → value_kind p ≡ kind.Int
ambient_kind ConeAmbientDim h = refl
ambient_kind p h = absurd (true≢false (sym h))

whole_form_kind : (p : PropId) (k : ℤ) → is_whole_form p k ≡ true → value_kind p ≡ kind.Int
whole_form_kind p k form = by (is_ambient p) refl form
  where
    by : (t : Bool) → is_ambient p ≡ t → (if t then is_dimension k else is_of_whole_numbers (value_kind p) && has_64_bits k) ≡ true → value_kind p ≡ kind.Int
    by true e h = ambient_kind p e
    by false e h = whole_kind (value_kind p) (and_parts (is_of_whole_numbers (value_kind p)) (has_64_bits k) h).0

-- ---- values
pub read_of_text : (p : PropId) (d : Data) (v : PropertyValue) → IsJsonOf p d v → reading p d ≡ Ok v
read_of_text p d v j = by v j.text j.formed
  where
    by : (v : PropertyValue) → IsJsonText p d v → is_formed p v ≡ true → reading p d ≡ Ok v
    by (matrix n rows) t form =
        let f = and_parts (is_of_matrices (value_kind p)) (is_matrix_of p n rows) form in
        ap (λ k. reading_of k p d) (matrix_kind (value_kind p) f.0) ∙ rows_json_read p n d rows t f.1
    by (sets rows n) t form =
        let f = and_parts (is_of_sets (value_kind p)) (is_sets_form rows n) form in
        ap (λ k. reading_of k p d) (sets_kind (value_kind p) f.0) ∙ sets_json_read d rows n t f.1
    by (whole k) (n, is, bits) form = ap (λ k. reading_of k p d) (whole_form_kind p k form) ∙ rw (is, bits) (whole_is p k form)
    by (truth b) t form = ap (λ k. reading_of k p d) (truth_kind (value_kind p) form) ∙ rw t refl
    by (counts ks) t form =
        let f = and_parts (is_of_counts (value_kind p)) (is_counts_form ks) form in
        ap (λ k. reading_of k p d) (counts_kind (value_kind p) f.0) ∙ counts_read d ks t f.1
    by (edges rows n) t form =
        let f = and_parts (is_of_edges (value_kind p)) (is_edges_form rows && nat_eq n (length rows)) form in
        let e = and_parts (is_edges_form rows) (nat_eq n (length rows)) f.1 in
        ap (λ k. reading_of k p d) (edges_kind (value_kind p) f.0) ∙ edges_read d rows t e.0 ∙ ap (λ k. Ok (edges rows k)) (sym (eqb-true n (length rows) e.1))
    by (lattice ranks) t form =
        let f = and_parts (is_of_lattices (value_kind p)) (is_lattice_form ranks) form in
        ap (λ k. reading_of k p d) (lattice_kind (value_kind p) f.0) ∙ lattice_read d ranks t f.1
    by (extended x) t form = ap (λ k. reading_of k p d) (extended_kind (value_kind p) form) ∙ rw t refl

-- what is not read is no text
pub no_text : (k : ValueKind) (p : PropId) (d : Data) (e : ValueFail) → value_kind p ≡ k → reading_of k p d ≡ Err e → (v : PropertyValue) → IsJsonOf p d v → ⊥
no_text k p d e is fault v j = err_ok e v (sym fault ∙ ap (λ x. reading_of x p d) (sym is) ∙ read_of_text p d v j)

pub texts_are_read : TextsAreRead
texts_are_read = record { read = read_of_text; one_value = λ p d v w j k. same_Ok v w (sym (read_of_text p d v j) ∙ read_of_text p d w k) }
