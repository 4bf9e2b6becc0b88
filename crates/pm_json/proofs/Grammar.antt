-- What is read is what the text says, and what the text says is read.
use Rattle.std.proofs.Common.{refl, sym, ap, subst, arith, ◌∙◌, ◌≡◌, ◌≤◌, ◌+◌, ◌&&◌, ◌||◌, ◌∷◌, ℕ, suc, List, [], length, Option, Some, None, Ok, Err, Bool, true, false, cond, eqb, leb, ltb, true≢false}
use Rattle.std.proofs.lemmas.Bool.{and_from, and_parts, eq-eqb, eqb-true, leb-true, ne_eqb}
use Rattle.std.specs.List.{list_all, sum_by}
use Rattle.std.specs.Prelude.{⊤, if◌then◌else◌, is_some, not}
use Rattle.pm_vector.specs.Numbers.{Ratio}
use Rattle.pm_json.proofs.Parts.{and_then-ok, else-ok, err_ok, same_Ok, then-ok}
use Rattle.pm_json.specs.Grammar.{AreItems, AreJsonSets, HasColumnCount, IsArrayOf, IsColsOf, IsEntryOf, IsIndexOf, IsJsonOf, IsMatrixOf, IsOneRowOf, IsJsonRow, IsSetOf, IsJsonText, StatesCols, are_apart}
use Rattle.pm_json.specs.Readings.{Read, SetsSeen, above_sets, and_then, before, before_sets, cols_member, count_of, count_up_to_limit, counts_from, edges_with, entries_from, entry_of, face_from, faces_from, first_row_of, has_index, index_below_limit, index_of, items_of, later_row_from, later_rows_from, matrix_from, matrix_of, matrix_reading, matrix_with, nodes_from, number_value_of, object_behind, one_row_of, only_cols, or_fault, ranks_from, reading, reading_of, rows_before, rows_from, set_from, sets_from, sets_of, sets_with, stated_last, stated_of, whole_count_of, whole_number_of, whole_of, whole_value, with_cols, with_index}
use Rattle.pm_json.specs.declared.fail.ValueFail.{ValueFail}
use Rattle.pm_json.specs.declared.fail.ValueFail.TheVariants.{Shape, Number, Index, Limit}
use Rattle.pm_fraction.specs.Matrices.{FractionMatrix}
use Rattle.pm_props.specs.Properties.{is_ambient, value_kind}
use Rattle.pm_props.specs.declared.property.PropId.{PropId}
use Rattle.pm_props.specs.declared.property.PropId.TheVariants.{F2Vector, LinearObjective, SiteHeights, Sites}
use Rattle.pm_props.specs.declared.property.ValueKind.{ValueKind}
use Rattle.pm_props.specs.declared.property.ValueKind.TheVariants as kind
use Rattle.pm_types.specs.Forms.{are_joined_back, is_dimension, is_formed, is_number}
use Rattle.pm_types.specs.Values.{PropertyValue, matrix, sets, whole, truth, counts, edges, lattice, extended}
use Rattle.serde_json.specs.Data.{Data, Items, item, no_items, null, boolean, number, string, array, object}
use Rattle.serde_json.specs.Find.{as_array, as_bool, as_i64, as_number, as_object}
use lib.IntN.{ℤ, pos, negsuc}
use Rattle.pm_limits.specs.Limits.{most_columns, most_faces, most_places, most_rows, most_site_columns}

-- ---- from a reading to its text: arrays
some_from : {A : Type 0} (fault : ValueFail) (o : Option A) (a : A) → or_fault fault o ≡ Ok a → o ≡ Some a
some_from fault None a e = absurd (err_ok fault a e)
some_from fault (Some x) a e = ap Some (same_Ok x a e)

-- the items of an array
array_from : {A : Type 0} (Is : Data → A → Type 0) (d : Data) (ds : Items) (others : List A) → items_of d ≡ Ok ds → AreItems Is ds others → IsArrayOf Is d others
array_from Is d ds others e h = (ds, some_from Shape (as_array d) ds e, h)

-- the first of a list, and the others
list_from : {A : Type 0} (Is : Data → A → Type 0) (d : Data) (ds : Items) (a : A) (others : Read (List A)) (out : List A) → before a others ≡ Ok out → Is d a → ((xs : List A) → others ≡ Ok xs → AreItems Is ds xs) → AreItems Is (item d ds) out
list_from {A} Is d ds a others out e first rest =
    and_then-ok others (λ xs. Ok (a ∷ xs)) out e (λ xs is f. subst (λ (ys : List A). AreItems Is (item d ds) ys) (same_Ok (a ∷ xs) out f) (first, rest xs is))

-- ---- rows
entries_told : (most k : ℕ) (ds : Items) (r : List Ratio) → entries_from most k ds ≡ Ok r → AreItems IsEntryOf ds r
entries_told most k no_items r e = subst (AreItems IsEntryOf no_items) (same_Ok [] r e) tt
entries_told most k (item d ds) r e =
    and_then-ok (entry_of d) (λ q. cond (ltb k most) (before q (entries_from most (suc k) ds)) (Err Limit)) r e
    (λ q is f. let p = then-ok (ltb k most) (before q (entries_from most (suc k) ds)) Limit r f in
    list_from IsEntryOf d ds q (entries_from most (suc k) ds) r p.1 is (λ xs g. entries_told most (suc k) ds xs g))

first_told : (least most : ℕ) (ds : Items) (r : List Ratio) → first_row_of least most ds ≡ Ok r → AreItems IsEntryOf ds r
first_told least most ds r e =
    and_then-ok (entries_from most 0 ds) (λ x. cond (ltb (length x) least) (Err Limit) (Ok x)) r e
    (λ x is f. let p = else-ok (ltb (length x) least) (Ok x) Limit r f in subst (AreItems IsEntryOf ds) (same_Ok x r p.1) (entries_told most 0 ds x is))

later_told : (n k : ℕ) (ds : Items) (r : List Ratio) → later_row_from n k ds ≡ Ok r → AreItems IsEntryOf ds r
later_told n k no_items r e = let p = then-ok (eqb k n) (Ok []) Shape r e in subst (AreItems IsEntryOf no_items) (same_Ok [] r p.1) tt
later_told n k (item d ds) r e =
    let p = then-ok (ltb k n) (and_then (entry_of d) (λ q. before q (later_row_from n (suc k) ds))) Shape r e in
    and_then-ok (entry_of d) (λ q. before q (later_row_from n (suc k) ds)) r p.1
    (λ q is f. list_from IsEntryOf d ds q (later_row_from n (suc k) ds) r f is (λ xs g. later_told n (suc k) ds xs g))

rows_told : (n k : ℕ) (ds : Items) (rows : List (List Ratio)) → later_rows_from n k ds ≡ Ok rows → AreItems IsJsonRow ds rows
rows_told n k no_items rows e = subst (AreItems IsJsonRow no_items) (same_Ok [] rows e) tt
rows_told n k (item d ds) rows e =
    and_then-ok (items_of d) (λ es. cond (ltb k most_rows) (and_then (later_row_from n 0 es) (λ r. before r (later_rows_from n (suc k) ds))) (Err Limit)) rows e
    (λ es is f. let p = then-ok (ltb k most_rows) (and_then (later_row_from n 0 es) (λ r. before r (later_rows_from n (suc k) ds))) Limit rows f in
    and_then-ok (later_row_from n 0 es) (λ r. before r (later_rows_from n (suc k) ds)) rows p.1
    (λ r row g. list_from IsJsonRow d ds r (later_rows_from n (suc k) ds) rows g (array_from IsEntryOf d es r is (later_told n 0 es r row)) (λ xs h. rows_told n (suc k) ds xs h)))

-- ---- matrices
matrix_is : (a b : FractionMatrix) → (let r : Read FractionMatrix = Ok a in r) ≡ Ok b → a ≡ b
matrix_is a b e = same_Ok a b e

record IsRead (ds : Items) (m : FractionMatrix) : Type 0 where
  each : AreItems IsJsonRow ds m.rows
  none : StatesCols 0 None m.cols m.rows

all_told : (least most : ℕ) (ds : Items) (m : FractionMatrix) → rows_from least most ds ≡ Ok m → IsRead ds m
all_told least most no_items m e = subst (λ (x : FractionMatrix). IsRead no_items x) (same_Ok (record { cols = 0; rows = [] }) m e) (record { each = tt; none = refl })
all_told least most (item d ds) m e =
    and_then-ok (items_of d) (λ es. and_then (first_row_of least most es) (λ r. and_then (before r (later_rows_from (length r) 1 ds)) (λ rows. Ok (record { cols = length r; rows = rows })))) m e
    (λ es is f. and_then-ok (first_row_of least most es) (λ r. and_then (before r (later_rows_from (length r) 1 ds)) (λ rows. Ok (record { cols = length r; rows = rows }))) m f
    (λ r first g. and_then-ok (before r (later_rows_from (length r) 1 ds)) (λ rows. Ok (record { cols = length r; rows = rows })) m g
    (λ rows more h. and_then-ok (later_rows_from (length r) 1 ds) (λ xs. Ok (r ∷ xs)) rows more
    (λ xs rest u.
    let all : r ∷ xs ≡ rows = same_Ok (r ∷ xs) rows u in
    subst (λ (x : FractionMatrix). IsRead (item d ds) x) (ap (λ (ys : List (List Ratio)). record { cols = length r; rows = ys }) all ∙ same_Ok (record { cols = length r; rows = rows }) m h)
    (record { each = (array_from IsEntryOf d es r is (first_told least most es r first), rows_told (length r) 1 ds xs rest); none = tt })))))

-- with a column count behind the rows
record IsReadWith (least : ℕ) (ds : Items) (behind : Option Data) (m : FractionMatrix) : Type 0 where
  each : AreItems IsJsonRow ds m.rows
  cols : StatesCols least behind m.cols m.rows

only_told : (least most : ℕ) (z : ℤ) (m : FractionMatrix) → only_cols least most z ≡ Ok m → (m.rows ≡ []) × (z ≡ pos m.cols) × (least ≤ m.cols)
only_told least most (pos n) m e =
    let p = then-ok (leb least n && leb n most) (Ok (record { cols = n; rows = [] })) Limit m e in
    let is = same_Ok (record { cols = n; rows = [] }) m p.1 in
    let low = leb-true least n (and_parts (leb least n) (leb n most) p.0).0 in
    (sym (ap (λ (x : FractionMatrix). x.rows) is), ap (λ (x : FractionMatrix). pos x.cols) is, subst (λ (x : FractionMatrix). least ≤ x.cols) is low)
only_told least most (negsuc n) m e = absurd (err_ok Limit m e)

number_is : (z : ℤ) (n : ℕ) → is_number z n ≡ true → z ≡ pos n
number_is (pos k) n e = ap pos (eqb-true k n e)
number_is (negsuc k) n e = absurd (true≢false (sym e))

with_told : (least most : ℕ) (ds : Items) (d : Data) (m out : FractionMatrix) (z : ℤ) → IsRead ds m → and_then (cols_member d) whole_number_of ≡ Ok z → with_cols least most m z ≡ Ok out → IsReadWith least ds (Some d) out
with_told least most ds d m out z r c e = by m.rows refl e
  where
    by : (rows : List (List Ratio)) → m.rows ≡ rows → cond (eqb (length rows) 0) (only_cols least most z) (cond (is_number z m.cols) (Ok m) (Err Shape)) ≡ Ok out → IsReadWith least ds (Some d) out
    by [] is f =
        let o = only_told least most z out f in
        record {
          each = subst (AreItems IsJsonRow ds) (is ∙ sym o.0) r.each;
          cols = subst (λ (rows : List (List Ratio)). StatesCols least (Some d) out.cols rows) (sym o.0) (c ∙ ap (λ (x : ℤ). Ok x) o.1, o.2);
        }
    by (row ∷ rows) is f =
        let more : eqb (suc (length rows)) 0 ≡ false = ne_eqb (suc (length rows)) 0 (λ e. omega arith) in
        let p = then-ok (is_number z m.cols) (Ok m) Shape out (rw more at f) in
        let same : m ≡ out = same_Ok m out p.1 in
        let stated : IsColsOf d m.cols = c ∙ ap (λ (x : ℤ). Ok x) (number_is z m.cols p.0) in
        subst (λ (x : FractionMatrix). IsReadWith least ds (Some d) x) same (record { each = r.each; cols = subst (λ (xs : List (List Ratio)). StatesCols least (Some d) m.cols xs) (sym is) stated })

matrix_told : (least most : ℕ) (ds : Items) (behind : Option Data) (m : FractionMatrix) → matrix_with least most ds behind ≡ Ok m → IsReadWith least ds behind m
matrix_told least most ds None m e = let r = all_told least most ds m e in record { each = r.each; cols = any_least m.rows r.none }
  where
    any_least : (rows : List (List Ratio)) → StatesCols 0 None m.cols rows → StatesCols least None m.cols rows
    any_least [] h = h
    any_least (r ∷ rows) h = h
matrix_told least most ds (Some d) m e =
    and_then-ok (rows_from least most ds) (λ x. and_then (and_then (cols_member d) whole_number_of) (with_cols least most x)) m e
    (λ x is f. and_then-ok (and_then (cols_member d) whole_number_of) (with_cols least most x) m f (λ z c g. with_told least most ds d x m z (all_told least most ds x is) c g))

value_is : (a b : PropertyValue) → (let r : Read PropertyValue = Ok a in r) ≡ Ok b → a ≡ b
value_is a b e = same_Ok a b e

-- what is read as a matrix is the text of one
abbrev IsMatrixText : ℕ → Data → PropertyValue → Type 0
IsMatrixText least d (matrix n rows) = IsMatrixOf least d n rows
IsMatrixText least d v = ⊥

matrix_text : (least most : ℕ) (d : Data) (v : PropertyValue) → matrix_of least most d ≡ Ok v → IsMatrixText least d v
matrix_text least most d v e =
    and_then-ok (items_of d) (λ ds. and_then (matrix_from least most ds) (λ m. Ok (matrix m.cols m.rows))) v e
    (λ ds is f. and_then-ok (matrix_from least most ds) (λ m. Ok (matrix m.cols m.rows)) v f
    (λ m read g.
    let r = matrix_told least most (rows_before ds) (object_behind ds) m read in
    subst (IsMatrixText least d) (same_Ok (matrix m.cols m.rows) v g) (record { items = ds; array = some_from Shape (as_array d) ds is; each = r.each; cols = r.cols })))

-- what is read as one row is the text of one
abbrev IsRowText : Data → PropertyValue → Type 0
IsRowText d (matrix n rows) = IsOneRowOf d rows
IsRowText d v = ⊥

row_is_text : (least most : ℕ) (d : Data) (v : PropertyValue) → one_row_of least most d ≡ Ok v → IsRowText d v
row_is_text least most d v e =
    and_then-ok (items_of d) (λ ds. and_then (first_row_of least most ds) (λ r. Ok (matrix (length r) (r ∷ [])))) v e
    (λ ds is f. and_then-ok (first_row_of least most ds) (λ r. Ok (matrix (length r) (r ∷ []))) v f
    (λ r row g. subst (IsRowText d) (same_Ok (matrix (length r) (r ∷ [])) v g) (r, refl, array_from IsEntryOf d ds r is (first_told least most ds r row))))

matrix_is_text : (p : PropId) (d : Data) (v : PropertyValue) → matrix_reading p d ≡ Ok v → IsJsonText p d v
matrix_is_text LinearObjective d (matrix n rows) e = row_is_text 1 most_columns d (matrix n rows) e
matrix_is_text LinearObjective d v e = absurd (row_is_text 1 most_columns d v e)
matrix_is_text SiteHeights d (matrix n rows) e = row_is_text 0 most_rows d (matrix n rows) e
matrix_is_text SiteHeights d v e = absurd (row_is_text 0 most_rows d v e)
matrix_is_text F2Vector d (matrix n rows) e = matrix_text 0 most_columns d (matrix n rows) e
matrix_is_text F2Vector d v e = absurd (matrix_text 0 most_columns d v e)
matrix_is_text Sites d (matrix n rows) e = matrix_text 1 most_site_columns d (matrix n rows) e
matrix_is_text Sites d v e = absurd (matrix_text 1 most_site_columns d v e)
matrix_is_text p d (matrix n rows) e = matrix_text 1 most_columns d (matrix n rows) e
matrix_is_text p d v e = absurd (matrix_text 1 most_columns d v e)

-- ---- sets
shuffled : (a b c : Bool) → ((a || b) || c) ≡ (b || (a || c))
shuffled true true c = refl
shuffled true false c = refl
shuffled false true c = refl
shuffled false false c = refl

pub swapped : (a b c : Bool) → (a || (b || c)) ≡ (b || (a || c))
swapped true true c = refl
swapped true false c = refl
swapped false b c = refl

pub has_put : (i j : ℕ) (set : List ℕ) → has_index i (with_index j set) ≡ (eqb j i || has_index i set)
has_put i j [] = refl
has_put i j (k ∷ set) = by (ltb j k) (has_put i j set)
  where
    by : (t : Bool) → has_index i (with_index j set) ≡ (eqb j i || has_index i set) → has_index i (if t then j ∷ k ∷ set else k ∷ with_index j set) ≡ (eqb j i || (eqb k i || has_index i set))
    by true rest = refl
    by false rest = ap (λ b. eqb k i || b) rest ∙ swapped (eqb k i) (eqb j i) (has_index i set)

-- none of the indices is in the set
abbrev pub are_new : List ℕ → List ℕ → Bool
are_new set js = list_all (λ j. not (has_index j set)) js

not_or : (a b : Bool) → not (a || b) ≡ true → (a ≡ false) × (b ≡ false)
not_or true b h = absurd (true≢false (sym h))
not_or false true h = absurd (true≢false (sym h))
not_or false false h = (refl, refl)

pub is_not : (b : Bool) → b ≡ false → not b ≡ true
is_not b h = ap not h

-- what is new beside one index more is new, and is not that index
new_more : (j : ℕ) (set js : List ℕ) → are_new (with_index j set) js ≡ true → (are_new set js ≡ true) × (has_index j js ≡ false)
new_more j set [] h = (refl, refl)
new_more j set (k ∷ js) h =
    let b = and_parts (not (has_index k (with_index j set))) (are_new (with_index j set) js) h in
    let o = not_or (eqb j k) (has_index k set) (ap not (sym (has_put k j set)) ∙ b.0) in
    let r = new_more j set js b.1 in
    let apart : eqb k j ≡ false = ne_eqb k j (λ e. true≢false (sym (eq-eqb j k (omega (arith, e))) ∙ o.0)) in
    (and_from (not (has_index k set)) (are_new set js) (is_not (has_index k set) o.1) r.0, ap (λ t. t || has_index j js) apart ∙ r.1)

record FromFront (front : List ℕ) (ds : Items) (set : List ℕ) : Type 0 where
  js : List ℕ
  items : AreItems IsIndexOf ds js
  apart : are_apart js ≡ true
  new : are_new front js ≡ true
  members : (i : ℕ) → has_index i set ≡ (has_index i front || has_index i js)

or_false : (b : Bool) → b ≡ (b || false)
or_false true = refl
or_false false = refl

index_told : (d : Data) (j : ℕ) → index_of d ≡ Ok j → IsIndexOf d j
index_told d j e = and_then-ok (whole_number_of d) index_below_limit j e (λ z is f. is ∙ by z f)
  where
    by : (z : ℤ) → index_below_limit z ≡ Ok j → (let r : Read ℤ = Ok z in r) ≡ Ok (pos j)
    by (pos k) f = ap (λ (n : ℕ). Ok (pos n)) (same_Ok k j (then-ok (ltb k most_rows) (Ok k) Limit j f).1)
    by (negsuc k) f = absurd (err_ok Index j f)

one_index : (front : List ℕ) (d : Data) (ds : Items) (j : ℕ) (set : List ℕ) → IsIndexOf d j → has_index j front ≡ false → FromFront (with_index j front) ds set → FromFront front (item d ds) set
one_index front d ds j set is new f =
    let n = new_more j front f.js f.new in
    record {
      js = j ∷ f.js;
      items = (is, f.items);
      apart = and_from (not (has_index j f.js)) (are_apart f.js) (is_not (has_index j f.js) n.1) f.apart;
      new = and_from (not (has_index j front)) (are_new front f.js) (is_not (has_index j front) new) n.0;
      members = λ i. f.members i ∙ ap (λ b. b || has_index i f.js) (has_put i j front) ∙ shuffled (eqb j i) (has_index i front) (has_index i f.js);
    }

set_from_front : (front : List ℕ) (ds : Items) (set : List ℕ) → set_from front ds ≡ Ok set → FromFront front ds set
set_from_front front no_items set e = subst (FromFront front no_items) (same_Ok front set e) (record { js = []; items = tt; apart = refl; new = refl; members = λ i. or_false (has_index i front) })
set_from_front front (item d ds) set e =
    and_then-ok (index_of d) (λ j. cond (has_index j front) (Err Shape) (set_from (with_index j front) ds)) set e
    (λ j is f. let p = else-ok (has_index j front) (set_from (with_index j front) ds) Shape set f in
    one_index front d ds j set (index_told d j is) p.0 (set_from_front (with_index j front) ds set p.1))

set_told : (d : Data) (ds : Items) (set : List ℕ) → items_of d ≡ Ok ds → set_from [] ds ≡ Ok set → IsSetOf d set
set_told d ds set is e = let f = set_from_front [] ds set e in record { indices = f.js; array = array_from IsIndexOf d ds f.js is f.items; apart = f.apart; members = f.members }

-- ---- lists of sets
nodes_told : (k : ℕ) (ds : Items) (rows : List (List ℕ)) → nodes_from k ds ≡ Ok rows → AreItems IsSetOf ds rows
nodes_told k no_items rows e = subst (AreItems IsSetOf no_items) (same_Ok [] rows e) tt
nodes_told k (item d ds) rows e =
    and_then-ok (items_of d) (λ es. cond (ltb k most_rows) (and_then (set_from [] es) (λ set. before set (nodes_from (suc k) ds))) (Err Limit)) rows e
    (λ es is f. let p = then-ok (ltb k most_rows) (and_then (set_from [] es) (λ set. before set (nodes_from (suc k) ds))) Limit rows f in
    and_then-ok (set_from [] es) (λ set. before set (nodes_from (suc k) ds)) rows p.1
    (λ set one g. list_from IsSetOf d ds set (nodes_from (suc k) ds) rows g (set_told d es set is one) (λ xs h. nodes_told (suc k) ds xs h)))

-- the column count that stands behind sets, or none
abbrev pub Stated : Option Data → Option ℕ → Type 0
Stated None None = ⊤
Stated None (Some n) = ⊥
Stated (Some d) None = ⊥
Stated (Some d) (Some n) = IsColsOf d n

record SetsTold (ds : Items) (s : SetsSeen) : Type 0 where
  each : AreItems IsSetOf (rows_before ds) s.rows
  stated : Stated (object_behind ds) s.stated

stated_told : (d : Data) (n : ℕ) → stated_of d ≡ Ok n → IsColsOf d n
stated_told d n e =
    and_then-ok (cols_member d) count_of n e
    (λ c is f. and_then-ok (whole_number_of c) count_up_to_limit n f
    (λ z w g. ap (λ r. and_then r whole_number_of) is ∙ w ∙ by z g))
  where
    by : (z : ℤ) → count_up_to_limit z ≡ Ok n → (let r : Read ℤ = Ok z in r) ≡ Ok (pos n)
    by (pos k) g = ap (λ (m : ℕ). Ok (pos m)) (same_Ok k n (then-ok (leb k most_rows) (Ok k) Limit n g).1)
    by (negsuc k) g = absurd (err_ok Limit n g)

-- no array is an object
array_no_object : (d : Data) (ds : Items) → items_of d ≡ Ok ds → is_some (as_object d) ≡ false
array_no_object null ds e = refl
array_no_object (boolean b) ds e = refl
array_no_object (number n) ds e = refl
array_no_object (string s) ds e = refl
array_no_object (array es) ds e = refl
array_no_object (object ms) ds e = absurd (err_ok Shape ds e)

-- an array before other elements
sets_more : (d : Data) (ds es : Items) (set : List ℕ) (s : SetsSeen) → items_of d ≡ Ok es → IsSetOf d set → SetsTold ds s → SetsTold (item d ds) (record s { rows = set ∷ s.rows })
sets_more d no_items es set s is one t =
    let none = array_no_object d es is in
    record {
      each = subst (λ (b : Bool). AreItems IsSetOf (if b then no_items else item d no_items) (set ∷ s.rows)) (sym none) (one, t.each);
      stated = subst (λ (b : Bool). Stated (if b then Some d else None) s.stated) (sym none) t.stated;
    }
sets_more d (item e ds) es set s is one t = record { each = (one, t.each); stated = t.stated }

last_told : (d : Data) (ds : Items) (s : SetsSeen) → is_some (as_object d) ≡ true → stated_last d ds ≡ Ok s → SetsTold (item d ds) s
last_told d no_items s is e =
    and_then-ok (stated_of d) (λ n. Ok (record { rows = []; stated = Some n })) s e
    (λ n st g. subst (SetsTold (item d no_items)) (same_Ok (record { rows = []; stated = Some n }) s g) (record {
      each = subst (λ (b : Bool). AreItems IsSetOf (if b then no_items else item d no_items) []) (sym is) tt;
      stated = subst (λ (b : Bool). Stated (if b then Some d else None) (Some n)) (sym is) (stated_told d n st);
    }))
last_told d (item x ds) s is e = absurd (err_ok Shape s e)

sets_list_told : (k : ℕ) (ds : Items) (s : SetsSeen) → sets_from k ds ≡ Ok s → SetsTold ds s
sets_list_told k no_items s e = subst (SetsTold no_items) (same_Ok (record { rows = []; stated = None }) s e) (record { each = tt; stated = tt })
sets_list_told k (item d ds) s e = by (is_some (as_object d)) refl e (λ x f. sets_list_told (suc k) ds x f)
  where
    by : (t : Bool) → is_some (as_object d) ≡ t
        → (if t then stated_last d ds else and_then (items_of d) (λ es. if ltb k most_rows then and_then (set_from [] es) (λ set. before_sets set (sets_from (suc k) ds)) else Err Limit)) ≡ Ok s
        → ((x : SetsSeen) → sets_from (suc k) ds ≡ Ok x → SetsTold ds x) → SetsTold (item d ds) s
    by true is f rest = last_told d ds s is f
    by false is f rest =
        and_then-ok (items_of d) (λ es. if ltb k most_rows then and_then (set_from [] es) (λ set. before_sets set (sets_from (suc k) ds)) else Err Limit) s f
        (λ es listed g. let p = then-ok (ltb k most_rows) (and_then (set_from [] es) (λ set. before_sets set (sets_from (suc k) ds))) Limit s g in
        and_then-ok (set_from [] es) (λ set. before_sets set (sets_from (suc k) ds)) s p.1
        (λ set one h. and_then-ok (sets_from (suc k) ds) (λ x. Ok (record x { rows = set ∷ x.rows })) s h
        (λ x more u. subst (SetsTold (item d ds)) (same_Ok (record x { rows = set ∷ x.rows }) s u) (sets_more d ds es set x listed (set_told d es set listed one) (rest x more)))))

abbrev IsSetsText : Data → PropertyValue → Type 0
IsSetsText d (sets rows n) = AreJsonSets d rows n
IsSetsText d v = ⊥

sets_text : (d : Data) (v : PropertyValue) → sets_of d ≡ Ok v → IsSetsText d v
sets_text d v e =
    and_then-ok (items_of d) (λ ds. and_then (sets_from 0 ds) (λ s. sets_with s.rows s.stated)) v e
    (λ ds is f. and_then-ok (sets_from 0 ds) (λ s. sets_with s.rows s.stated) v f
    (λ s read g. let t = sets_list_told 0 ds s read in by ds is s.rows s.stated t.each (object_behind ds) refl t.stated g))
  where
    by : (ds : Items) → items_of d ≡ Ok ds → (rows : List (List ℕ)) (st : Option ℕ) → AreItems IsSetOf (rows_before ds) rows → (o : Option Data) → object_behind ds ≡ o → Stated o st → sets_with rows st ≡ Ok v → IsSetsText d v
    by ds is rows None each None none t g =
        subst (IsSetsText d) (same_Ok (sets rows (above_sets rows)) v g)
        (record { items = ds; array = some_from Shape (as_array d) ds is; each = each; cols = subst (λ (o : Option Data). HasColumnCount o (above_sets rows) rows) (sym none) refl })
    by ds is rows (Some n) each (Some o) some t g =
        let p = then-ok (leb (above_sets rows) n) (Ok (sets rows n)) Index v g in
        subst (IsSetsText d) (same_Ok (sets rows n) v p.1)
        (record { items = ds; array = some_from Shape (as_array d) ds is; each = each; cols = subst (λ (o : Option Data). HasColumnCount o n rows) (sym some) t })
    by ds is rows None each (Some o) some t g = absurd t
    by ds is rows (Some n) each None none t g = absurd t

-- ---- lattices
face_from_front : (k : ℕ) (front : List ℕ) (ds : Items) (set : List ℕ) → face_from k front ds ≡ Ok set → FromFront front ds set
face_from_front k front no_items set e = subst (FromFront front no_items) (same_Ok front set e) (record { js = []; items = tt; apart = refl; new = refl; members = λ i. or_false (has_index i front) })
face_from_front k front (item d ds) set e =
    and_then-ok (index_of d) (λ j. cond (has_index j front) (Err Shape) (cond (ltb k most_places) (face_from (suc k) (with_index j front) ds) (Err Limit))) set e
    (λ j is f. let p = else-ok (has_index j front) (cond (ltb k most_places) (face_from (suc k) (with_index j front) ds) (Err Limit)) Shape set f in
    let q = then-ok (ltb k most_places) (face_from (suc k) (with_index j front) ds) Limit set p.1 in
    one_index front d ds j set (index_told d j is) p.0 (face_from_front (suc k) (with_index j front) ds set q.1))

face_told : (k : ℕ) (d : Data) (ds : Items) (set : List ℕ) → items_of d ≡ Ok ds → face_from k [] ds ≡ Ok set → IsSetOf d set
face_told k d ds set is e = let f = face_from_front k [] ds set e in record { indices = f.js; array = array_from IsIndexOf d ds f.js is f.items; apart = f.apart; members = f.members }

faces_told : (m k : ℕ) (ds : Items) (faces : List (List ℕ)) → faces_from m k ds ≡ Ok faces → AreItems IsSetOf ds faces
faces_told m k no_items faces e = subst (AreItems IsSetOf no_items) (same_Ok [] faces e) tt
faces_told m k (item d ds) faces e =
    and_then-ok (items_of d) (λ es. cond (ltb m most_faces) (and_then (face_from k [] es) (λ face. before face (faces_from (suc m) (k + length face) ds))) (Err Limit)) faces e
    (λ es is f. let p = then-ok (ltb m most_faces) (and_then (face_from k [] es) (λ face. before face (faces_from (suc m) (k + length face) ds))) Limit faces f in
    and_then-ok (face_from k [] es) (λ face. before face (faces_from (suc m) (k + length face) ds)) faces p.1
    (λ face one g. list_from IsSetOf d ds face (faces_from (suc m) (k + length face) ds) faces g (face_told k d es face is one) (λ xs h. faces_told (suc m) (k + length face) ds xs h)))

ranks_told : (m k : ℕ) (ds : Items) (ranks : List (List (List ℕ))) → ranks_from m k ds ≡ Ok ranks → AreItems (IsArrayOf IsSetOf) ds ranks
ranks_told m k no_items ranks e = subst (AreItems (IsArrayOf IsSetOf) no_items) (same_Ok [] ranks e) tt
ranks_told m k (item d ds) ranks e =
    and_then-ok (items_of d) (λ es. and_then (faces_from m k es) (λ faces. before faces (ranks_from (m + length faces) (k + sum_by length faces) ds))) ranks e
    (λ es is f. and_then-ok (faces_from m k es) (λ faces. before faces (ranks_from (m + length faces) (k + sum_by length faces) ds)) ranks f
    (λ faces one g. list_from (IsArrayOf IsSetOf) d ds faces (ranks_from (m + length faces) (k + sum_by length faces) ds) ranks g (array_from IsSetOf d es faces is (faces_told m k es faces one)) (λ xs h. ranks_told (m + length faces) (k + sum_by length faces) ds xs h)))

-- ---- counts
abbrev pub IsCountOf : Data → ℤ → Type 0
IsCountOf d k = whole_count_of d ≡ Ok k

counts_told : (k : ℕ) (ds : Items) (ks : List ℤ) → counts_from k ds ≡ Ok ks → AreItems IsCountOf ds ks
counts_told k no_items ks e = subst (AreItems IsCountOf no_items) (same_Ok [] ks e) tt
counts_told k (item d ds) ks e =
    and_then-ok (whole_count_of d) (λ z. cond (ltb k most_rows) (before z (counts_from (suc k) ds)) (Err Limit)) ks e
    (λ z is f. let p = then-ok (ltb k most_rows) (before z (counts_from (suc k) ds)) Limit ks f in
    list_from IsCountOf d ds z (counts_from (suc k) ds) ks p.1 is (λ xs g. counts_told (suc k) ds xs g))

-- ---- values
whole_told : (p : PropId) (d : Data) (v : PropertyValue) → whole_of p d ≡ Ok v → IsJsonText p d v
whole_told p d v e =
    and_then-ok (or_fault Shape (as_number d)) (λ n. and_then (or_fault Number (as_i64 n)) (whole_value p)) v e
    (λ n is f. and_then-ok (or_fault Number (as_i64 n)) (whole_value p) v f
    (λ k bits g. let q = else-ok (is_ambient p && not (is_dimension k)) (Ok (whole k)) Limit v g in
    subst (IsJsonText p d) (same_Ok (whole k) v q.1) (n, some_from Shape (as_number d) n is, some_from Number (as_i64 n) k bits)))

text_by : (k : ValueKind) (p : PropId) (d : Data) (v : PropertyValue) → reading_of k p d ≡ Ok v → IsJsonText p d v
text_by kind.Mat p d v e = matrix_is_text p d v e
text_by kind.Sets p d (sets rows n) e = sets_text d (sets rows n) e
text_by kind.Sets p d v e = absurd (sets_text d v e)
text_by kind.Int p d v e = whole_told p d v e
text_by kind.Bool p d v e = and_then-ok (or_fault Shape (as_bool d)) (λ b. Ok (truth b)) v e (λ b is f. subst (IsJsonText p d) (same_Ok (truth b) v f) (some_from Shape (as_bool d) b is))
text_by kind.Counts p d v e =
    and_then-ok (items_of d) (λ ds. and_then (counts_from 0 ds) (λ ks. Ok (counts ks))) v e
    (λ ds is f. and_then-ok (counts_from 0 ds) (λ ks. Ok (counts ks)) v f (λ ks read g. subst (IsJsonText p d) (same_Ok (counts ks) v g) (array_from IsCountOf d ds ks is (counts_told 0 ds ks read))))
text_by kind.Edges p d v e =
    and_then-ok (items_of d) (λ ds. and_then (nodes_from 0 ds) edges_with) v e
    (λ ds is f. and_then-ok (nodes_from 0 ds) edges_with v f
    (λ rows read g.
    let q = then-ok (leb (above_sets rows) (length rows)) (cond (are_joined_back rows 0 rows) (Ok (edges rows (length rows))) (Err Shape)) Index v g in
    let r = then-ok (are_joined_back rows 0 rows) (Ok (edges rows (length rows))) Shape v q.1 in
    subst (IsJsonText p d) (same_Ok (edges rows (length rows)) v r.1) (array_from IsSetOf d ds rows is (nodes_told 0 ds rows read))))
text_by kind.Lattice p d v e =
    and_then-ok (items_of d) (λ ds. and_then (ranks_from 0 0 ds) (λ ranks. Ok (lattice ranks))) v e
    (λ ds is f. and_then-ok (ranks_from 0 0 ds) (λ ranks. Ok (lattice ranks)) v f
    (λ ranks read g. subst (IsJsonText p d) (same_Ok (lattice ranks) v g) (array_from (IsArrayOf IsSetOf) d ds ranks is (ranks_told 0 0 ds ranks read))))
text_by kind.Number p d v e = and_then-ok (number_value_of d) (λ x. Ok (extended x)) v e (λ x is f. subst (IsJsonText p d) (same_Ok (extended x) v f) is)

-- what is read is the value of its text
pub text_of_read : (p : PropId) (d : Data) (v : PropertyValue) → reading p d ≡ Ok v → is_formed p v ≡ true → IsJsonOf p d v
text_of_read p d v e f = record { text = text_by (value_kind p) p d v e; formed = f }

-- the same, of a kind
pub text_of_kind : (k : ValueKind) (p : PropId) (d : Data) (v : PropertyValue) → reading_of k p d ≡ Ok v → is_formed p v ≡ true → IsJsonOf p d v
text_of_kind k p d v e f = record { text = text_by k p d v e; formed = f }
