-- A matrix that is read keeps the limits.
use Rattle.std.proofs.Common.{refl, subst, ap, ◌∙◌, ◌≡◌, ◌<◌, ◌≤◌, ◌+◌, ℕ, suc, true, List, [], ◌∷◌, length, Ok, Err, arith, cond, eqb, leb, ltb, ◌&&◌}
use Rattle.std.proofs.lemmas.Bool.{and_from, and_parts, eq-eqb, eqb-true, le-leb, leb-true, ltb-false, ltb-true}
use Rattle.std.specs.List.{list_all}
use Rattle.serde_json.specs.Data.{Data, Items, no_items, item}
use Rattle.pm_vector.specs.Numbers.{Ratio}
use Rattle.pm_types.specs.Forms.{is_row_of_entries, is_column_count, is_list_form, is_matrix_form, is_number, is_table_form}
use Rattle.pm_fraction.specs.Matrices.{FractionMatrix}
use Rattle.std.specs.Prelude.{None, Option, Some}
use lib.IntN.{ℤ, negsuc, pos}
use Rattle.pm_json.proofs.Parts.{same_Ok, and_then-ok, either-ok, err_ok, then-ok, else-ok}
use Rattle.pm_json.specs.Readings.{and_then, before, items_of, entry_of, cols_member, entries_from, first_row_of, later_row_from, later_rows_from, matrix_from, matrix_with, object_behind, only_cols, rows_before, rows_from, whole_number_of, with_cols}
use Rattle.pm_json.specs.declared.fail.ValueFail.TheVariants.{Shape, Limit}
use Rattle.pm_limits.specs.Limits.{most_columns, most_rows, most_site_columns}

pub later_row : (n k : ℕ) (ds : Items) (r : List Ratio) → later_row_from n k ds ≡ Ok r → k + length r ≡ n
later_row n k no_items r e =
    let p = then-ok (eqb k n) (Ok []) Shape r e in
    let all : k ≡ n = eqb-true k n p.0 in
    subst (λ (w : List Ratio). k + length w ≡ n) (same_Ok [] r p.1) (omega arith)
later_row n k (item d ds) r e =
    let p = then-ok (ltb k n) (and_then (entry_of d) (λ q. before q (later_row_from n (suc k) ds))) Shape r e in
    and_then-ok (entry_of d) (λ q. before q (later_row_from n (suc k) ds)) r p.1
    (λ q is f. and_then-ok (later_row_from n (suc k) ds) (λ qs. Ok (q ∷ qs)) r f
    (λ qs left g.
    let all = later_row n (suc k) ds qs left in
    subst (λ (w : List Ratio). k + length w ≡ n) (same_Ok (q ∷ qs) r g) (omega arith)))

entries : (most k : ℕ) (ds : Items) (r : List Ratio) → k ≤ most → entries_from most k ds ≡ Ok r → k + length r ≤ most
entries most k no_items r h e = subst (λ (w : List Ratio). k + length w ≤ most) (same_Ok [] r e) (omega arith)
entries most k (item d ds) r h e =
    and_then-ok (entry_of d) (λ q. cond (ltb k most) (before q (entries_from most (suc k) ds)) (Err Limit)) r e
    (λ q is f. let p = then-ok (ltb k most) (before q (entries_from most (suc k) ds)) Limit r f in
    and_then-ok (entries_from most (suc k) ds) (λ qs. Ok (q ∷ qs)) r p.1
    (λ qs left g.
    let room = ltb-true k most p.0 in
    let rest = entries most (suc k) ds qs (omega arith) left in
    subst (λ (w : List Ratio). k + length w ≤ most) (same_Ok (q ∷ qs) r g) (omega arith)))

pub first_row : (least most : ℕ) (ds : Items) (r : List Ratio) → first_row_of least most ds ≡ Ok r → (least ≤ length r) × (length r ≤ most)
first_row least most ds r e =
    and_then-ok (entries_from most 0 ds) (λ q. cond (ltb (length q) least) (Err Limit) (Ok q)) r e
    (λ q is f. let p = else-ok (ltb (length q) least) (Ok q) Limit r f in
    let high = entries most 0 ds q (omega arith) is in
    let low = ltb-false (length q) least p.0 in
    subst (λ (w : List Ratio). (least ≤ length w) × (length w ≤ most)) (same_Ok q r p.1) (low, omega arith))

later_rows : (n k : ℕ) (ds : Items) (rows : List (List Ratio)) → k ≤ most_rows → later_rows_from n k ds ≡ Ok rows → (k + length rows ≤ most_rows) × (list_all (is_row_of_entries n) rows ≡ true)
later_rows n k no_items rows few e =
    let same = same_Ok [] rows e in
    (subst (λ (w : List (List Ratio)). k + length w ≤ most_rows) same (omega arith), subst (λ (w : List (List Ratio)). list_all (is_row_of_entries n) w ≡ true) same refl)
later_rows n k (item d ds) rows few e =
    and_then-ok (items_of d) (λ es. cond (ltb k most_rows) (and_then (later_row_from n 0 es) (λ r. before r (later_rows_from n (suc k) ds))) (Err Limit)) rows e
    (λ es _ f. let p = then-ok (ltb k most_rows) (and_then (later_row_from n 0 es) (λ r. before r (later_rows_from n (suc k) ds))) Limit rows f in
    and_then-ok (later_row_from n 0 es) (λ r. before r (later_rows_from n (suc k) ds)) rows p.1
    (λ r is g. and_then-ok (later_rows_from n (suc k) ds) (λ more. Ok (r ∷ more)) rows g
    (λ more left t.
    let room = ltb-true k most_rows p.0 in
    let row = later_row n 0 es r is in
    let width : length r ≡ n = omega arith in
    let rest = later_rows n (suc k) ds more (omega arith) left in
    let same = same_Ok (r ∷ more) rows t in
    let count = rest.0 in (
      subst (λ (w : List (List Ratio)). k + length w ≤ most_rows) same (omega arith),
      subst (λ (w : List (List Ratio)). list_all (is_row_of_entries n) w ≡ true) same
          (and_from (is_row_of_entries n r) (list_all (is_row_of_entries n) more) (eq-eqb (length r) n width) rest.1),
    ))))

-- a matrix of at most most_rows rows, of one length from `least` to `most`
pub record KeepsLimits (least most : ℕ) (m : FractionMatrix) : Type 0 where
  pub few : length m.rows ≤ most_rows
  pub low : 0 < length m.rows → least ≤ m.cols
  pub high : m.cols ≤ most
  pub widths : list_all (is_row_of_entries m.cols) m.rows ≡ true

rows_keep_limits : (least most : ℕ) (ds : Items) (m : FractionMatrix) → rows_from least most ds ≡ Ok m → KeepsLimits least most m
rows_keep_limits least most no_items m e = subst (KeepsLimits least most) (same_Ok (let none : FractionMatrix = record { cols = 0; rows = [] } in none) m e) (record { few = omega arith; low = λ some. absurd (omega arith); high = omega arith; widths = refl })
rows_keep_limits least most (item d ds) m e =
    and_then-ok (items_of d) (λ es. and_then (first_row_of least most es) (λ r. and_then (before r (later_rows_from (length r) 1 ds)) (λ rows. Ok (record { cols = length r; rows = rows })))) m e
    (λ es _ f. and_then-ok (first_row_of least most es) (λ r. and_then (before r (later_rows_from (length r) 1 ds)) (λ rows. Ok (record { cols = length r; rows = rows }))) m f
    (λ r is g. and_then-ok (before r (later_rows_from (length r) 1 ds)) (λ rows. Ok (record { cols = length r; rows = rows })) m g
    (λ rows all t. and_then-ok (later_rows_from (length r) 1 ds) (λ more. Ok (r ∷ more)) rows all
    (λ more left u.
    let row = first_row least most es r is in
    let rest = later_rows (length r) 1 ds more (omega arith) left in
    let count = rest.0 in
    let whole : FractionMatrix = record { cols = length r; rows = r ∷ more } in
    subst (KeepsLimits least most) (ap (λ (w : List (List Ratio)). record { cols = length r; rows = w }) (same_Ok (r ∷ more) rows u) ∙ same_Ok (let made : FractionMatrix = record { cols = length r; rows = rows } in made) m t)
    (let kept : KeepsLimits least most whole = record {
      few = omega arith;
      low = λ some. row.0;
      high = row.1;
      widths = and_from (is_row_of_entries (length r) r) (list_all (is_row_of_entries (length r)) more) (eq-eqb (length r) (length r) refl) rest.1;
    } in kept)))))

only_keep_limits : (least most : ℕ) (z : ℤ) (m : FractionMatrix) → only_cols least most z ≡ Ok m → KeepsLimits least most m
only_keep_limits least most (negsuc n) m e = absurd (err_ok Limit m e)
only_keep_limits least most (pos n) m e =
    let p = then-ok (leb least n && leb n most) (Ok (let none : FractionMatrix = record { cols = n; rows = [] } in none)) Limit m e in
    let high = leb-true n most (and_parts (leb least n) (leb n most) p.0).1 in
    subst (KeepsLimits least most) (same_Ok (let none : FractionMatrix = record { cols = n; rows = [] } in none) m p.1) (record { few = omega arith; low = λ some. absurd (omega arith); high = high; widths = refl })

with_keep_limits : (least most : ℕ) (m : FractionMatrix) (z : ℤ) (out : FractionMatrix) → KeepsLimits least most m → with_cols least most m z ≡ Ok out → KeepsLimits least most out
with_keep_limits least most m z out kept e =
    either-ok (eqb (length m.rows) 0) (only_cols least most z) (cond (is_number z m.cols) (Ok m) (Err Shape)) out e
    (λ f. only_keep_limits least most z out f)
    (λ f. subst (KeepsLimits least most) (same_Ok m out (then-ok (is_number z m.cols) (Ok m) Shape out f).1) kept)

matrix_keeps_limits : (least most : ℕ) (ds : Items) (stated : Option Data) (m : FractionMatrix) → matrix_with least most ds stated ≡ Ok m → KeepsLimits least most m
matrix_keeps_limits least most ds None m e = rows_keep_limits least most ds m e
matrix_keeps_limits least most ds (Some d) m e =
    and_then-ok (rows_from least most ds) (λ a. and_then (and_then (cols_member d) whole_number_of) (with_cols least most a)) m e
    (λ a is f. and_then-ok (and_then (cols_member d) whole_number_of) (with_cols least most a) m f
    (λ z _ g. with_keep_limits least most a z m (rows_keep_limits least most ds a is) g))

pub elements_keep_limits : (least most : ℕ) (ds : Items) (m : FractionMatrix) → matrix_from least most ds ≡ Ok m → KeepsLimits least most m
elements_keep_limits least most ds m e = matrix_keeps_limits least most (rows_before ds) (object_behind ds) m e

-- ---- forms
column_count : (n : ℕ) (rows : List (List Ratio)) → (0 < length rows → 1 ≤ n) → n ≤ most_columns → is_column_count rows n ≡ true
column_count n [] low high = le-leb n most_columns high
column_count n (r ∷ rows) low high = and_from (leb 1 n) (leb n most_columns) (le-leb 1 n (low (omega arith))) (le-leb n most_columns high)

pub matrix_form : (m : FractionMatrix) → KeepsLimits 1 most_columns m → is_matrix_form m.cols m.rows ≡ true
matrix_form m k =
    and_from (leb (length m.rows) most_rows && is_column_count m.rows m.cols) (list_all (is_row_of_entries m.cols) m.rows)
    (and_from (leb (length m.rows) most_rows) (is_column_count m.rows m.cols) (le-leb (length m.rows) most_rows k.few) (column_count m.cols m.rows k.low k.high)) k.widths

pub table_form : (m : FractionMatrix) → KeepsLimits 0 most_columns m → is_table_form m.cols m.rows ≡ true
table_form m k =
    and_from (leb (length m.rows) most_rows && leb m.cols most_columns) (list_all (is_row_of_entries m.cols) m.rows)
    (and_from (leb (length m.rows) most_rows) (leb m.cols most_columns) (le-leb (length m.rows) most_rows k.few) (le-leb m.cols most_columns k.high)) k.widths

-- one row
pub objective_form : (r : List Ratio) → 1 ≤ length r → length r ≤ most_columns → (eqb (length (r ∷ [])) 1 && is_matrix_form (length r) (r ∷ [])) ≡ true
objective_form r low high = matrix_form (record { cols = length r; rows = r ∷ [] }) (record { few = omega arith; low = λ some. low; high = high; widths = and_from (is_row_of_entries (length r) r) true (eq-eqb (length r) (length r) refl) refl })

-- of most_site_columns columns at most
pub sites_form : (m : FractionMatrix) → KeepsLimits 1 most_site_columns m → (leb m.cols most_site_columns && is_matrix_form m.cols m.rows) ≡ true
sites_form m k =
    let high = k.high in
    and_from (leb m.cols most_site_columns) (is_matrix_form m.cols m.rows) (le-leb m.cols most_site_columns high) (matrix_form m (record { few = k.few; low = k.low; high = omega arith; widths = k.widths }))

-- one row of any number of entries up to most_rows
pub list_form : (r : List Ratio) → length r ≤ most_rows → is_list_form (length r) (r ∷ []) ≡ true
list_form r few = and_from (leb (length r) most_rows) (eqb (length r) (length r) && true) (le-leb (length r) most_rows few) (and_from (eqb (length r) (length r)) true (eq-eqb (length r) (length r) refl) refl)
