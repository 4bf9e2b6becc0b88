-- What a JSON value is, as a value of a property, so far.
-- A matrix is an array of at most most_rows rows, which are arrays of one length from 1 to 33 (of F2_VECTOR from 0,
-- of SITES to most_site_columns) of fractions; behind the rows maybe {"cols":n}, n the length of the rows, or where
-- there are none a number that it might be; without it a matrix without rows states no column count, 0.
-- LP.LINEAR_OBJECTIVE is one such row, and SITE_HEIGHTS is one row of at most most_rows entries. A fraction is a
-- text, an optional `-`, digits, and optionally `/` and digits that do not write 0, none of them above 2^127 - 1, or
-- a whole JSON number from -2^63 to 2^64 - 1.
-- Sets are an array of at most most_rows sets, which are arrays of indices below most_rows, in any order and none
-- twice; after the sets maybe {"cols":n}, n at most most_rows and above every index; without it the column count is
-- one more than the greatest index, or 0.
-- A whole number is a whole JSON number of 64 bits, for CONE_AMBIENT_DIM from 1 to 33; a truth value is true or false.
-- A list of counts is an array of at most most_rows whole numbers of 64 bits, each a whole JSON number or a text, an
-- optional `-` and digits.
-- Edges are an array of at most most_rows nodes, each an array of nodes below their number, which are neighbours of
-- one another and none of itself. A lattice is an array of ranks, which are arrays of faces, at most most_faces,
-- which are arrays of indices below most_rows, at most most_places in all.
-- A number is a fraction, or a text, inf or -inf.
-- Of several faults the first in reading order counts, which goes through the elements from the first to the last. At
-- one element it is the first of these: `Shape`, a JSON value of another form, an element that makes a row longer
-- than the first, an index that its set has already, a column count that is not the length of the rows; `Number`, a
-- number, or in matrices a text, that is not allowed there; `Index`, an index that is negative, or not below the
-- column count; `Limit`, a count beyond its bound.
-- A count that is too large is a fault of the first element too many; a row that is too short is one of its end.
-- Indices are held against the column count
-- after the last element.
use Rattle.std.specs.Prelude.{ℕ, zero, suc, ◌+◌, ◌==◌, ◌%◌, ◌/◌, ◌^◌, ◌&&◌, ◌++◌, ◌∷◌, Bool, true, false, not, List, [], length, max, nat_le, nat_lt, Option, Some, None, is_some, Result, Ok, Err, codes, if◌then◌else◌, slice_index}
use Rattle.std.specs.Char.{is_ascii_digit}
use Rattle.std.specs.List.{list_all, list_any, sum_by}
use Rattle.std.specs.Str.{bytes_eq}
use Rattle.std.specs.Str.Parse.{digits_value, signed_digits_value, starts_with_minus, without_leading_sign}
use Rattle.pm_vector.specs.Numbers.{Ratio}
use Rattle.pm_fraction.specs.Fractions.{ratio_of, signed}
use Rattle.pm_fraction.specs.Text.{bottom_text, top_text}
use Rattle.pm_types.specs.Forms.{are_joined_back, has_64_bits, is_dimension, is_number}
use Rattle.pm_props.specs.Properties.{is_ambient, value_kind}
use Rattle.pm_fraction.specs.Matrices.{FractionMatrix}
use Rattle.pm_types.specs.Values.{PropertyValue, matrix, sets, whole, truth, counts, edges, lattice, extended, Extended, finite, plus_infinity, minus_infinity}
use Rattle.pm_types.specs.Views.{over_one}
use Rattle.pm_props.specs.declared.property.PropId.{PropId}
use Rattle.pm_props.specs.declared.property.PropId.TheVariants.{F2Vector, LinearObjective, SiteHeights, Sites}
use Rattle.pm_props.specs.declared.property.ValueKind.{ValueKind}
use Rattle.pm_props.specs.declared.property.ValueKind.TheVariants as kind
use Rattle.serde_json.specs.Data.{Data, Num, object, Items, no_items, item, no_members, member}
use Rattle.serde_json.specs.Find.{get, as_array, as_bool, as_i64, as_integer, as_number, as_object, as_str}
use Rattle.pm_json.specs.declared.fail.ValueFail.{ValueFail}
use Rattle.pm_json.specs.declared.fail.ValueFail.TheVariants.{Shape, Number, Index, Limit}
use lib.IntN.{ℤ, pos, negsuc}
use Rattle.pm_limits.specs.Limits.{most_columns, most_faces, most_places, most_rows, most_site_columns}

-- what is read, or the fault
abbrev pub Read : Type 0 → Type 0
Read A = Result A ValueFail

-- reads on, unless there was a fault
abbrev pub and_then : {A B : Type 0} → Read A → (A → Read B) → Read B
and_then (Ok a) next = next a
and_then (Err fault) next = Err fault

-- what was read, before what is read after it
abbrev pub before : {A : Type 0} → A → Read (List A) → Read (List A)
before a others = and_then others (λ as'. Ok (a ∷ as'))

-- what was read, and what is read after it
abbrev pub with_front : {A : Type 0} → List A → Read (List A) → Read (List A)
with_front front others = and_then others (λ as'. Ok (front ++ as'))

-- the fault where there is none
abbrev pub or_fault : {A : Type 0} → ValueFail → Option A → Read A
or_fault fault None = Err fault
or_fault fault (Some a) = Ok a

abbrev pub items_of : Data → Read Items
items_of d = or_fault Shape (as_array d)

-- ---- fractions
-- one digit or more, and nothing else, of a number in the range
abbrev pub is_literal : List ℕ → Bool
is_literal ds = nat_lt 0 (length ds) && list_all is_ascii_digit ds && nat_lt (digits_value 10 ds) (2 ^ 127)

abbrev pub divides_both : ℕ → ℕ → ℕ → Bool
divides_both m a b = (a % m) == 0 && (b % m) == 0

-- the greatest number up to the bound that divides both, 0 where there is none
abbrev pub divisor_up_to : ℕ → ℕ → ℕ → ℕ
divisor_up_to zero a b = 0
divisor_up_to (suc k) a b = if divides_both (suc k) a b then suc k else divisor_up_to k a b

-- top / bottom or -top / bottom in lowest terms
abbrev pub lowest_terms : Bool → ℕ → ℕ → Ratio
lowest_terms is_negative top bottom = let g =
    divisor_up_to bottom top bottom in ratio_of (signed is_negative (top / g)) (pos (bottom / g))

abbrev pub is_fraction_text : List ℕ → Bool
is_fraction_text bs = is_literal (top_text bs) && is_literal (bottom_text bs)
    && nat_lt 0 (digits_value 10 (bottom_text bs))

abbrev pub ratio_of_text : List ℕ → Read Ratio
ratio_of_text bs =
    if is_fraction_text bs then Ok (lowest_terms (starts_with_minus bs) (digits_value 10 (top_text bs))
    (digits_value 10 (bottom_text bs))) else Err Number

abbrev pub whole_fraction_of : Num → Read Ratio
whole_fraction_of n = and_then (or_fault Number (as_integer n)) (λ k. Ok (over_one k))

abbrev pub number_of : Data → Read Ratio
number_of d = and_then (or_fault Shape (as_number d)) whole_fraction_of

abbrev pub entry_by : Option (List ℕ) → Data → Read Ratio
entry_by (Some text) d = ratio_of_text text
entry_by None d = number_of d

abbrev pub entry_of : Data → Read Ratio
entry_of d = entry_by (as_str d) d

-- ---- matrices
-- the entries of a row, at most so many, of which k came before
abbrev pub entries_from : ℕ → ℕ → Items → Read (List Ratio)
entries_from most k no_items = Ok []
entries_from most k (item d ds) =
    and_then (entry_of d) (λ q. if nat_lt k most then before q (entries_from most (suc k) ds) else Err Limit)

-- a first row, which has to have from `least` to `most` entries
abbrev pub first_row_of : ℕ → ℕ → Items → Read (List Ratio)
first_row_of least most ds =
    and_then (entries_from most 0 ds) (λ r. if nat_lt (length r) least then Err Limit else Ok r)

-- the entries of a later row, which has to have n, of which k came before
abbrev pub later_row_from : ℕ → ℕ → Items → Read (List Ratio)
later_row_from n k no_items = if k == n then Ok [] else Err Shape
later_row_from n k (item d ds) =
    if nat_lt k n then and_then (entry_of d) (λ q. before q (later_row_from n (suc k) ds)) else Err Shape

-- the rows of n entries, of which k came before
abbrev pub later_rows_from : ℕ → ℕ → Items → Read (List (List Ratio))
later_rows_from n k no_items = Ok []
later_rows_from n k (item d ds) =
    and_then (items_of d) (λ es. if nat_lt k most_rows then and_then (later_row_from n 0 es) (λ r.
    before r (later_rows_from n (suc k) ds)) else Err Limit)

-- the rows, of as many entries
abbrev pub rows_from : ℕ → ℕ → Items → Read FractionMatrix
rows_from least most no_items = Ok (record { cols = 0; rows = [] })
rows_from least most (item d ds) =
    and_then (items_of d) (λ es.
    and_then (first_row_of least most es) (λ r.
    and_then (before r (later_rows_from (length r) 1 ds)) (λ rows.
    Ok (record { cols = length r; rows = rows }))))

-- the elements but a last object
abbrev pub rows_before : Items → Items
rows_before no_items = no_items
rows_before (item d no_items) = if is_some (as_object d) then no_items else item d no_items
rows_before (item d (item e ds)) = item d (rows_before (item e ds))

-- the last element, where it is an object
abbrev pub object_behind : Items → Option Data
object_behind no_items = None
object_behind (item d no_items) = if is_some (as_object d) then Some d else None
object_behind (item d (item e ds)) = object_behind (item e ds)

abbrev pub has_one_member : Data → Bool
has_one_member (object (member key d no_members)) = true
has_one_member d = false

-- the n of {"cols":n}
abbrev pub cols_member : Data → Read Data
cols_member d = if has_one_member d then or_fault Shape (get (codes "cols") d) else Err Shape

abbrev pub whole_number_of : Data → Read ℤ
whole_number_of d = and_then (or_fault Shape (as_number d)) (λ n. or_fault Number (as_integer n))

-- the column count of a matrix without rows
abbrev pub only_cols : ℕ → ℕ → ℤ → Read FractionMatrix
only_cols least most (pos n) = if nat_le least n && nat_le n most then Ok (record { cols = n; rows = [] })
    else Err Limit
only_cols least most (negsuc n) = Err Limit

-- the matrix with this column count stated behind its rows
abbrev pub with_cols : ℕ → ℕ → FractionMatrix → ℤ → Read FractionMatrix
with_cols least most m z = if length m.rows == 0 then only_cols least most z
    else if is_number z m.cols then Ok m else Err Shape

abbrev pub matrix_with : ℕ → ℕ → Items → Option Data → Read FractionMatrix
matrix_with least most ds None = rows_from least most ds
matrix_with least most ds (Some d) =
    and_then (rows_from least most ds) (λ m.
    and_then (and_then (cols_member d) whole_number_of) (with_cols least most m))

abbrev pub matrix_from : ℕ → ℕ → Items → Read FractionMatrix
matrix_from least most ds = matrix_with least most (rows_before ds) (object_behind ds)

abbrev pub matrix_of : ℕ → ℕ → Data → Read PropertyValue
matrix_of least most d =
    and_then (items_of d) (λ ds. and_then (matrix_from least most ds) (λ m. Ok (matrix m.cols m.rows)))

-- one row
abbrev pub one_row_of : ℕ → ℕ → Data → Read PropertyValue
one_row_of least most d =
    and_then (items_of d) (λ ds.
    and_then (first_row_of least most ds) (λ r. Ok (matrix (length r) (r ∷ []))))

abbrev pub matrix_reading : PropId → Data → Read PropertyValue
matrix_reading LinearObjective d = one_row_of 1 most_columns d
matrix_reading SiteHeights d = one_row_of 0 most_rows d
matrix_reading F2Vector d = matrix_of 0 most_columns d
matrix_reading Sites d = matrix_of 1 most_site_columns d
matrix_reading p d = matrix_of 1 most_columns d

-- ---- sets
abbrev pub index_below_limit : ℤ → Read ℕ
index_below_limit (pos j) = if nat_lt j most_rows then Ok j else Err Limit
index_below_limit (negsuc j) = Err Index

abbrev pub index_of : Data → Read ℕ
index_of d = and_then (whole_number_of d) index_below_limit

-- an ascending set with one index more
abbrev pub with_index : ℕ → List ℕ → List ℕ
with_index j [] = j ∷ []
with_index j (k ∷ set) = if nat_lt j k then j ∷ k ∷ set else k ∷ with_index j set

abbrev pub has_index : ℕ → List ℕ → Bool
has_index j set = list_any (λ k. k == j) set

-- the set, with the indices from here on
abbrev pub set_from : List ℕ → Items → Read (List ℕ)
set_from set no_items = Ok set
set_from set (item d ds) = and_then (index_of d) (λ j. if has_index j set then Err Shape
    else set_from (with_index j set) ds)

abbrev pub count_up_to_limit : ℤ → Read ℕ
count_up_to_limit (pos n) = if nat_le n most_rows then Ok n else Err Limit
count_up_to_limit (negsuc n) = Err Limit

abbrev pub count_of : Data → Read ℕ
count_of d = and_then (whole_number_of d) count_up_to_limit

-- the column count of sets
abbrev pub stated_of : Data → Read ℕ
stated_of d = and_then (cols_member d) count_of

-- sets, and the column count that is stated behind them, if one is
pub record SetsSeen : Type 0 where
  pub rows : List (List ℕ)
  pub stated : Option ℕ

abbrev pub before_sets : List ℕ → Read SetsSeen → Read SetsSeen
before_sets set others = and_then others (λ s. Ok (record s { rows = set ∷ s.rows }))

-- an object is no set: the last one states the column count, and one that is not last has a wrong shape
abbrev pub stated_last : Data → Items → Read SetsSeen
stated_last d no_items = and_then (stated_of d) (λ n. Ok (record { rows = []; stated = Some n }))
stated_last d (item e ds) = Err Shape

-- the sets, of which k came before
abbrev pub sets_from : ℕ → Items → Read SetsSeen
sets_from k no_items = Ok (record { rows = []; stated = None })
sets_from k (item d ds) =
    if is_some (as_object d) then stated_last d ds
    else and_then (items_of d) (λ es. if nat_lt k most_rows then and_then (set_from [] es) (λ set.
    before_sets set (sets_from (suc k) ds)) else Err Limit)

-- the least number above each index of a set, of each set
abbrev pub above_set : List ℕ → ℕ
above_set [] = 0
above_set (j ∷ set) = max (suc j) (above_set set)

abbrev pub above_sets : List (List ℕ) → ℕ
above_sets [] = 0
above_sets (set ∷ rows) = max (above_set set) (above_sets rows)

abbrev pub sets_with : List (List ℕ) → Option ℕ → Read PropertyValue
sets_with rows None = Ok (sets rows (above_sets rows))
sets_with rows (Some n) = if nat_le (above_sets rows) n then Ok (sets rows n) else Err Index

abbrev pub sets_of : Data → Read PropertyValue
sets_of d = and_then (items_of d) (λ ds. and_then (sets_from 0 ds) (λ s. sets_with s.rows s.stated))

-- ---- whole numbers and truth values
abbrev pub whole_value : PropId → ℤ → Read PropertyValue
whole_value p k = if is_ambient p && not (is_dimension k) then Err Limit else Ok (whole k)

abbrev pub whole_of : PropId → Data → Read PropertyValue
whole_of p d =
    and_then (or_fault Shape (as_number d)) (λ n. and_then (or_fault Number (as_i64 n)) (whole_value p))

abbrev pub truth_of : Data → Read PropertyValue
truth_of d = and_then (or_fault Shape (as_bool d)) (λ b. Ok (truth b))

-- ---- fractions and infinities
abbrev pub is_text : List ℕ → Option (List ℕ) → Bool
is_text text None = false
is_text text (Some found) = bytes_eq found text

abbrev pub number_value_of : Data → Read Extended
number_value_of d =
    if is_text (codes "inf") (as_str d) then Ok plus_infinity
    else if is_text (codes "-inf") (as_str d) then Ok minus_infinity
    else and_then (entry_of d) (λ q. Ok (finite q))

abbrev pub extended_value_of : Data → Read PropertyValue
extended_value_of d = and_then (number_value_of d) (λ x. Ok (extended x))

-- ---- lists of counts
-- an optional - and one digit or more, which write a number of 64 bits
abbrev pub is_count_text : List ℕ → Bool
is_count_text bs = not (slice_index bs 0 == 43) && nat_lt 0 (length (without_leading_sign bs))
    && list_all is_ascii_digit (without_leading_sign bs) && has_64_bits (signed_digits_value 10 bs)

abbrev pub count_of_text : List ℕ → Read ℤ
count_of_text bs = if is_count_text bs then Ok (signed_digits_value 10 bs) else Err Number

abbrev pub count_of_number : Data → Read ℤ
count_of_number d = and_then (or_fault Shape (as_number d)) (λ n. or_fault Number (as_i64 n))

abbrev pub whole_count_by : Option (List ℕ) → Data → Read ℤ
whole_count_by (Some text) d = count_of_text text
whole_count_by None d = count_of_number d

-- a whole number of 64 bits, or a text that writes one
abbrev pub whole_count_of : Data → Read ℤ
whole_count_of d = whole_count_by (as_str d) d

-- the numbers, of which k came before
abbrev pub counts_from : ℕ → Items → Read (List ℤ)
counts_from k no_items = Ok []
counts_from k (item d ds) =
    and_then (whole_count_of d) (λ z. if nat_lt k most_rows then before z (counts_from (suc k) ds)
    else Err Limit)

abbrev pub counts_of : Data → Read PropertyValue
counts_of d = and_then (items_of d) (λ ds. and_then (counts_from 0 ds) (λ ks. Ok (counts ks)))

-- ---- edges
-- the neighbours of the nodes, of which k came before
abbrev pub nodes_from : ℕ → Items → Read (List (List ℕ))
nodes_from k no_items = Ok []
nodes_from k (item d ds) =
    and_then (items_of d) (λ es. if nat_lt k most_rows then and_then (set_from [] es) (λ set.
    before set (nodes_from (suc k) ds)) else Err Limit)

-- each neighbour is a node, and each node a neighbour of its neighbours and not of itself
abbrev pub edges_with : List (List ℕ) → Read PropertyValue
edges_with rows =
    if nat_le (above_sets rows) (length rows) then
    (if are_joined_back rows 0 rows then Ok (edges rows (length rows)) else Err Shape) else Err Index

abbrev pub edges_of : Data → Read PropertyValue
edges_of d = and_then (items_of d) (λ ds. and_then (nodes_from 0 ds) edges_with)

-- ---- lattices
-- the face, with the indices from here on, of which k came before in the lattice
abbrev pub face_from : ℕ → List ℕ → Items → Read (List ℕ)
face_from k face no_items = Ok face
face_from k face (item d ds) = and_then (index_of d) (λ j. if has_index j face then Err Shape
    else if nat_lt k most_places then face_from (suc k) (with_index j face) ds else Err Limit)

-- the faces of a rank, where m faces and k indices came before in the lattice
abbrev pub faces_from : ℕ → ℕ → Items → Read (List (List ℕ))
faces_from m k no_items = Ok []
faces_from m k (item d ds) =
    and_then (items_of d) (λ es. if nat_lt m most_faces then and_then (face_from k [] es) (λ face.
    before face (faces_from (suc m) (k + length face) ds)) else Err Limit)

abbrev pub ranks_from : ℕ → ℕ → Items → Read (List (List (List ℕ)))
ranks_from m k no_items = Ok []
ranks_from m k (item d ds) =
    and_then (items_of d) (λ es.
    and_then (faces_from m k es) (λ faces.
    before faces (ranks_from (m + length faces) (k + sum_by length faces) ds)))

abbrev pub lattice_of : Data → Read PropertyValue
lattice_of d = and_then (items_of d) (λ ds. and_then (ranks_from 0 0 ds) (λ ranks. Ok (lattice ranks)))

-- ---- values
abbrev pub reading_of : ValueKind → PropId → Data → Read PropertyValue
reading_of kind.Mat p d = matrix_reading p d
reading_of kind.Sets p d = sets_of d
reading_of kind.Int p d = whole_of p d
reading_of kind.Bool p d = truth_of d
reading_of kind.Counts p d = counts_of d
reading_of kind.Edges p d = edges_of d
reading_of kind.Lattice p d = lattice_of d
reading_of kind.Number p d = extended_value_of d

-- the value of p that the JSON value d is, or the fault
abbrev pub reading : PropId → Data → Read PropertyValue
reading p d = reading_of (value_kind p) p d
