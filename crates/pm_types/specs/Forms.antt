-- Which values have the form of their property.
use Rattle.std.specs.Prelude.{ℕ, zero, suc, ◌||◌, ◌&&◌, ◌^◌, Bool, true, false, not, IsTrue, List, [], ◌∷◌, length, nat_eq, nat_le, nat_lt, if◌then◌else◌}
use Rattle.std.specs.List.{All, list_all, slice_index_or, sum_by}
use Rattle.pm_vector.specs.Numbers.{Ratio}
use Rattle.pm_object_type.specs.declared.object_type.ObjectType.{ObjectType}
use Rattle.pm_object_type.specs.declared.object_type.ObjectType.TheVariants.{Polytope}
use Rattle.pm_geom.specs.Graphs.{holds}
use Rattle.pm_fraction.specs.FractionRows.{IsLeastDenominator}
use Rattle.pm_fraction.specs.Matrices.{IsFraction}
use Rattle.pm_fraction.specs.Wideness.{DenominatorsStay, NumeratorsStay}
use Rattle.pm_props.specs.Properties.{is_ambient, is_columned, is_of_matrices, is_of_sets, is_of_counts, is_of_edges, is_of_lattices, is_of_truth_values, is_of_whole_numbers, row, value_kind}
use Rattle.pm_types.specs.Values.{PropertyValue, matrix, sets, whole, truth, counts, edges, lattice, extended, finite}
use Rattle.pm_props.specs.declared.property.PropId.{PropId}
use Rattle.pm_props.specs.declared.property.PropId.TheVariants.{F2Vector, LinearObjective, SiteHeights, Sites}
use Rattle.pm_props.specs.declared.property.RowTest.{RowTest}
use Rattle.pm_props.specs.declared.property.RowTest.TheVariants as test
use Rattle.pm_props.specs.declared.property.ValueKind.{ValueKind}
use Rattle.pm_props.specs.declared.property.ValueKind.TheVariants as kind
use lib.IntN.{ℤ, pos, negsuc}
use Rattle.pm_limits.specs.Limits.{most_columns, most_faces, most_indices, most_places, most_rows, most_site_columns}

-- ---- forms
-- a row of n entries
abbrev pub is_row_of_entries : ℕ → List Ratio → Bool
is_row_of_entries n r = nat_eq (length r) n

-- rows need columns
abbrev pub is_column_count : List (List Ratio) → ℕ → Bool
is_column_count [] n = nat_le n most_columns
is_column_count (r ∷ rows) n = nat_le 1 n && nat_le n most_columns

abbrev pub is_matrix_form : ℕ → List (List Ratio) → Bool
is_matrix_form n rows = nat_le (length rows) most_rows && is_column_count rows n
    && list_all (is_row_of_entries n) rows

-- a table may have rows without entries
abbrev pub is_table_form : ℕ → List (List Ratio) → Bool
is_table_form n rows = nat_le (length rows) most_rows && nat_le n most_columns
    && list_all (is_row_of_entries n) rows

-- one row of at most most_rows entries, or of none
abbrev pub is_list_form : ℕ → List (List Ratio) → Bool
is_list_form n rows = nat_eq (length rows) 1 && nat_le n most_rows && list_all (is_row_of_entries n) rows

-- F2_VECTOR is a table, LP.LINEAR_OBJECTIVE is one row, SITES have at most most_site_columns columns, and
-- SITE_HEIGHTS are a list
abbrev pub is_matrix_of : PropId → ℕ → List (List Ratio) → Bool
is_matrix_of F2Vector n rows = is_table_form n rows
is_matrix_of LinearObjective n rows = nat_eq (length rows) 1 && is_matrix_form n rows
is_matrix_of Sites n rows = nat_le n most_site_columns && is_matrix_form n rows
is_matrix_of SiteHeights n rows = is_list_form n rows
is_matrix_of p n rows = is_matrix_form n rows

-- ascending indices from `low` on, below n
abbrev pub are_indices : ℕ → ℕ → List ℕ → Bool
are_indices n low [] = true
are_indices n low (j ∷ js) = nat_le low j && nat_lt j n && are_indices n (suc j) js

abbrev pub is_sets_form : List (List ℕ) → ℕ → Bool
is_sets_form rows n = nat_le (length rows) most_rows && nat_le n most_rows && list_all (are_indices n 0) rows

abbrev pub is_dimension : ℤ → Bool
is_dimension (pos n) = nat_le 1 n && nat_le n most_columns
is_dimension (negsuc n) = false

abbrev pub has_64_bits : ℤ → Bool
has_64_bits (pos n) = nat_lt n (2 ^ 63)
has_64_bits (negsuc n) = nat_lt n (2 ^ 63)

-- a number of columns is from 1 to 33, other whole numbers have 64 bits
abbrev pub is_whole_form : PropId → ℤ → Bool
is_whole_form p k = if is_ambient p then is_dimension k
    else is_of_whole_numbers (value_kind p) && has_64_bits k

-- at most most_rows whole numbers of 64 bits
abbrev pub is_counts_form : List ℤ → Bool
is_counts_form ks = nat_le (length ks) most_rows && list_all has_64_bits ks

-- j is another node, and has i as its neighbour
abbrev pub joins : List (List ℕ) → ℕ → ℕ → Bool
joins rows i j = not (nat_eq j i) && holds (slice_index_or rows j []) i

-- the node i is no neighbour of its own, and a neighbour of each of its neighbours
abbrev pub is_joined_back : List (List ℕ) → ℕ → List ℕ → Bool
is_joined_back rows i row = list_all (joins rows i) row

-- so is each node from i on
abbrev pub are_joined_back : List (List ℕ) → ℕ → List (List ℕ) → Bool
are_joined_back rows i [] = true
are_joined_back rows i (row ∷ others) = is_joined_back rows i row && are_joined_back rows (suc i) others

-- at most most_rows nodes, each with ascending neighbours, and neighbours of one another
abbrev pub is_edges_form : List (List ℕ) → Bool
is_edges_form rows = is_sets_form rows (length rows) && are_joined_back rows 0 rows

-- at most most_faces faces with at most most_places indices in all, each ascending, below most_rows
abbrev pub is_lattice_form : List (List (List ℕ)) → Bool
is_lattice_form ranks = nat_le (sum_by length ranks) most_faces
    && nat_le (sum_by (sum_by length) ranks) most_places
    && list_all (list_all (are_indices most_indices 0)) ranks

-- a fraction or an infinity
abbrev pub is_of_numbers : ValueKind → Bool
is_of_numbers kind.Number = true
is_of_numbers k = false

-- the value has the form of a value of p, and keeps the limits: a matrix has at most most_rows rows of one length
-- from 1 to 33 (of SITES to most_site_columns), and without rows it may state no column count, 0; SITE_HEIGHTS has at
-- most most_rows entries; at most most_rows sets, each ascending, of indices below a column count of at most
-- most_rows; at most most_rows counts; edges with the number of their nodes, and lattices, as above
abbrev pub is_formed : PropId → PropertyValue → Bool
is_formed p (matrix n rows) = is_of_matrices (value_kind p) && is_matrix_of p n rows
is_formed p (sets rows n) = is_of_sets (value_kind p) && is_sets_form rows n
is_formed p (whole k) = is_whole_form p k
is_formed p (truth b) = is_of_truth_values (value_kind p)
is_formed p (counts ks) = is_of_counts (value_kind p) && is_counts_form ks
is_formed p (edges rows n) = is_of_edges (value_kind p) && (is_edges_form rows && nat_eq n (length rows))
is_formed p (lattice ranks) = is_of_lattices (value_kind p) && is_lattice_form ranks
is_formed p (extended x) = is_of_numbers (value_kind p)

-- ---- columns
abbrev pub cols_in : PropertyValue → ℕ
cols_in (matrix n rows) = n
cols_in v = 0

-- the column count of an n-column matrix that has rows or a stated one, 0 for other values
abbrev pub stated_cols : PropId → PropertyValue → ℕ
stated_cols p v = if is_columned p then cols_in v else 0

abbrev pub is_number : ℤ → ℕ → Bool
is_number (pos k) n = nat_eq k n
is_number (negsuc k) n = false

abbrev pub states : ℕ → PropertyValue → Bool
states n (whole k) = is_number k n
states n v = true

-- the value's columns, or the dimension that it states, do not differ from n
abbrev pub agrees_with : ℕ → PropId → PropertyValue → Bool
agrees_with n p v = if is_ambient p then states n v
    else nat_eq (stated_cols p v) 0 || nat_eq (stated_cols p v) n

-- ---- the tests of rows
abbrev pub is_nought : ℤ → Bool
is_nought (pos zero) = true
is_nought k = false

abbrev pub is_below_nought : ℤ → Bool
is_below_nought (pos n) = false
is_below_nought (negsuc n) = true

abbrev pub is_zero_row : List Ratio → Bool
is_zero_row r = list_all (λ q. is_nought q.num) r

abbrev pub first_is_nought : List Ratio → Bool
first_is_nought [] = true
first_is_nought (q ∷ r) = is_nought q.num

abbrev pub first_is_below : List Ratio → Bool
first_is_below [] = false
first_is_below (q ∷ r) = is_below_nought q.num

abbrev pub is_above_nought : ℤ → Bool
is_above_nought (pos (suc n)) = true
is_above_nought k = false

abbrev pub first_is_above : List Ratio → Bool
first_is_above [] = false
first_is_above (q ∷ r) = is_above_nought q.num

-- the row passes the test: of a polytope points do not lie behind and lines have first coordinate 0; no ray and no
-- facet row is zero; the first coordinate of a site is positive
abbrev pub passes : ObjectType → RowTest → List Ratio → Bool
passes Polytope test.Point r = not (first_is_below r)
passes Polytope test.Line r = first_is_nought r
passes Polytope test.Ray r = not (first_is_below r) && not (is_zero_row r)
passes of test.Ray r = not (is_zero_row r)
passes of test.NotZero r = not (is_zero_row r)
passes of test.Site r = first_is_above r
passes of test r = true

-- it passes the test of rows of that property
abbrev pub is_row : ObjectType → PropId → List Ratio → Bool
is_row of p r = passes of (row p).test r

abbrev pub are_rows : ObjectType → PropId → PropertyValue → Bool
are_rows of p (matrix n rows) = list_all (is_row of p) rows
are_rows of p v = true

-- the primitive row of r is made within the range: so is, column by column, each least common multiple of the
-- denominators so far, and then, column by column, each numerator over the last of these
pub record HasPrimitiveRow (r : List Ratio) : Type 0 where
  pub denominators : DenominatorsStay r (length r)
  pub numerators : (m : ℕ) → IsLeastDenominator r (length r) m → NumeratorsStay r m (length r)

-- the rows of a matrix; none of other values
abbrev pub rows_in : PropertyValue → List (List Ratio)
rows_in (matrix n rows) = rows
rows_in v = []

-- each entry of a matrix, and a finite number, is in lowest terms, with both parts in the range
abbrev pub AreFractions : PropertyValue → Type 0
AreFractions (extended (finite q)) = IsFraction q
AreFractions v = All (All IsFraction) (rows_in v)

-- so is it for each row, but heights are no row of coordinates
abbrev pub HavePrimitiveRows : PropId → PropertyValue → Type 0
HavePrimitiveRows SiteHeights v = Unit {0}
HavePrimitiveRows p v = All HasPrimitiveRow (rows_in v)

-- a value that an object of this type with n columns may hold
pub record FormsIn (of : ObjectType) (n : ℕ) (p : PropId) (v : PropertyValue) : Type 0 where
  pub formed : IsTrue (is_formed p v)
  pub columns : IsTrue (agrees_with n p v)
  pub rows : IsTrue (are_rows of p v)
  pub entries : AreFractions v
  pub primitive : HavePrimitiveRows p v
