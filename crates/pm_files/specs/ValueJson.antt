-- The JSON of a value of a property, as polymake's data files have it (Assarf, Gawrilow et al., Computing convex
-- hulls and counting integer points with polymake): fractions and infinities are texts, indices and whole numbers are
-- numbers.
use Rattle.std.specs.Prelude.{ℕ, Bool, true, false, List, [], ◌∷◌, ◌++◌, ◌==◌, if◌then◌else◌, map, codes}
use Rattle.pm_vector.specs.Numbers.{Ratio}
use Rattle.pm_fraction.specs.Text.{text_of}
use Rattle.pm_props.specs.declared.property.PropId.{PropId}
use Rattle.pm_props.specs.declared.property.PropId.TheVariants.{LinearObjective, SiteHeights}
use Rattle.pm_types.specs.Values.{PropertyValue, matrix, sets, whole, truth, extended, edges, lattice, counts, Extended, finite, plus_infinity, minus_infinity}
use Rattle.serde_json.specs.Data.{Data, unsigned, boolean, number, string, array, object, no_members, member}
use Rattle.serde_json.specs.Find.{of_integer}
use Rattle.serde_json.specs.View.{items_of}
use Rattle.serde_json.specs.Written.{compact_text}
use lib.IntN.{ℤ}

abbrev pub array_of : List Data → Data
array_of ds = array (items_of ds)

-- ---- matrices
abbrev pub fraction_json : Ratio → Data
fraction_json q = string (text_of q)

abbrev pub row_json : List Ratio → Data
row_json r = array_of (map fraction_json r)

-- {"cols":n}
abbrev pub cols_json : ℕ → Data
cols_json n = object (member (codes "cols") (number (unsigned n)) no_members)

-- the column count, where no row tells it and one is stated
abbrev pub untold_cols : ℕ → List Data
untold_cols n = if n == 0 then [] else cols_json n ∷ []

abbrev pub matrix_json : ℕ → List (List Ratio) → Data
matrix_json n [] = array_of (untold_cols n)
matrix_json n (r ∷ rows) = array_of (map row_json (r ∷ rows))

-- an objective is one row, and so are heights
abbrev pub objective_json : List (List Ratio) → Data
objective_json [] = array_of []
objective_json (r ∷ rows) = row_json r

-- the values of p are one row each
abbrev pub is_one_row : PropId → Bool
is_one_row LinearObjective = true
is_one_row SiteHeights = true
is_one_row p = false

abbrev pub rows_json : PropId → ℕ → List (List Ratio) → Data
rows_json p n rows = if is_one_row p then objective_json rows else matrix_json n rows

-- ---- sets
abbrev pub index_json : ℕ → Data
index_json j = number (unsigned j)

abbrev pub set_json : List ℕ → Data
set_json set = array_of (map index_json set)

-- the sets, and behind them the column count
abbrev pub sets_json : List (List ℕ) → ℕ → Data
sets_json rows n = array_of (map set_json rows ++ cols_json n ∷ [])

-- sets alone
abbrev pub edges_json : List (List ℕ) → Data
edges_json rows = array_of (map set_json rows)

abbrev pub lattice_json : List (List (List ℕ)) → Data
lattice_json ranks = array_of (map edges_json ranks)

-- ---- numbers
abbrev pub whole_json : ℤ → Data
whole_json k = number (of_integer k)

abbrev pub counts_json : List ℤ → Data
counts_json ks = array_of (map whole_json ks)

abbrev pub extended_json : Extended → Data
extended_json (finite q) = fraction_json q
extended_json plus_infinity = string (codes "inf")
extended_json minus_infinity = string (codes "-inf")

-- ---- values
-- the JSON of a value of p
abbrev pub json_of : PropId → PropertyValue → Data
json_of p (matrix n rows) = rows_json p n rows
json_of p (sets rows n) = sets_json rows n
json_of p (whole k) = whole_json k
json_of p (truth b) = boolean b
json_of p (extended x) = extended_json x
json_of p (edges rows n) = edges_json rows
json_of p (lattice ranks) = lattice_json ranks
json_of p (counts ks) = counts_json ks

-- its text, without spaces, as replies show the value
abbrev pub value_text : PropId → PropertyValue → List ℕ
value_text p v = compact_text (json_of p v)
