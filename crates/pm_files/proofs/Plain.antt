-- The JSON of values nests three levels at most, and has no float.
use Rattle.std.proofs.Common.{refl, ◌≡◌, ◌≤◌, ℕ, List, [], ◌∷◌, ◌++◌, map, Bool, true, false, arith, eqb}
use Rattle.std.specs.Prelude.{if◌then◌else◌}
use Rattle.pm_vector.specs.Numbers.{Ratio}
use Rattle.pm_props.specs.declared.property.PropId.{PropId}
use Rattle.pm_types.specs.Values.{PropertyValue, matrix, sets, whole, truth, extended, edges, lattice, counts, finite, plus_infinity, minus_infinity}
use Rattle.serde_json.specs.Data.{Data, depth, items_depth}
use Rattle.serde_json.specs.View.{items_of}
use Rattle.serde_json.specs.Written.{has_float, items_have_float}
use Rattle.pm_files.specs.ValueJson.{cols_json, edges_json, fraction_json, index_json, is_one_row, json_of, matrix_json, objective_json, row_json, rows_json, set_json, untold_cols, whole_json}
use lib.IntN.{ℤ, pos, negsuc}

-- ---- nesting
pub each_depth : {X : Type 0} (f : X → Data) (n : ℕ) → ((x : X) → depth (f x) ≤ n) → (xs : List X) → items_depth (items_of (map f xs)) ≤ n
each_depth f n h [] = omega arith
each_depth f n h (x ∷ xs) = let first = h x in let rest = each_depth f n h xs in omega arith

row_depth : (r : List Ratio) → depth (row_json r) ≤ 1
row_depth r = let e = each_depth fraction_json 0 (λ q. omega arith) r in omega arith

pub set_depth : (set : List ℕ) → depth (set_json set) ≤ 1
set_depth set = let e = each_depth index_json 0 (λ j. omega arith) set in omega arith

pub edges_depth : (rows : List (List ℕ)) → depth (edges_json rows) ≤ 2
edges_depth rows = let e = each_depth set_json 1 set_depth rows in omega arith

sets_depth : (rows : List (List ℕ)) (n : ℕ) → items_depth (items_of (map set_json rows ++ cols_json n ∷ [])) ≤ 1
sets_depth [] n = omega arith
sets_depth (set ∷ rows) n = let first = set_depth set in let rest = sets_depth rows n in omega arith

untold_depth : (n : ℕ) → items_depth (items_of (untold_cols n)) ≤ 1
untold_depth n = by (eqb n 0)
  where
    by : (b : Bool) → items_depth (items_of (if b then [] else cols_json n ∷ [])) ≤ 1
    by true = omega arith
    by false = omega arith

matrix_depth : (n : ℕ) (rows : List (List Ratio)) → depth (matrix_json n rows) ≤ 3
matrix_depth n [] = let e = untold_depth n in omega arith
matrix_depth n (r ∷ rows) = let e = each_depth row_json 1 row_depth (r ∷ rows) in omega arith

pub objective_depth : (rows : List (List Ratio)) → depth (objective_json rows) ≤ 3
objective_depth [] = omega arith
objective_depth (r ∷ rows) = let e = row_depth r in omega arith

rows_depth : (p : PropId) (n : ℕ) (rows : List (List Ratio)) → depth (rows_json p n rows) ≤ 3
rows_depth p n rows = by (is_one_row p)
  where
    by : (one : Bool) → depth (if one then objective_json rows else matrix_json n rows) ≤ 3
    by true = objective_depth rows
    by false = matrix_depth n rows

pub value_depth : (p : PropId) (v : PropertyValue) → depth (json_of p v) ≤ 3
value_depth p (matrix n rows) = rows_depth p n rows
value_depth p (sets rows n) = let e = sets_depth rows n in omega arith
value_depth p (whole k) = omega arith
value_depth p (truth b) = omega arith
value_depth p (extended (finite q)) = omega arith
value_depth p (extended plus_infinity) = omega arith
value_depth p (extended minus_infinity) = omega arith
value_depth p (edges rows n) = let e = edges_depth rows in omega arith
value_depth p (lattice ranks) = let e = each_depth edges_json 2 edges_depth ranks in omega arith
value_depth p (counts ks) = let e = each_depth whole_json 0 (λ k. omega arith) ks in omega arith

-- ---- floats
pub each_whole : {X : Type 0} (f : X → Data) → ((x : X) → has_float (f x) ≡ false) → (xs : List X) → items_have_float (items_of (map f xs)) ≡ false
each_whole f h [] = refl
each_whole f h (x ∷ xs) = rw (h x) (each_whole f h xs)

row_whole : (r : List Ratio) → has_float (row_json r) ≡ false
row_whole r = each_whole fraction_json (λ q. refl) r

pub set_whole : (set : List ℕ) → has_float (set_json set) ≡ false
set_whole set = each_whole index_json (λ j. refl) set

pub edges_whole : (rows : List (List ℕ)) → has_float (edges_json rows) ≡ false
edges_whole rows = each_whole set_json set_whole rows

sets_whole : (rows : List (List ℕ)) (n : ℕ) → items_have_float (items_of (map set_json rows ++ cols_json n ∷ [])) ≡ false
sets_whole [] n = refl
sets_whole (set ∷ rows) n = rw (set_whole set) (sets_whole rows n)

untold_whole : (n : ℕ) → items_have_float (items_of (untold_cols n)) ≡ false
untold_whole n = by (eqb n 0)
  where
    by : (b : Bool) → items_have_float (items_of (if b then [] else cols_json n ∷ [])) ≡ false
    by true = refl
    by false = refl

matrix_whole : (n : ℕ) (rows : List (List Ratio)) → has_float (matrix_json n rows) ≡ false
matrix_whole n [] = untold_whole n
matrix_whole n (r ∷ rows) = each_whole row_json row_whole (r ∷ rows)

pub objective_whole : (rows : List (List Ratio)) → has_float (objective_json rows) ≡ false
objective_whole [] = refl
objective_whole (r ∷ rows) = row_whole r

rows_whole : (p : PropId) (n : ℕ) (rows : List (List Ratio)) → has_float (rows_json p n rows) ≡ false
rows_whole p n rows = by (is_one_row p)
  where
    by : (one : Bool) → has_float (if one then objective_json rows else matrix_json n rows) ≡ false
    by true = objective_whole rows
    by false = matrix_whole n rows

number_whole : (k : ℤ) → has_float (whole_json k) ≡ false
number_whole (pos n) = refl
number_whole (negsuc n) = refl

pub value_whole : (p : PropId) (v : PropertyValue) → has_float (json_of p v) ≡ false
value_whole p (matrix n rows) = rows_whole p n rows
value_whole p (sets rows n) = sets_whole rows n
value_whole p (whole k) = number_whole k
value_whole p (truth b) = refl
value_whole p (extended (finite q)) = refl
value_whole p (extended plus_infinity) = refl
value_whole p (extended minus_infinity) = refl
value_whole p (edges rows n) = edges_whole rows
value_whole p (lattice ranks) = each_whole edges_json edges_whole ranks
value_whole p (counts ks) = each_whole whole_json number_whole ks
