-- The forms of the matrices that clients put.
use Rattle.pm_vector.specs.Numbers.{InRange, Ratio}
use Rattle.pm_vector.specs.Rows.{HasCols, Row, entry}
use Rattle.pm_clients_geom.proofs.RowLists.{IsColumned}
use Rattle.pm_clients_geom.specs.Matrices.{MayBeLines}
use Rattle.pm_types.specs.Parts.{cols_over}
use Rattle.pm_object_type.specs.declared.object_type.ObjectType.{ObjectType}
use Rattle.pm_object_type.specs.declared.object_type.ObjectType.TheVariants.{Cone, Fan, Polytope}
use Rattle.pm_types.proofs.WholeRows.{ratios_rows_fractions, ratios_rows_of_entries, ratios_rows_primitive}
use Rattle.pm_types.specs.Forms.{FormsIn, first_is_nought, first_is_below, is_column_count, is_nought, is_row, is_row_of_entries, is_zero_row}
use Rattle.pm_types.specs.Runs.{states_rows}
use Rattle.pm_types.specs.Values.{matrix}
use Rattle.pm_types.specs.Views.{ratios}
use Rattle.pm_props.specs.declared.property.PropId.TheVariants.{AffineHull, Equations, Facets, Inequalities, InputLineality, LinealitySpace, Points, Vertices}
use Rattle.std.proofs.Common.{ap, arith, refl, suc, true}
use Rattle.std.proofs.lemmas.Bool.{and_parts}
use Rattle.std.proofs.lemmas.List.{length-map}
use Rattle.std.specs.List.{All, list_all}
use Rattle.std.specs.Prelude.{Bool, IsTrue, List, [], length, map, nat_eq, nat_le, not, ℕ, ◌∷◌, ◌≡◌, ◌≤◌, ◌||◌}
use lib.IntN.{pos}
use Rattle.pm_limits.specs.Limits.{most_columns, most_rows}

-- ---- without rows no column count is stated
pub put_states : (n : ℕ) (rows : List (List Ratio)) → IsTrue (states_rows (matrix (cols_over n rows) rows))
put_states n [] = refl
put_states n (r ∷ rows) = refl

pub put_columned : (n m : ℕ) (rows : List (List Ratio)) → IsColumned n m rows → IsColumned n (cols_over m rows) rows
put_columned n m [] h = (refl, refl)
put_columned n m (r ∷ rows) h = h

same_number : (n : ℕ) → (nat_eq n 0 || nat_eq n n) ≡ true
same_number n = grind arith

column_count : (n : ℕ) (rows : List (List Ratio)) → nat_le 1 n ≡ true → nat_le n most_columns ≡ true → is_column_count rows n ≡ true
column_count n [] some few = few
column_count n (r ∷ rows) some few = rw (some, few) refl

-- few rows of n entries
pub rows_columned : (n : ℕ) (rows : List (List Ratio)) → nat_le 1 n ≡ true → nat_le n most_columns ≡ true → length rows ≤ most_rows → list_all (is_row_of_entries n) rows ≡ true → IsColumned n n rows
rows_columned n rows some few count entries = let c : nat_le (length rows) most_rows ≡ true = grind arith in (rw (c, column_count n rows some few, entries) refl, same_number n)

pub ratios_columned : (n : ℕ) (N : List Row) → nat_le 1 n ≡ true → nat_le n most_columns ≡ true → length N ≤ most_rows → HasCols n N → IsColumned n (cols_over n (map ratios N)) (map ratios N)
ratios_columned n N some few count cols = put_columned n n (map ratios N) (rows_columned n (map ratios N) some few (rw length-map count) (ratios_rows_of_entries n N cols))

-- ---- tests of rows
all_rows : {X : Type 0} (f g : X → Bool) → ((x : X) → f x ≡ true → g x ≡ true) → (xs : List X) → list_all f xs ≡ true → list_all g xs ≡ true
all_rows f g step [] h = refl
all_rows f g step (x ∷ xs) h = let p = and_parts (f x) (list_all f xs) h in rw (step x p.0, all_rows f g step xs p.1) refl

any_rows : {X : Type 0} (g : X → Bool) → ((x : X) → g x ≡ true) → (xs : List X) → list_all g xs ≡ true
any_rows g each [] = refl
any_rows g each (x ∷ xs) = rw (each x, any_rows g each xs) refl

point_row : (of : ObjectType) (r : List Ratio) → is_row of Vertices r ≡ true → is_row of Points r ≡ true
point_row Polytope r h = (and_parts (not (first_is_below r)) (not (is_zero_row r)) h).0
point_row Cone r h = refl
point_row Fan r h = refl

line_row : (of : ObjectType) (r : List Ratio) → is_row of LinealitySpace r ≡ true → is_row of InputLineality r ≡ true
line_row Polytope r h = h
line_row Cone r h = refl
line_row Fan r h = refl

inequality_row : (of : ObjectType) (r : List Ratio) → is_row of Inequalities r ≡ true
inequality_row Polytope r = refl
inequality_row Cone r = refl
inequality_row Fan r = refl

equation_row : (of : ObjectType) (r : List Ratio) → is_row of Equations r ≡ true
equation_row Polytope r = refl
equation_row Cone r = refl
equation_row Fan r = refl

hull_row : (of : ObjectType) (r : List Ratio) → is_row of AffineHull r ≡ true
hull_row Polytope r = refl
hull_row Cone r = refl
hull_row Fan r = refl

-- ---- the halves of a pair
pub points_forms : (of : ObjectType) (n m : ℕ) (rows : List (List Ratio)) → FormsIn of n Vertices (matrix m rows) → FormsIn of n Points (matrix (cols_over m rows) rows)
points_forms of n m rows h = let c = put_columned n m rows (h.formed, h.columns) in record { formed = c.0; columns = c.1; rows = all_rows (is_row of Vertices) (is_row of Points) (point_row of) rows h.rows; entries = h.entries; primitive = h.primitive }

pub lines_forms : (of : ObjectType) (n m : ℕ) (rows : List (List Ratio)) → FormsIn of n LinealitySpace (matrix m rows) → FormsIn of n InputLineality (matrix (cols_over m rows) rows)
lines_forms of n m rows h = let c = put_columned n m rows (h.formed, h.columns) in record { formed = c.0; columns = c.1; rows = all_rows (is_row of LinealitySpace) (is_row of InputLineality) (line_row of) rows h.rows; entries = h.entries; primitive = h.primitive }

pub inequalities_forms : (of : ObjectType) (n m : ℕ) (rows : List (List Ratio)) → FormsIn of n Facets (matrix m rows) → FormsIn of n Inequalities (matrix (cols_over m rows) rows)
inequalities_forms of n m rows h = let c = put_columned n m rows (h.formed, h.columns) in record { formed = c.0; columns = c.1; rows = any_rows (is_row of Inequalities) (inequality_row of) rows; entries = h.entries; primitive = h.primitive }

pub equations_forms : (of : ObjectType) (n m : ℕ) (rows : List (List Ratio)) → FormsIn of n AffineHull (matrix m rows) → FormsIn of n Equations (matrix (cols_over m rows) rows)
equations_forms of n m rows h = let c = put_columned n m rows (h.formed, h.columns) in record { formed = c.0; columns = c.1; rows = any_rows (is_row of Equations) (equation_row of) rows; entries = h.entries; primitive = h.primitive }

-- ---- bases that were found
first_nought : (x : Row) → entry x 0 ≡ pos 0 → first_is_nought (ratios x) ≡ true
first_nought [] h = refl
first_nought (a ∷ x) h = ap is_nought h

first_noughts : (N : List Row) → All (λ x. entry x 0 ≡ pos 0) N → list_all first_is_nought (map ratios N) ≡ true
first_noughts [] h = refl
first_noughts (x ∷ N) h = rw (first_nought x (h 0 [] (omega arith)), first_noughts N (λ i d below. h (suc i) d (omega arith))) refl

lineality_rows : (of : ObjectType) (N : List Row) → MayBeLines of N → list_all (is_row of LinealitySpace) (map ratios N) ≡ true
lineality_rows Polytope N h = first_noughts N (h refl)
lineality_rows Cone N h = any_rows (is_row Cone LinealitySpace) (λ r. refl) (map ratios N)
lineality_rows Fan N h = any_rows (is_row Fan LinealitySpace) (λ r. refl) (map ratios N)

pub hull_forms : (of : ObjectType) (n : ℕ) (N : List Row) → IsColumned n (cols_over n (map ratios N)) (map ratios N) → All (All InRange) N → FormsIn of n AffineHull (matrix (cols_over n (map ratios N)) (map ratios N))
hull_forms of n N c range = record { formed = c.0; columns = c.1; rows = any_rows (is_row of AffineHull) (hull_row of) (map ratios N); entries = ratios_rows_fractions N range; primitive = ratios_rows_primitive N range }

pub lineality_forms : (of : ObjectType) (n : ℕ) (N : List Row) → IsColumned n (cols_over n (map ratios N)) (map ratios N) → All (All InRange) N → MayBeLines of N → FormsIn of n LinealitySpace (matrix (cols_over n (map ratios N)) (map ratios N))
lineality_forms of n N c range lines = record { formed = c.0; columns = c.1; rows = lineality_rows of N lines; entries = ratios_rows_fractions N range; primitive = ratios_rows_primitive N range }
