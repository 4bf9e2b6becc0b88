-- The parts of a row list have the columns of the view, and so has the list.
use Rattle.pm_vector.proofs.Lists.{all_append, all_from, among_All}
use Rattle.pm_vector.specs.Numbers.{Ratio}
use Rattle.pm_vector.specs.Rows.{HasCols, Row}
use Rattle.pm_client.proofs.ReadValues.{all_length, primitive_length}
use Rattle.pm_client.proofs.ViewLaws.{has_listed}
use Rattle.pm_client.specs.Sound.{are_parts}
use Rattle.pm_clients_geom.specs.Hulls.{AreFewRows}
use Rattle.pm_props.specs.Properties.{is_of_matrices, number, value_kind}
use Rattle.pm_props.specs.Sets.{has, set_of}
use Rattle.pm_object_type.specs.declared.object_type.ObjectType.{ObjectType}
use Rattle.pm_fraction.specs.FractionRows.{ArePrimitiveRowsOf}
use Rattle.pm_types.proofs.PrimitiveRows.{few_rows}
use Rattle.pm_types.specs.Forms.{FormsIn, HasPrimitiveRow, HavePrimitiveRows, is_matrix_form, rows_in}
use Rattle.pm_types.specs.Values.{PropertyValue, matrix}
use Rattle.pm_props.specs.declared.property.PropId.TheVariants.{AffineHull, Equations, Facets, Inequalities, InputLineality, LinealitySpace, Points, Vertices}
use Rattle.pm_props.specs.declared.property.PropId.{PropId}
use Rattle.std.proofs.lemmas.Bool.{eq-eqb, or_left, or_right}
use Rattle.std.proofs.Common.{ap, arith, eqb, false, refl, subst, sym, true, true≢false, ◌∙◌}
use Rattle.std.proofs.lemmas.List.{length-append}
use Rattle.std.specs.List.{All}
use Rattle.std.specs.Prelude.{IsTrue, List, [], length, nat_eq, ℕ, ◌++◌, ◌∷◌, ◌||◌, ◌≡◌, ◌≤◌}
use Rattle.pm_limits.specs.Limits.{most_rows}

-- a matrix whose rows, if it has some, have n entries
abbrev pub IsColumned : ℕ → ℕ → List (List Ratio) → Type 0
IsColumned n m rows = (is_matrix_form m rows ≡ true) × ((nat_eq m 0 || nat_eq m n) ≡ true)

module _ (of : ObjectType) (n m : ℕ) (rows : List (List Ratio)) where
  first_columned : (p q : PropId) → IsTrue (are_parts p q) → FormsIn of n p (matrix m rows) → IsColumned n m rows
  first_columned InputLineality q h f = (f.formed, f.columns)
  first_columned LinealitySpace q h f = (f.formed, f.columns)
  first_columned Equations q h f = (f.formed, f.columns)
  first_columned AffineHull q h f = (f.formed, f.columns)
  first_columned p q h f = absurd (true≢false (sym h))

  second_columned : (p q : PropId) → IsTrue (are_parts p q) → FormsIn of n q (matrix m rows) → IsColumned n m rows
  second_columned InputLineality Points h f = (f.formed, f.columns)
  second_columned LinealitySpace Vertices h f = (f.formed, f.columns)
  second_columned Equations Inequalities h f = (f.formed, f.columns)
  second_columned AffineHull Facets h f = (f.formed, f.columns)
  second_columned p q h f = absurd (true≢false (sym h))

  pub primitive_cols : (xs : List Row) → IsColumned n m rows → ArePrimitiveRowsOf rows xs → HasCols n xs
  primitive_cols xs h p = all_from (λ (x : Row). length x ≡ n) xs (λ x i. among_All (λ (y : Row). length y ≡ n) i (all_length n xs (primitive_length m n rows xs h.0 h.1 p)))

-- the primitive rows of each part are made within the range
pub first_primitive : (p q : PropId) (v : PropertyValue) → IsTrue (are_parts p q) → HavePrimitiveRows p v → All HasPrimitiveRow (rows_in v)
first_primitive InputLineality q v h f = f
first_primitive LinealitySpace q v h f = f
first_primitive Equations q v h f = f
first_primitive AffineHull q v h f = f
first_primitive p q v h f = absurd (true≢false (sym h))

pub second_primitive : (p q : PropId) (v : PropertyValue) → IsTrue (are_parts p q) → HavePrimitiveRows q v → All HasPrimitiveRow (rows_in v)
second_primitive InputLineality Points v h f = f
second_primitive LinealitySpace Vertices v h f = f
second_primitive Equations Inequalities v h f = f
second_primitive AffineHull Facets v h f = f
second_primitive p q v h f = absurd (true≢false (sym h))

-- the primitive whole rows of both parts, one after the other
pub list_cols : (of : ObjectType) (n m k : ℕ) (first second : PropId) (lines rows : List (List Ratio)) (ls xs X : List Row) → IsTrue (are_parts first second) → FormsIn of n first (matrix m lines) → FormsIn of n second (matrix k rows)
    → ArePrimitiveRowsOf lines ls → ArePrimitiveRowsOf rows xs → X ≡ ls ++ xs → HasCols n X
list_cols of n m k first second lines rows ls xs X parts f g p q e =
    subst (HasCols n) (sym e) (all_append (λ (x : Row). length x ≡ n) ls xs (primitive_cols of n m lines ls (first_columned of n m lines first second parts f) p) (primitive_cols of n k rows xs (second_columned of n k rows first second parts g) q))

-- both parts have matrices as their values, of few rows
pub first_of_matrices : (p q : PropId) → IsTrue (are_parts p q) → IsTrue (is_of_matrices (value_kind p))
first_of_matrices InputLineality q h = refl
first_of_matrices LinealitySpace q h = refl
first_of_matrices Equations q h = refl
first_of_matrices AffineHull q h = refl
first_of_matrices p q h = absurd (true≢false (sym h))

pub second_of_matrices : (p q : PropId) → IsTrue (are_parts p q) → IsTrue (is_of_matrices (value_kind q))
second_of_matrices InputLineality Points h = refl
second_of_matrices LinealitySpace Vertices h = refl
second_of_matrices Equations Inequalities h = refl
second_of_matrices AffineHull Facets h = refl
second_of_matrices p q h = absurd (true≢false (sym h))

module _ (of : ObjectType) (n m : ℕ) (rows : List (List Ratio)) (first second : PropId) (parts : IsTrue (are_parts first second)) where
  pub few_first : FormsIn of n first (matrix m rows) → length rows ≤ most_rows
  few_first f = few_rows m rows (first_columned of n m rows first second parts f).0

  pub few_second : FormsIn of n second (matrix m rows) → length rows ≤ most_rows
  few_second f = few_rows m rows (second_columned of n m rows first second parts f).0

pub few_listed : (lines rows : List (List Ratio)) (ls xs X : List Row) → length lines ≤ most_rows → length rows ≤ most_rows
    → ArePrimitiveRowsOf lines ls → ArePrimitiveRowsOf rows xs → X ≡ ls ++ xs → length X ≤ 4096
few_listed lines rows ls xs X few more p q e =
    let all = ap length e ∙ length-append ls xs in let a = p.count in let b = q.count in omega arith

-- each part has few rows of the view's columns
module _ (of : ObjectType) (n m : ℕ) (rows : List (List Ratio)) (first second : PropId) (parts : IsTrue (are_parts first second)) (xs : List Row) (primitive : ArePrimitiveRowsOf rows xs) where
  pub first_rows_few : FormsIn of n first (matrix m rows) → AreFewRows n xs
  first_rows_few f = record { cols = primitive_cols of n m rows xs (first_columned of n m rows first second parts f) primitive; few = let l = few_first of n m rows first second parts f in let c = primitive.count in omega arith }

  pub second_rows_few : FormsIn of n second (matrix m rows) → AreFewRows n xs
  second_rows_few f = record { cols = primitive_cols of n m rows xs (second_columned of n m rows first second parts f) primitive; few = let l = few_second of n m rows first second parts f in let c = primitive.count in omega arith }

-- both are sources of a kind that reads these two
pub first_source : (s : ℕ) (first second : PropId) → s ≡ set_of (second ∷ first ∷ []) → has s first ≡ true
first_source s first second e =
    has_listed s (second ∷ first ∷ []) first e
    ∙ or_right (eqb (number second) (number first)) (eqb (number first) (number first) || false) (or_left (eqb (number first) (number first)) false (eq-eqb (number first) (number first) refl))

pub second_source : (s : ℕ) (first second : PropId) → s ≡ set_of (second ∷ first ∷ []) → has s second ≡ true
second_source s first second e =
    has_listed s (second ∷ first ∷ []) second e
    ∙ or_left (eqb (number second) (number second)) (eqb (number first) (number second) || false) (eq-eqb (number second) (number second) refl)
