-- A matrix of the rows of a dual has its form.
use Rattle.pm_vector.specs.Numbers.{Ratio}
use Rattle.pm_vector.specs.Rows.{Row}
use Rattle.pm_clients_lp.proofs.WeightedRows.{multiples_length}
use Rattle.pm_clients_lp.specs.Clients.{dual}
use Rattle.pm_clients_lp.specs.Programs.{IsDualMatrixOf, cols_over, weighted}
use Rattle.pm_dual.specs.declared.answer.LpAnswer.TheVariants.{Infeasible, Optimal, Unbounded}
use Rattle.pm_dual.specs.declared.answer.LpAnswer.{LpAnswer}
use Rattle.pm_fraction.specs.Matrices.{FractionMatrix, IsMatrix}
use Rattle.pm_object_type.specs.declared.object_type.ObjectType.TheVariants.{Cone, Fan, Polytope}
use Rattle.pm_object_type.specs.declared.object_type.ObjectType.{ObjectType}
use Rattle.pm_props.specs.declared.property.PropId.TheVariants.{MaximalDual, MinimalDual}
use Rattle.pm_simplex.specs.declared.sense.Sense.TheVariants.{Maximal, Minimal}
use Rattle.pm_simplex.specs.declared.sense.Sense.{Sense}
use Rattle.pm_types.specs.Forms.{FormsIn, HasPrimitiveRow, is_matrix_form, is_row, is_row_of_entries}
use Rattle.pm_types.specs.Runs.{states_rows}
use Rattle.pm_types.specs.Values.{matrix}
use Rattle.std.proofs.Common.{arith, refl, subst, suc, sym, true}
use Rattle.std.proofs.lemmas.Bool.{eq-eqb}
use Rattle.std.proofs.lemmas.List.Elements.{All-nil}
use Rattle.std.proofs.lemmas.List.Sorted.{length_permutation}
use Rattle.std.specs.List.{All, list_all}
use Rattle.std.specs.Prelude.{Bool, IsTrue, List, [], false, if◌then◌else◌, int_lt, length, nat_eq, nat_le, ℕ, ◌∷◌, ◌||◌, ◌≡◌, ◌≤◌}
use lib.IntN.{pos}
use Rattle.pm_limits.specs.Limits.{most_columns, most_rows}

-- no more rows are kept than there are
weighted_length : (A : List Row) (y : List Ratio) → length (weighted A y) ≤ length A
weighted_length [] y = omega arith
weighted_length (a ∷ A) [] = omega arith
weighted_length (a ∷ A) (q ∷ y) = by (weighted_length A y) (int_lt (pos 0) q.num)
  where
    by : length (weighted A y) ≤ length A → (b : Bool) → length (if b then (a, q) ∷ weighted A y else weighted A y) ≤ length (a ∷ A)
    by l true = omega arith
    by l false = omega arith

-- what is so of the rows of each dual
pub record AreOfDual (n : ℕ) (m : FractionMatrix) : Type 0 where
  pub few : length m.rows ≤ most_rows
  pub primitive : All HasPrimitiveRow m.rows
  pub cols : m.cols ≡ cols_over n m.rows

none_of_dual : (n : ℕ) (m : FractionMatrix) → m ≡ record { cols = 0; rows = [] } → AreOfDual n m
none_of_dual n m e = subst (AreOfDual n) (sym e) (record { few = omega arith; primitive = All-nil HasPrimitiveRow; cols = refl })

pub of_dual : (n : ℕ) (A : List Row) (answer : LpAnswer) (m : FractionMatrix) → length A ≤ most_rows → IsDualMatrixOf n A answer m → AreOfDual n m
of_dual n A (Optimal value point dual) m l h = record {
  few =
      let a = multiples_length h.kept m.rows h.multiples in
      let b = length_permutation (weighted A dual.items) h.kept h.weighted.permutation in
      let c = weighted_length A dual.items in
      omega arith;
  primitive = h.primitive;
  cols = h.cols;
}
of_dual n A (Unbounded point direction) m l h = none_of_dual n m h
of_dual n A (Infeasible multipliers) m l h = none_of_dual n m h

-- ---- forms
same_number : (n : ℕ) → (nat_eq n 0 || nat_eq n n) ≡ true
same_number n = grind arith

entries : (k : ℕ) (rows : List (List Ratio)) → All (λ r. length r ≡ k) rows → list_all (is_row_of_entries k) rows ≡ true
entries k [] h = refl
entries k (r ∷ rows) h = let e : nat_eq (length r) k ≡ true = eq-eqb (length r) k (h 0 [] (omega arith)) in rw (e, entries k rows (λ i d l. h (suc i) d (omega arith))) refl

columned : (n k : ℕ) (rows : List (List Ratio)) → nat_le 1 n ≡ true → nat_le n most_columns ≡ true → k ≡ cols_over n rows → length rows ≤ most_rows → list_all (is_row_of_entries k) rows ≡ true → (is_matrix_form k rows ≡ true) × ((nat_eq k 0 || nat_eq k n) ≡ true)
columned n k [] some few e l all = rw e (refl, refl)
columned n k (r ∷ rows) some few e l all = let c : nat_le (length (r ∷ rows)) most_rows ≡ true = grind arith in let a = rw e at all in rw e (rw (c, some, few, a) refl, same_number n)

pub dual_states : (n : ℕ) (m : FractionMatrix) → AreOfDual n m → IsTrue (states_rows (matrix m.cols m.rows))
dual_states n m h = by m.cols m.rows h.cols
  where
    by : (k : ℕ) (rows : List (List Ratio)) → k ≡ cols_over n rows → IsTrue (states_rows (matrix k rows))
    by k [] e = rw e refl
    by k (r ∷ rows) e = refl

any_rows : (test : List Ratio → Bool) → ((r : List Ratio) → test r ≡ true) → (rows : List (List Ratio)) → list_all test rows ≡ true
any_rows test each [] = refl
any_rows test each (r ∷ rows) = rw (each r, any_rows test each rows) refl

greatest_row : (of : ObjectType) (r : List Ratio) → is_row of MaximalDual r ≡ true
greatest_row Polytope r = refl
greatest_row Cone r = refl
greatest_row Fan r = refl

least_row : (of : ObjectType) (r : List Ratio) → is_row of MinimalDual r ≡ true
least_row Polytope r = refl
least_row Cone r = refl
least_row Fan r = refl

pub dual_forms : (of : ObjectType) (n : ℕ) (sense : Sense) (m : FractionMatrix) → nat_le 1 n ≡ true → nat_le n most_columns ≡ true → IsMatrix m → AreOfDual n m → FormsIn of n (dual sense) (matrix m.cols m.rows)
dual_forms of n Maximal m some few is h =
    let c = columned n m.cols m.rows some few h.cols h.few (entries m.cols m.rows is.shape) in
    record { formed = c.0; columns = c.1; rows = any_rows (is_row of MaximalDual) (greatest_row of) m.rows; entries = is.entries; primitive = h.primitive }
dual_forms of n Minimal m some few is h =
    let c = columned n m.cols m.rows some few h.cols h.few (entries m.cols m.rows is.shape) in
    record { formed = c.0; columns = c.1; rows = any_rows (is_row of MinimalDual) (least_row of) m.rows; entries = is.entries; primitive = h.primitive }
