-- The values of a new fan have the forms of values that an object may hold, where its rows are formed and pass their tests.
use Rattle.pm_fraction.specs.Matrices.{IsFraction}
use Rattle.pm_object_type.specs.declared.object_type.ObjectType.TheVariants.{Fan}
use Rattle.pm_props.specs.declared.property.PropId.TheVariants.{ConeAmbientDim, LinealitySpace, Vertices}
use Rattle.pm_props.specs.declared.property.PropId.{PropId}
use Rattle.pm_types.specs.Forms.{FormsIn, HasPrimitiveRow, HavePrimitiveRows, agrees_with, is_column_count, is_formed, is_matrix_form, is_row, is_row_of_entries}
use Rattle.pm_types.specs.Parts.{value_over}
use Rattle.pm_types.specs.Values.{matrix, whole}
use Rattle.pm_vector.specs.Numbers.{Ratio}
use Rattle.std.proofs.Common.{refl, true, ◌∙◌}
use Rattle.std.proofs.lemmas.Bool.{and_from, eq-eqb, le-leb, or_right}
use Rattle.std.proofs.lemmas.List.Elements.{All-nil}
use Rattle.std.specs.List.{All, list_all}
use Rattle.std.specs.Prelude.{Bool, List, [], length, nat_eq, nat_le, ℕ, ◌&&◌, ◌||◌, ◌∷◌, ◌≡◌, ◌≤◌}
use lib.IntN.{pos}
use Rattle.pm_limits.specs.Limits.{most_columns, most_rows}

-- the properties of rows that a new fan has
abbrev pub IsOfFan : PropId → Type 0
IsOfFan Vertices = Unit {0}
IsOfFan LinealitySpace = Unit {0}
IsOfFan p = ⊥

formed_of : (p : PropId) → IsOfFan p → (m : ℕ) (rows : List (List Ratio)) → is_formed p (matrix m rows) ≡ is_matrix_form m rows
formed_of Vertices h m rows = refl
formed_of LinealitySpace h m rows = refl
formed_of p h m rows = absurd h

agrees_of : (p : PropId) → IsOfFan p → (n m : ℕ) (rows : List (List Ratio)) → agrees_with n p (matrix m rows) ≡ (nat_eq m 0 || nat_eq m n)
agrees_of Vertices h n m rows = refl
agrees_of LinealitySpace h n m rows = refl
agrees_of p h n m rows = absurd h

pub three : (a b c : Bool) → a ≡ true → b ≡ true → c ≡ true → (a && b && c) ≡ true
three a b c p q r = rw (p, q, r) refl

primitive_of : (p : PropId) → IsOfFan p → (m : ℕ) (rows : List (List Ratio)) → All HasPrimitiveRow rows → HavePrimitiveRows p (matrix m rows)
primitive_of Vertices h m rows all = all
primitive_of LinealitySpace h m rows all = all
primitive_of p h m rows all = absurd h

pub rows_form : (n : ℕ) (p : PropId) → IsOfFan p → (rows : List (List Ratio)) → 1 ≤ n → n ≤ most_columns → length rows ≤ most_rows
    → list_all (is_row_of_entries n) rows ≡ true → All (All IsFraction) rows → All HasPrimitiveRow rows → list_all (is_row Fan p) rows ≡ true → FormsIn Fan n p (value_over n rows)
rows_form n p h [] some few all cols entries primitive pass = record { formed = formed_of p h 0 []; columns = agrees_of p h n 0 []; rows = refl; entries = All-nil (All IsFraction); primitive = primitive_of p h 0 [] (All-nil HasPrimitiveRow) }
rows_form n p h (r ∷ rows) some few all cols entries primitive pass = record {
  formed = formed_of p h n (r ∷ rows)
      ∙ three (nat_le (length (r ∷ rows)) most_rows) (is_column_count (r ∷ rows) n) (list_all (is_row_of_entries n) (r ∷ rows))
      (le-leb (length (r ∷ rows)) most_rows all) (and_from (nat_le 1 n) (nat_le n most_columns) (le-leb 1 n some) (le-leb n most_columns few)) cols;
  columns = agrees_of p h n n (r ∷ rows) ∙ or_right (nat_eq n 0) (nat_eq n n) (eq-eqb n n refl);
  rows = pass;
  entries = entries;
  primitive = primitive_of p h n (r ∷ rows) primitive;
}

pub dimension_form : (n : ℕ) → 1 ≤ n → n ≤ most_columns → FormsIn Fan n ConeAmbientDim (whole (pos n))
dimension_form n some few = record { formed = and_from (nat_le 1 n) (nat_le n most_columns) (le-leb 1 n some) (le-leb n most_columns few); columns = eq-eqb n n refl; rows = refl; entries = All-nil (All IsFraction); primitive = All-nil HasPrimitiveRow }
