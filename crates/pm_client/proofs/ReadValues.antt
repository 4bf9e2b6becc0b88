-- What a client reads of a view: values of its facts, which are right where the facts are, and rows with the thing's columns.
use Rattle.pm_vector.proofs.Lists.{Among, Contains_among, here, there}
use Rattle.pm_vector.specs.Numbers.{Ratio}
use Rattle.pm_vector.specs.Rows.{Row}
use Rattle.pm_fraction.specs.FractionRows.{ArePrimitiveRowsOf}
use Rattle.pm_geom.specs.Things.{Orders}
use Rattle.pm_types.specs.Things.{Thing}
use Rattle.pm_object.specs.Reading.{fact_of}
use Rattle.pm_props.proofs.Places.{same_property_is}
use Rattle.pm_types.specs.Forms.{is_column_count, is_matrix_form, is_row_of_entries}
use Rattle.pm_types.specs.Right.{Right, RightAll, objective_of}
use Rattle.pm_props.specs.Places.{same_property}
use Rattle.pm_types.specs.Values.{Fact, PropertyValue}
use Rattle.pm_props.specs.declared.property.PropId.{PropId}
use Rattle.std.proofs.Common.{ap, arith, false, get_or, refl, subst, suc, sym, true, true≢false, zero, ◌∙◌}
use Rattle.std.proofs.lemmas.Bool.{and_parts, eqb-true, leb-true}
use Rattle.std.proofs.lemmas.List.{get_or_default}
use Rattle.std.specs.List.{All, list_all}
use Rattle.std.specs.Option.{is_some}
use Rattle.std.specs.Prelude.{Bool, List, Option, Some, [], if◌then◌else◌, length, nat_eq, nat_le, ℕ, ◌∷◌, ◌≡◌, ◌≤◌, ◌<◌, ◌&&◌, ◌||◌}
use Rattle.pm_limits.specs.Limits.{most_columns, most_rows}

-- ---- what was read
some_is : {X : Type 0} {x y : X} → Some x ≡ Some y → x ≡ y
some_is h = cc

pub found : (p : PropId) (facts : List Fact) (x : PropertyValue) → fact_of p facts ≡ Some x → (f : Fact) × Among f facts × (f.property ≡ p) × (f.value ≡ x)
found p [] x h = absurd (true≢false (sym (ap is_some h)))
found p (f ∷ facts) x h = by (same_property p f.property) refl (λ k. found p facts x k) h
  where
    by : (t : Bool) → same_property p f.property ≡ t → (fact_of p facts ≡ Some x → (g : Fact) × Among g facts × (g.property ≡ p) × (g.value ≡ x)) → (if t then Some f.value else fact_of p facts) ≡ Some x → (g : Fact) × Among g (f ∷ facts) × (g.property ≡ p) × (g.value ≡ x)
    by true e more k = (f, here, sym (same_property_is p f.property e), some_is k)
    by false e more k = let (g, i, q, w) = more k in (g, there i, q, w)

-- a fact that was read is right
pub read_right : (p : PropId) (facts : List Fact) (x : PropertyValue) (t : Thing) (o : Orders) → fact_of p facts ≡ Some x → RightAll facts t o → (s : Option ℕ) × Right p x t o (objective_of t s)
read_right p facts x t o h right =
    let (f, i, q, w) = found p facts x h in
    (f.place, subst (λ z. Right p z t o (objective_of t f.place)) w (subst (λ z. Right z f.value t o (objective_of t f.place)) q (right.each f (Contains_among i))))

-- ---- all rows have the thing's columns
stated_is : (m n : ℕ) → 1 ≤ m → (nat_eq m 0 || nat_eq m n) ≡ true → m ≡ n
stated_is m n l h = grind arith

row_length : (n : ℕ) (rows : List (List Ratio)) (i : ℕ) → i < length rows → list_all (is_row_of_entries n) rows ≡ true → length (get_or rows i []) ≡ n
row_length n [] i below h = absurd (omega arith)
row_length n (r ∷ rows) zero below h = eqb-true (length r) n (and_parts (nat_eq (length r) n) (list_all (is_row_of_entries n) rows) h).0
row_length n (r ∷ rows) (suc i) below h = row_length n rows i (omega arith) (and_parts (nat_eq (length r) n) (list_all (is_row_of_entries n) rows) h).1

stated_cols_of : (m n : ℕ) (rows : List (List Ratio)) → 0 < length rows → is_matrix_form m rows ≡ true → (nat_eq m 0 || nat_eq m n) ≡ true → (m ≡ n) × (list_all (is_row_of_entries m) rows ≡ true)
stated_cols_of m n [] some h e = absurd (omega arith)
stated_cols_of m n (r ∷ rows) some h e =
    let p = and_parts (nat_le (length (r ∷ rows)) most_rows && is_column_count (r ∷ rows) m) (list_all (is_row_of_entries m) (r ∷ rows)) h in
    let q = and_parts (nat_le (length (r ∷ rows)) most_rows) (is_column_count (r ∷ rows) m) p.0 in
    let c = and_parts (nat_le 1 m) (nat_le m most_columns) q.1 in
    (stated_is m n (leb-true 1 m c.0) e, p.1)

pub primitive_length : (m n : ℕ) (rows : List (List Ratio)) (xs : List Row) → is_matrix_form m rows ≡ true → (nat_eq m 0 || nat_eq m n) ≡ true → ArePrimitiveRowsOf rows xs
    → (i : ℕ) → i < length xs → length (get_or xs i []) ≡ n
primitive_length m n rows xs h e p i below =
    let count = p.count in
    let w = stated_cols_of m n rows (omega arith) h e in
    (p.multiple i (omega arith)).cols ∙ row_length m rows i (omega arith) w.1 ∙ w.0

pub all_length : (n : ℕ) (xs : List Row) → ((i : ℕ) → i < length xs → length (get_or xs i []) ≡ n) → All (λ x. length x ≡ n) xs
all_length n xs h = λ i d below. rw (get_or_default xs i d [] below) (h i below)
