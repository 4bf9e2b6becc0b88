-- What is read of objects that hold it: rows of n columns, not too many, and sets.
use Rattle.pm_object_type.specs.declared.object_type.ObjectType.TheVariants.{Cone, Fan, Polytope}
use Rattle.std.proofs.lemmas.List.Sums.{AllPass-from_list_all}
use Rattle.pm_fraction.specs.Matrices.{IsFraction}
use Rattle.pm_object.specs.Known.{IsKnown, IsOfRows, IsOfSets, cols_at, held_rows, held_sets, rows_at, sets_at}
use Rattle.pm_types.specs.Parts.{matrix_in, sets_in, value_of_sets}
use Rattle.pm_vector.proofs.Lists.{Contains_among, Among, among_All}
use Rattle.pm_object.proofs.Settling.{cols_range}
use Rattle.pm_object.proofs.Viewing.{value_forms}
use Rattle.pm_object.specs.Formed.{IsFormed}
use Rattle.pm_object.specs.State.{State, cols_of, read_at, value_of, is_polytope, is_held}
use Rattle.pm_vector.specs.Numbers.{Ratio}
use Rattle.pm_object_type.specs.declared.object_type.ObjectType.{ObjectType}
use Rattle.pm_props.specs.declared.property.PropId.TheVariants.{AffineHull, Facets, LinealitySpace, MaximalCones, Vertices, VerticesInFacets}
use Rattle.pm_props.specs.declared.property.PropId.{PropId}
use Rattle.pm_types.specs.Forms.{FormsIn, HavePrimitiveRows, agrees_with, is_column_count, is_dimension, is_formed, is_matrix_form, is_row_of_entries, is_sets_form, is_row, HasPrimitiveRow, rows_in}
use Rattle.pm_types.specs.Values.{IndexSets, PropertyValue, matrix, sets}
use Rattle.std.proofs.Common.{arith, ap, false, refl, sym, true, true≢false, ◌∙◌, subst}
use Rattle.std.proofs.lemmas.Bool.{and_parts, leb-true, eqb-true}
use Rattle.std.specs.List.{list_all, All}
use Rattle.std.specs.Option.{is_some, unwrap_or}
use Rattle.std.specs.Prelude.{Bool, List, None, Option, Some, [], length, nat_eq, nat_le, ℕ, ◌&&◌, ◌||◌, ◌<◌, ◌≤◌, ◌∷◌, ◌≡◌, IsTrue}
use lib.IntN.{pos}
use Rattle.pm_limits.specs.Limits.{most_columns, most_rows}

pub known_cols : (c : Option ℕ) → is_some c ≡ true → c ≡ Some (unwrap_or c 1)
known_cols None h = absurd (true≢false (sym h))
known_cols (Some n) h = refl

pub some_is : {X : Type 0} {x y : X} → Some x ≡ Some y → x ≡ y
some_is h = cc

-- the form of rows
abbrev pub formed_rows : PropertyValue → Bool
formed_rows (matrix n rows) = is_matrix_form n rows
formed_rows v = false

formed_vertices : (v : PropertyValue) → is_formed Vertices v ≡ formed_rows v
formed_vertices (matrix n rows) = refl
formed_vertices v = refl

formed_lines : (v : PropertyValue) → is_formed LinealitySpace v ≡ formed_rows v
formed_lines (matrix n rows) = refl
formed_lines v = refl

formed_facets : (v : PropertyValue) → is_formed Facets v ≡ formed_rows v
formed_facets (matrix n rows) = refl
formed_facets v = refl

formed_hull : (v : PropertyValue) → is_formed AffineHull v ≡ formed_rows v
formed_hull (matrix n rows) = refl
formed_hull v = refl

pub formed_is : (p : PropId) → IsOfRows p → (v : PropertyValue) → is_formed p v ≡ formed_rows v
formed_is Vertices h v = formed_vertices v
formed_is LinealitySpace h v = formed_lines v
formed_is Facets h v = formed_facets v
formed_is AffineHull h v = formed_hull v
formed_is p h v = absurd h

agrees_is : (p : PropId) → IsOfRows p → (n m : ℕ) (rows : List (List Ratio)) → agrees_with n p (matrix m rows) ≡ (nat_eq m 0 || nat_eq m n)
agrees_is Vertices h n m rows = refl
agrees_is LinealitySpace h n m rows = refl
agrees_is Facets h n m rows = refl
agrees_is AffineHull h n m rows = refl
agrees_is p h n m rows = absurd h

matrix_formed : (v : PropertyValue) → formed_rows v ≡ true → matrix_in v ≡ Some v
matrix_formed (matrix n rows) h = refl
matrix_formed v h = absurd (true≢false (sym h))

pub matrix_is : (v w : PropertyValue) → Some w ≡ matrix_in v → v ≡ w
matrix_is (matrix n rows) w h = sym (some_is h)
matrix_is v w h = absurd (true≢false (ap is_some h))

pub held_forms : (o : State) (p : PropId) (v : PropertyValue) → IsFormed o → is_some (cols_of o.held) ≡ true → value_of p (read_at None o.held) ≡ Some v → FormsIn o.of (cols_at o) p v
held_forms o p v f k e = value_forms o (cols_at o) None p v f (known_cols (cols_of o.held) k) e

pub no_matrix : (o : State) (p : PropId) (v : PropertyValue) → IsOfRows p → IsFormed o → is_some (cols_of o.held) ≡ true → Some v ≡ value_of p (read_at None o.held) → None ≡ matrix_in v → ⊥
no_matrix o p v r f k e none =
    let forms = held_forms o p v f k (sym e) in
    true≢false (ap is_some (sym (matrix_formed v (sym (formed_is p r v) ∙ forms.formed)) ∙ sym none))

pub cols_between : (o : State) (n : ℕ) → IsFormed o → Some n ≡ cols_of o.held → (1 ≤ n) × (n ≤ most_columns)
cols_between o n f e =
    let range : is_dimension (pos n) ≡ true = cols_range o.of (length o.programs) o.held n (λ g i. f.each g (Contains_among i)) (sym e) in
    let p = and_parts (nat_le 1 n) (nat_le n most_columns) range in (leb-true 1 n p.0, leb-true n most_columns p.1)

stated_is : (m n : ℕ) → 1 ≤ m → (nat_eq m 0 || nat_eq m n) ≡ true → m ≡ n
stated_is m n l h = grind arith

columns_some : (m : ℕ) (rows : List (List Ratio)) → 0 < length rows → is_column_count rows m ≡ true → 1 ≤ m
columns_some m [] some h = absurd (omega arith)
columns_some m (r ∷ rows) some h = leb-true 1 m (and_parts (nat_le 1 m) (nat_le m most_columns) h).0

module _ (of : ObjectType) (n : ℕ) (p : PropId) (m : ℕ) (rows : List (List Ratio)) (r : IsOfRows p) (f : FormsIn of n p (matrix m rows)) where
  form_parts : (nat_le (length rows) most_rows ≡ true) × (is_column_count rows m ≡ true)
  form_parts =
      let form : is_matrix_form m rows ≡ true = sym (formed_is p r (matrix m rows)) ∙ f.formed in
      and_parts (nat_le (length rows) most_rows) (is_column_count rows m) (and_parts (nat_le (length rows) most_rows && is_column_count rows m) (list_all (is_row_of_entries m) rows) form).0

  pub rows_few : length rows ≤ most_rows
  rows_few = leb-true (length rows) most_rows form_parts.0

  pub rows_cols : 0 < length rows → m ≡ n
  rows_cols some = stated_is m n (columns_some m rows some form_parts.1) (sym (agrees_is p r n m rows) ∙ f.columns)

-- ---- sets
-- the form of sets
abbrev pub formed_sets : PropertyValue → Bool
formed_sets (sets rows n) = is_sets_form rows n
formed_sets v = false

formed_incidence : (v : PropertyValue) → is_formed VerticesInFacets v ≡ formed_sets v
formed_incidence (sets rows n) = refl
formed_incidence v = refl

formed_cones : (v : PropertyValue) → is_formed MaximalCones v ≡ formed_sets v
formed_cones (sets rows n) = refl
formed_cones v = refl

pub sets_formed_is : (p : PropId) → IsOfSets p → (v : PropertyValue) → is_formed p v ≡ formed_sets v
sets_formed_is VerticesInFacets h v = formed_incidence v
sets_formed_is MaximalCones h v = formed_cones v
sets_formed_is p h v = absurd h

some_sets : (v : PropertyValue) → formed_sets v ≡ true → is_some (sets_in v) ≡ true
some_sets (sets rows n) h = refl
some_sets v h = absurd (true≢false (sym h))

pub sets_is : (v : PropertyValue) (s : IndexSets) → Some s ≡ sets_in v → v ≡ value_of_sets s
sets_is (sets rows n) s h = sym (ap value_of_sets (some_is h))
sets_is v s h = absurd (true≢false (ap is_some h))

pub no_sets_read : (o : State) (p : PropId) (v : PropertyValue) → IsOfSets p → IsFormed o → is_some (cols_of o.held) ≡ true → Some v ≡ value_of p (read_at None o.held) → None ≡ sets_in v → ⊥
no_sets_read o p v r f k e none =
    let forms = held_forms o p v f k (sym e) in
    true≢false (sym (some_sets v (sym (sets_formed_is p r v) ∙ forms.formed)) ∙ sym (ap is_some none))

-- ---- what an object holds that is known to hold it
-- the rows that it holds, in their form
pub record HasRows (p : PropId) (o : State) : Type 0 where
  pub m : ℕ
  pub forms : FormsIn o.of (cols_at o) p (matrix m (rows_at p o))

pub has_rows : (p : PropId) (o : State) → IsOfRows p → IsFormed o → is_some (cols_of o.held) ≡ true → is_some (value_of p (read_at None o.held)) ≡ true → HasRows p o
has_rows p o r f k h = by (value_of p (read_at None o.held)) refl h
  where
    by_value : (v : PropertyValue) → value_of p (read_at None o.held) ≡ Some v → FormsIn o.of (cols_at o) p v → formed_rows v ≡ true → HasRows p o
    by_value (matrix m rows) e g t = record { m = m; forms = subst (λ z. FormsIn o.of (cols_at o) p (matrix m z)) (sym (ap held_rows e)) g }
    by_value v e g t = absurd (true≢false (sym t))

    by : (x : Option PropertyValue) → value_of p (read_at None o.held) ≡ x → is_some x ≡ true → HasRows p o
    by None e t = absurd (true≢false (sym t))
    by (Some v) e t = let g = held_forms o p v f k e in by_value v e g (sym (formed_is p r v) ∙ g.formed)

-- a row of n entries of a value of the property
pub record IsHeldRow (of : ObjectType) (p : PropId) (n : ℕ) (r : List Ratio) : Type 0 where
  pub cols : length r ≡ n
  pub passes : is_row of p r ≡ true
  pub entries : All IsFraction r
  pub primitive : HasPrimitiveRow r

-- its rows, not too many
pub record AreHeldRows (p : PropId) (o : State) : Type 0 where
  pub few : length (rows_at p o) ≤ most_rows
  pub each : All (IsHeldRow o.of p (cols_at o)) (rows_at p o)

-- the primitive rows of its rows are made within the range
primitive_is : (p : PropId) → IsOfRows p → (v : PropertyValue) → HavePrimitiveRows p v → All HasPrimitiveRow (rows_in v)
primitive_is Vertices r v h = h
primitive_is LinealitySpace r v h = h
primitive_is Facets r v h = h
primitive_is AffineHull r v h = h
primitive_is p r v h = absurd r

rows_of_form : (p : PropId) (o : State) → IsOfRows p → HasRows p o → AreHeldRows p o
rows_of_form p o r w = record { few = rows_few o.of (cols_at o) p w.m (rows_at p o) r w.forms; each = each }
  where
    form : is_matrix_form w.m (rows_at p o) ≡ true
    form = sym (formed_is p r (matrix w.m (rows_at p o))) ∙ w.forms.formed

    lengths : All (λ x. is_row_of_entries w.m x ≡ true) (rows_at p o)
    lengths = AllPass-from_list_all (is_row_of_entries w.m) (rows_at p o) (and_parts (nat_le (length (rows_at p o)) most_rows && is_column_count (rows_at p o) w.m) (list_all (is_row_of_entries w.m) (rows_at p o)) form).1

    tests : All (λ x. is_row o.of p x ≡ true) (rows_at p o)
    tests = AllPass-from_list_all (is_row o.of p) (rows_at p o) w.forms.rows

    each : All (IsHeldRow o.of p (cols_at o)) (rows_at p o)
    each i d l = record { cols = eqb-true _ w.m (lengths i d l) ∙ rows_cols o.of (cols_at o) p w.m (rows_at p o) r w.forms (omega arith); passes = tests i d l; entries = w.forms.entries i d l; primitive = primitive_is p r (matrix w.m (rows_at p o)) w.forms.primitive i d l }

pub known_rows : (ps : List PropId) (p : PropId) (o : State) → IsOfRows p → IsFormed o → IsKnown ps o → Among p ps → AreHeldRows p o
known_rows ps p o r f k i = rows_of_form p o r (has_rows p o r f k.cols (among_All (λ q. IsTrue (is_held q (read_at None o.held))) i k.held))

-- the sets that it holds, in their form
pub has_sets : (p : PropId) (o : State) → IsOfSets p → IsFormed o → is_some (cols_of o.held) ≡ true → is_some (value_of p (read_at None o.held)) ≡ true → FormsIn o.of (cols_at o) p (value_of_sets (sets_at p o))
has_sets p o r f k h = by (value_of p (read_at None o.held)) refl h
  where
    by_value : (v : PropertyValue) → value_of p (read_at None o.held) ≡ Some v → FormsIn o.of (cols_at o) p v → formed_sets v ≡ true → FormsIn o.of (cols_at o) p (value_of_sets (sets_at p o))
    by_value (sets rows n) e g t = subst (λ z. FormsIn o.of (cols_at o) p (value_of_sets z)) (sym (ap held_sets e)) g
    by_value v e g t = absurd (true≢false (sym t))

    by : (x : Option PropertyValue) → value_of p (read_at None o.held) ≡ x → is_some x ≡ true → FormsIn o.of (cols_at o) p (value_of_sets (sets_at p o))
    by None e t = absurd (true≢false (sym t))
    by (Some v) e t = let g = held_forms o p v f k e in by_value v e g (sym (sets_formed_is p r v) ∙ g.formed)

pub known_sets : (ps : List PropId) (p : PropId) (o : State) → IsOfSets p → IsFormed o → IsKnown ps o → Among p ps → is_sets_form (sets_at p o).rows (sets_at p o).cols ≡ true
known_sets ps p o r f k i =
    let g = has_sets p o r f k.cols (among_All (λ q. IsTrue (is_held q (read_at None o.held))) i k.held) in
    sym (sets_formed_is p r (value_of_sets (sets_at p o))) ∙ g.formed

pub known_columns : (ps : List PropId) (o : State) → IsFormed o → IsKnown ps o → (1 ≤ cols_at o) × (cols_at o ≤ most_columns)
known_columns ps o f k = cols_between o (cols_at o) f (sym (known_cols (cols_of o.held) k.cols))

pub polytope_is : (t : ObjectType) → is_polytope t ≡ true → t ≡ Polytope
polytope_is Polytope h = refl
polytope_is Cone h = absurd (true≢false (sym h))
polytope_is Fan h = absurd (true≢false (sym h))
