-- The values of new objects have the forms of values that an object may hold.
use Rattle.pm_vector.proofs.Lists.{All_among, Among, among_append, here, there}
use Rattle.pm_vector.specs.Numbers.{InRange, Ratio}
use Rattle.pm_vector.specs.Rows.{Row}
use Rattle.pm_build.proofs.RowLaws.{length_headed, length_headed_rows, power_below, power_up}
use Rattle.pm_build.proofs.Vectors.{corners_cols, curve_cols, is_unit, opposite_cols}
use Rattle.pm_build.specs.Conditions.{cyclic_refusal, is_cyclic_size, shape_refusal}
use Rattle.pm_build.specs.Laws.{HaveForms, ShapesHaveForms}
use Rattle.pm_build.specs.Objects.{polytope_with}
use Rattle.pm_types.specs.Parts.{value_over}
use Rattle.pm_build.specs.Rows.{curve, curve_points, headed, headed_rows, opposite_units, simplex_corners, unit, units}
use Rattle.pm_object.specs.declared.held.Condition.TheVariants as condition
use Rattle.pm_fraction.specs.Matrices.{IsFraction}
use Rattle.pm_object_type.specs.declared.object_type.ObjectType.TheVariants.{Polytope}
use Rattle.pm_props.specs.declared.property.PropId.TheVariants.{Equations, Inequalities, InputLineality, Points}
use Rattle.pm_props.specs.declared.property.PropId.{PropId}
use Rattle.pm_types.proofs.WholeRows.{ratios_fractions, ratios_primitive}
use Rattle.pm_types.specs.Forms.{FormsIn, HasPrimitiveRow, HavePrimitiveRows, agrees_with, is_column_count, is_formed, is_matrix_form, is_row, is_row_of_entries}
use Rattle.pm_types.specs.Values.{PropertyValue, matrix}
use Rattle.pm_types.specs.Views.{ratios}
use Rattle.std.proofs.Common.{ap, arith, false, inl, inr, refl, subst, sym, true, true≢false, ◌∙◌}
use Rattle.std.proofs.lemmas.Bool.{and_from, and_parts, eq-eqb, le-leb, leb-true, ltb-true, or_right}
use Rattle.std.proofs.lemmas.List.{length-append}
use Rattle.std.proofs.lemmas.List.Elements.{All-cons, All-map, All-nil, All-push, All-replicate, All-weaker}
use Rattle.std.proofs.lemmas.List.Sums.{list_all-from_AllPass}
use Rattle.std.specs.List.{All, list_all}
use Rattle.std.specs.Option.{is_some}
use Rattle.std.specs.Prelude.{Bool, List, None, Some, [], if◌then◌else◌, length, nat_eq, nat_le, nat_lt, replicate, suc, zero, ℕ, ◌&&◌, ◌+◌, ◌<◌, ◌^◌, ◌||◌, ◌∷◌, ◌≡◌, ◌≤◌, ◌⊎◌}
use lib.IntN.{negsuc, pos, ℤ}
use Rattle.pm_limits.specs.Limits.{most_columns, most_dimensions, most_rows}

-- ---- rows of a value
-- a row of n fractions that passes the test, and whose primitive row is made within the range
pub record IsGood (n : ℕ) (test : List Ratio → Bool) (r : List Ratio) : Type 0 where
  pub cols : length r ≡ n
  pub passes : test r ≡ true
  pub entries : All IsFraction r
  pub primitive : HasPrimitiveRow r

-- the properties whose values are given
abbrev pub IsHalf : PropId → Type 0
IsHalf Points = Unit {0}
IsHalf InputLineality = Unit {0}
IsHalf Inequalities = Unit {0}
IsHalf Equations = Unit {0}
IsHalf p = ⊥

formed_half : (p : PropId) → IsHalf p → (m : ℕ) (rows : List (List Ratio)) → is_formed p (matrix m rows) ≡ is_matrix_form m rows
formed_half Points h m rows = refl
formed_half InputLineality h m rows = refl
formed_half Inequalities h m rows = refl
formed_half Equations h m rows = refl
formed_half p h m rows = absurd h

agrees_half : (p : PropId) → IsHalf p → (n m : ℕ) (rows : List (List Ratio)) → agrees_with n p (matrix m rows) ≡ (nat_eq m 0 || nat_eq m n)
agrees_half Points h n m rows = refl
agrees_half InputLineality h n m rows = refl
agrees_half Inequalities h n m rows = refl
agrees_half Equations h n m rows = refl
agrees_half p h n m rows = absurd h

primitive_half : (p : PropId) → IsHalf p → (m : ℕ) (rows : List (List Ratio)) → All HasPrimitiveRow rows → HavePrimitiveRows p (matrix m rows)
primitive_half Points h m rows all = all
primitive_half InputLineality h m rows all = all
primitive_half Inequalities h m rows all = all
primitive_half Equations h m rows all = all
primitive_half p h m rows all = absurd h

all_three : (a b c : Bool) → a ≡ true → b ≡ true → c ≡ true → (a && b && c) ≡ true
all_three a b c p q r = rw (p, q, r) refl

good_lengths : (n : ℕ) (test : List Ratio → Bool) (rows : List (List Ratio)) → All (IsGood n test) rows → list_all (is_row_of_entries n) rows ≡ true
good_lengths n test rows h = list_all-from_AllPass (is_row_of_entries n) rows (All-weaker (IsGood n test) (λ r. is_row_of_entries n r ≡ true) (λ r g. eq-eqb (length r) n g.cols) rows h)

good_passes : (n : ℕ) (test : List Ratio → Bool) (rows : List (List Ratio)) → All (IsGood n test) rows → list_all test rows ≡ true
good_passes n test rows h = list_all-from_AllPass test rows (All-weaker (IsGood n test) (λ r. test r ≡ true) (λ r g. g.passes) rows h)

pub good_forms : (n : ℕ) (p : PropId) → IsHalf p → (rows : List (List Ratio)) → 1 ≤ n → n ≤ most_columns → length rows ≤ most_rows → All (IsGood n (is_row Polytope p)) rows → FormsIn Polytope n p (value_over n rows)
good_forms n p h [] some few all good = record { formed = formed_half p h 0 []; columns = agrees_half p h n 0 []; rows = refl; entries = All-nil (All IsFraction); primitive = primitive_half p h 0 [] (All-nil HasPrimitiveRow) }
good_forms n p h (r ∷ rows) some few all good = record {
  formed = formed_half p h n (r ∷ rows)
      ∙ all_three (nat_le (length (r ∷ rows)) most_rows) (is_column_count (r ∷ rows) n) (list_all (is_row_of_entries n) (r ∷ rows)) (le-leb (length (r ∷ rows)) most_rows all) (and_from (nat_le 1 n) (nat_le n most_columns) (le-leb 1 n some) (le-leb n most_columns few)) (good_lengths n (is_row Polytope p) (r ∷ rows) good);
  columns = agrees_half p h n n (r ∷ rows) ∙ or_right (nat_eq n 0) (nat_eq n n) (eq-eqb n n refl);
  rows = good_passes n (is_row Polytope p) (r ∷ rows) good;
  entries = All-weaker (IsGood n (is_row Polytope p)) (λ x. All IsFraction x) (λ x g. g.entries) (r ∷ rows) good;
  primitive = primitive_half p h n (r ∷ rows) (All-weaker (IsGood n (is_row Polytope p)) (λ x. HasPrimitiveRow x) (λ x g. g.primitive) (r ∷ rows) good);
}

pub one_value : (n : ℕ) (p : PropId) (v : PropertyValue) → FormsIn Polytope n p v → HaveForms n (polytope_with ((p, v) ∷ []))
one_value n p v h = All-cons (λ (w : PropId × PropertyValue). FormsIn Polytope n w.0 w.1) (p, v) [] h (All-nil (λ (w : PropId × PropertyValue). FormsIn Polytope n w.0 w.1))

pub two_values : (n : ℕ) (p q : PropId) (v w : PropertyValue) → FormsIn Polytope n p v → FormsIn Polytope n q w → HaveForms n (polytope_with ((p, v) ∷ (q, w) ∷ []))
two_values n p q v w h g = All-cons (λ (w : PropId × PropertyValue). FormsIn Polytope n w.0 w.1) (p, v) ((q, w) ∷ []) h (one_value n q w g)

-- ---- rows (1, v)
pub record IsWithin (d : ℕ) (v : Row) : Type 0 where
  pub cols : length v ≡ d
  pub range : All InRange v

whole_good : (d : ℕ) (test : List Ratio → Bool) (v : Row) → test (ratios (headed v)) ≡ true → IsWithin d v → IsGood (suc d) test (ratios (headed v))
whole_good d test v t w =
    let range = All-cons InRange (pos 1) v (omega arith) w.range in
    record { cols = length_headed v d w.cols; passes = t; entries = ratios_fractions (headed v) range; primitive = ratios_primitive (headed v) range }

headed_good : (d : ℕ) (test : List Ratio → Bool) (V : List Row) → ((v : Row) → test (ratios (headed v)) ≡ true) → ((v : Row) → Among v V → IsWithin d v) → All (IsGood (suc d) test) (headed_rows V)
headed_good d test V t f = All-map (IsGood (suc d) test) (λ (v : Row). ratios (headed v)) V (All_among (λ (v : Row). IsGood (suc d) test (ratios (headed v))) V (λ v i. whole_good d test v (t v) (f v i)))

headed_forms : (d : ℕ) (p : PropId) → IsHalf p → (V : List Row) → ((v : Row) → is_row Polytope p (ratios (headed v)) ≡ true) → d ≤ most_dimensions → length V ≤ most_rows → ((v : Row) → Among v V → IsWithin d v) → HaveForms (suc d) (polytope_with ((p, value_over (suc d) (headed_rows V)) ∷ []))
headed_forms d p h V t few all f = one_value (suc d) p (value_over (suc d) (headed_rows V)) (good_forms (suc d) p h (headed_rows V) (omega arith) (omega arith) (let e = length_headed_rows V in omega arith) (headed_good d (is_row Polytope p) V t f))

-- ---- vectors of standard polytopes
pub nought : InRange (pos 0)
nought = omega arith

unit_range : (s : ℤ) (i d : ℕ) → InRange s → All InRange (unit s i d)
unit_range s i zero h = All-nil InRange
unit_range s zero (suc d) h = All-cons InRange s (replicate d (pos 0)) h (All-replicate InRange d (pos 0) nought)
unit_range s (suc i) (suc d) h = All-cons InRange (pos 0) (unit s i d) nought (unit_range s i d h)

sign_range : (s : ℤ) → (s ≡ pos 1) ⊎ (s ≡ negsuc 0) → InRange s
sign_range s (inl e) = subst (λ z. InRange z) (sym e) (omega arith)
sign_range s (inr e) = subst (λ z. InRange z) (sym e) (omega arith)

opposite_within : (d : ℕ) (v : Row) → Among v (opposite_units d d) → IsWithin d v
opposite_within d v i = let w = is_unit d d v i in record { cols = opposite_cols d v i; range = subst (λ x. All InRange x) (sym w.is) (unit_range w.s w.i d (sign_range w.s w.sign)) }

only_range : (d : ℕ) (w v : Row) → All InRange w → Among v (w ∷ []) → All InRange v
only_range d w v h here = h
only_range d w v h (there i) = elim i [ ]

units_range : (d k : ℕ) (v : Row) → Among v (units d k) → All InRange v
units_range d zero v i = elim i [ ]
units_range d (suc k) v i = elim (among_append (units d k) (unit (pos 1) k d ∷ []) i) [
  | inl j ↦ units_range d k v j
  | inr j ↦ only_range d (unit (pos 1) k d) v (unit_range (pos 1) k d (omega arith)) j
]

corners_range : (d : ℕ) (v : Row) → Among v (simplex_corners d) → All InRange v
corners_range d v here = All-replicate InRange d (pos 0) nought
corners_range d v (there i) = units_range d d v i

curve_range : (t d : ℕ) → 0 < t → t ^ d < 2 ^ 127 → All InRange (curve t d)
curve_range t zero h l = All-nil InRange
curve_range t (suc d) h l = All-push InRange (curve t d) (pos (t ^ suc d)) (curve_range t d h (let up = power_up t (suc d) d h (omega arith) in omega arith)) l

curve_points_range : (d n : ℕ) → n ^ d < 2 ^ 127 → (v : Row) → Among v (curve_points d n) → All InRange v
curve_points_range d zero l v i = elim i [ ]
curve_points_range d (suc n) l v i = elim (among_append (curve_points d n) (curve (suc n) d ∷ []) i) [
  | inl j ↦ curve_points_range d n (power_below n (suc n) d (2 ^ 127) (omega arith) l) v j
  | inr j ↦ only_range d (curve (suc n) d) v (curve_range (suc n) d (omega arith) l) j
]

-- ---- how many there are
count_opposite : (d k : ℕ) → length (opposite_units d k) ≡ k + k
count_opposite d zero = refl
count_opposite d (suc k) = length-append (opposite_units d k) (unit (pos 1) k d ∷ unit (negsuc 0) k d ∷ []) ∙ (let e = count_opposite d k in omega arith)

count_units : (d k : ℕ) → length (units d k) ≡ k
count_units d zero = refl
count_units d (suc k) = length-append (units d k) (unit (pos 1) k d ∷ []) ∙ (let e = count_units d k in omega arith)

count_curve : (d n : ℕ) → length (curve_points d n) ≡ n
count_curve d zero = refl
count_curve d (suc n) = length-append (curve_points d n) (curve (suc n) d ∷ []) ∙ (let e = count_curve d n in omega arith)

-- ---- sizes
shape_size : (d : ℕ) → shape_refusal d ≡ None → d ≤ most_dimensions
shape_size d h = by (nat_le d most_dimensions) refl h
  where
    by : (t : Bool) → nat_le d most_dimensions ≡ t → (if t then None else Some condition.Size) ≡ None → d ≤ most_dimensions
    by true e k = leb-true d most_dimensions e
    by false e k = absurd (true≢false (ap is_some k))

cyclic_sizes : (d n : ℕ) → cyclic_refusal d n ≡ None → (n ≤ most_rows) × (d ≤ most_dimensions) × (n ^ d < 2 ^ 127)
cyclic_sizes d n h = by (is_cyclic_size d n) refl h
  where
    by : (t : Bool) → is_cyclic_size d n ≡ t → (if t then None else Some condition.Size) ≡ None → (n ≤ most_rows) × (d ≤ most_dimensions) × (n ^ d < 2 ^ 127)
    by true e k =
        let p = and_parts (nat_le d most_dimensions && nat_le (suc d) n && nat_le n most_rows) (nat_lt (n ^ d) (2 ^ 127)) e in
        let q = and_parts (nat_le d most_dimensions && nat_le (suc d) n) (nat_le n most_rows) p.0 in
        let r = and_parts (nat_le d most_dimensions) (nat_le (suc d) n) q.0 in
        (leb-true n most_rows q.1, leb-true d most_dimensions r.0, ltb-true (n ^ d) (2 ^ 127) p.1)
    by false e k = absurd (true≢false (ap is_some k))

pub shapes_forms : ShapesHaveForms
shapes_forms = record {
  cube = λ d h. let l = shape_size d h in headed_forms d Inequalities tt (opposite_units d d) (λ v. refl) l (let e = count_opposite d d in omega arith) (opposite_within d);
  simplex = λ d h. let l = shape_size d h in headed_forms d Points tt (simplex_corners d) (λ v. refl) l (let e = count_units d d in omega arith) (λ v i. record { cols = corners_cols d v i; range = corners_range d v i });
  cross = λ d h. let l = shape_size d h in headed_forms d Points tt (opposite_units d d) (λ v. refl) l (let e = count_opposite d d in omega arith) (opposite_within d);
  cyclic = λ d n h. let l = cyclic_sizes d n h in headed_forms d Points tt (curve_points d n) (λ v. refl) l.1 (let e = count_curve d n in let m = l.0 in omega arith) (λ v i. record { cols = curve_cols d n v i; range = curve_points_range d n l.2 v i });
}
