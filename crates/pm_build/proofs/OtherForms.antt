-- The values of polars, products and pyramids have the forms of values that an object may hold.
use Rattle.pm_vector.proofs.Lists.{Among, among_All, here, there}
use Rattle.pm_vector.specs.Numbers.{InRange, Ratio}
use Rattle.pm_build.proofs.Extended.{length_padded, length_spread, padded_fractions, padded_primitive, spread_fractions, spread_primitive}
use Rattle.pm_build.proofs.FormLaws.{IsGood, IsHalf, good_forms, nought, one_value, two_values}
use Rattle.pm_object.proofs.KnownValues.{IsHeldRow, known_columns, known_rows, polytope_is}
use Rattle.pm_build.proofs.Refused.{conditions, refused}
use Rattle.pm_build.proofs.RowLaws.{length_ratios}
use Rattle.pm_build.specs.Conditions.{are_few, polar_reads, polar_refusal, product_reads, product_refusal, pyramid_reads, pyramid_refusal}
use Rattle.pm_object.specs.Known.{IsKnown, IsOfRows, IsReadable, cols_at, held_rows, is_true, rows_at}
use Rattle.pm_types.specs.Parts.{value_over}
use Rattle.pm_build.specs.Laws.{HaveForms, OthersHaveForms}
use Rattle.pm_build.specs.Objects.{both_rows, padded, polar_of, product_cols, product_of, pyramid_lines, pyramid_of, pyramid_points, spread}
use Rattle.pm_build.specs.Rows.{apex_row}
use Rattle.pm_object.specs.declared.held.Condition.TheVariants as condition
use Rattle.pm_object.specs.Formed.{IsFormed}
use Rattle.pm_object.specs.State.{State, cols_of, is_held, read_at, value_of, is_polytope}
use Rattle.pm_object_type.specs.declared.object_type.ObjectType.{ObjectType}
use Rattle.pm_object_type.specs.declared.object_type.ObjectType.TheVariants.{Cone, Fan, Polytope}
use Rattle.pm_props.specs.declared.property.PropId.TheVariants.{AffineHull, Bounded, Centered, Equations, Facets, FullDim, Inequalities, InputLineality, LinealitySpace, Points, Vertices}
use Rattle.pm_props.specs.declared.property.PropId.{PropId}
use Rattle.pm_types.proofs.WholeRows.{ratios_fractions, ratios_primitive}
use Rattle.pm_types.specs.Forms.{FormsIn, first_is_below, is_column_count, is_matrix_form, is_row, is_row_of_entries, is_zero_row}
use Rattle.pm_types.specs.Values.{PropertyValue, matrix}
use Rattle.pm_types.specs.Views.{ratios}
use Rattle.std.proofs.Common.{ap, arith, false, refl, subst, sym, true, true≢false, ◌∙◌}
use Rattle.std.proofs.lemmas.Bool.{and_parts, eqb-true, leb-true, ltb-true}
use Rattle.std.proofs.lemmas.List.{length-append, length-map, length-replicate}
use Rattle.std.proofs.lemmas.List.Elements.{All-append, All-cons, All-map, All-nil, All-replicate, All-weaker}
use Rattle.std.proofs.lemmas.List.Sums.{AllPass-from_list_all}
use Rattle.std.specs.List.{All, list_all}
use Rattle.std.specs.Option.{is_some}
use Rattle.std.specs.Prelude.{Bool, IsTrue, List, None, Option, Some, [], if◌then◌else◌, length, map, nat_le, nat_lt, not, replicate, suc, zero, ℕ, ◌&&◌, ◌+◌, ◌++◌, ◌-◌, ◌∷◌, ◌≡◌, ◌≤◌}
use lib.IntN.{pos}
use Rattle.pm_limits.specs.Limits.{most_columns, most_dimensions, most_rows}

-- ---- rows that are read
-- good rows of n columns, not too many
record AreRead (p : PropId) (o : State) : Type 0 where
  few : length (rows_at p o) ≤ most_rows
  good : All (IsGood (cols_at o) (is_row Polytope p)) (rows_at p o)

read : (ps : List PropId) (p : PropId) (o : State) → IsOfRows p → IsFormed o → o.of ≡ Polytope → IsKnown ps o → Among p ps → AreRead p o
read ps p o r f e k i =
    let w = known_rows ps p o r f k i in record {
      few = w.few;
      good = All-weaker (IsHeldRow o.of p (cols_at o)) (IsGood (cols_at o) (is_row Polytope p)) (λ x g. record { cols = g.cols; passes = subst (λ (t : ObjectType). is_row t p x ≡ true) e g.passes; entries = g.entries; primitive = g.primitive }) (rows_at p o) w.each;
    }

-- ---- rows that are put in other columns
padded_good : (k n m : ℕ) (test other : List Ratio → Bool) → n + k ≡ m → ((r : List Ratio) → test r ≡ true → other (padded k r) ≡ true) → (rows : List (List Ratio)) → All (IsGood n test) rows → All (IsGood m other) (map (padded k) rows)
padded_good k n m test other e t rows h =
    All-map (IsGood m other) (padded k) rows
    (All-weaker (IsGood n test) (λ (r : List Ratio). IsGood m other (padded k r))
    (λ r g. record { cols = length_padded k r ∙ ap (λ i. i + k) g.cols ∙ e; passes = t r g.passes; entries = padded_fractions k r g.entries; primitive = padded_primitive k r g.primitive }) rows h)

spread_good : (k n m : ℕ) (test other : List Ratio → Bool) → 1 ≤ n → n + k ≡ m → ((r : List Ratio) → test r ≡ true → other (spread k r) ≡ true) → (rows : List (List Ratio)) → All (IsGood n test) rows → All (IsGood m other) (map (spread k) rows)
spread_good k n m test other some e t rows h =
    All-map (IsGood m other) (spread k) rows
    (All-weaker (IsGood n test) (λ (r : List Ratio). IsGood m other (spread k r))
    (λ r g. let c = g.cols in record { cols = length_spread k r (omega arith) ∙ ap (λ i. i + k) c ∙ e; passes = t r g.passes; entries = spread_fractions k r g.entries; primitive = spread_primitive k r g.primitive }) rows h)

vertex_is_point : (r : List Ratio) → is_row Polytope Vertices r ≡ true → is_row Polytope Points (padded 1 r) ≡ true
vertex_is_point [] h = refl
vertex_is_point (q ∷ r) h = (and_parts (not (first_is_below (q ∷ r))) (not (is_zero_row (q ∷ r))) h).0

line_is_line : (r : List Ratio) → is_row Polytope LinealitySpace r ≡ true → is_row Polytope InputLineality (padded 1 r) ≡ true
line_is_line [] h = refl
line_is_line (q ∷ r) h = h

-- ---- where no condition fails
-- of products and of pyramids
three_parts : (p c r : Bool) → (if not p then Some condition.OfType else if not c then Some condition.Columns else if not r then Some condition.Rows else None) ≡ None → (p ≡ true) × (c ≡ true) × (r ≡ true)
three_parts false c r h = absurd (refused h)
three_parts true false r h = absurd (refused h)
three_parts true true false h = absurd (refused h)
three_parts true true true h = (refl, refl, refl)

-- ---- the polar
polar_forms : (a : State) → IsFormed a → IsReadable polar_reads a → polar_refusal a ≡ None → HaveForms (cols_at a) (polar_of a)
polar_forms a f r h =
    let parts = conditions (is_polytope a.of) (is_true Bounded a) (is_true FullDim a) (is_true Centered a) (list_all (is_row Polytope Points) (rows_at Facets a)) h in
    let of = polytope_is a.of parts.0 in
    let k = r of in
    let n = known_columns polar_reads a f k in
    let facets = read polar_reads Facets a tt f of k (there (there (there here))) in
    let tests = AllPass-from_list_all (is_row Polytope Points) (rows_at Facets a) parts.3 in
    let good : All (IsGood (cols_at a) (is_row Polytope Points)) (rows_at Facets a) = λ i d l. let g = facets.good i d l in record { cols = g.cols; passes = tests i d l; entries = g.entries; primitive = g.primitive } in
    one_value (cols_at a) Points (value_over (cols_at a) (rows_at Facets a)) (good_forms (cols_at a) Points tt (rows_at Facets a) n.0 n.1 facets.few good)

-- ---- the product
module _ (a b : State) (p q : PropId) (half : IsHalf q) (test : (k : ℕ) (r : List Ratio) → is_row Polytope p r ≡ true → is_row Polytope q (padded k r) ≡ true) (behind : (k : ℕ) (r : List Ratio) → is_row Polytope p r ≡ true → is_row Polytope q (spread k r) ≡ true)
    (x : AreRead p a) (y : AreRead p b) (n : 1 ≤ cols_at a) (m : 1 ≤ cols_at b) (few : cols_at a + cols_at b ≤ (most_columns + 1)) (all : length (rows_at p a) + length (rows_at p b) ≤ most_rows) where
  both_forms : FormsIn Polytope (product_cols a b) q (value_over (product_cols a b) (both_rows p a b))
  both_forms = good_forms (product_cols a b) q half (both_rows p a b) (omega arith) (omega arith) count
      (All-append (IsGood (product_cols a b) (is_row Polytope q)) (map (padded (cols_at b - 1)) (rows_at p a)) (map (spread (cols_at a - 1)) (rows_at p b))
      (padded_good (cols_at b - 1) (cols_at a) (product_cols a b) (is_row Polytope p) (is_row Polytope q) (omega arith) (test (cols_at b - 1)) (rows_at p a) x.good)
      (spread_good (cols_at a - 1) (cols_at b) (product_cols a b) (is_row Polytope p) (is_row Polytope q) m (omega arith) (behind (cols_at a - 1)) (rows_at p b) y.good))
    where
      count : length (both_rows p a b) ≤ most_rows
      count =
          let e = length-append (map (padded (cols_at b - 1)) (rows_at p a)) (map (spread (cols_at a - 1)) (rows_at p b)) in
          let f = length-map (rows_at p a) (padded (cols_at b - 1)) in
          let g = length-map (rows_at p b) (spread (cols_at a - 1)) in
          omega arith

product_forms : (a b : State) → IsFormed a → IsFormed b → IsReadable product_reads a → IsReadable product_reads b → product_refusal a b ≡ None → HaveForms (product_cols a b) (product_of a b)
product_forms a b f g r s h =
    let parts = three_parts (is_polytope a.of && is_polytope b.of) (nat_le (cols_at a + cols_at b) (most_columns + 1)) (are_few Facets a b && are_few AffineHull a b) h in
    let types = and_parts (is_polytope a.of) (is_polytope b.of) parts.0 in
    let few = leb-true (cols_at a + cols_at b) (most_columns + 1) parts.1 in
    let counts = and_parts (are_few Facets a b) (are_few AffineHull a b) parts.2 in
    let of = polytope_is a.of types.0 in
    let og = polytope_is b.of types.1 in
    let k = r of in
    let l = s og in
    let n = known_columns product_reads a f k in
    let m = known_columns product_reads b g l in
    two_values (product_cols a b) Inequalities Equations (value_over (product_cols a b) (both_rows Facets a b)) (value_over (product_cols a b) (both_rows AffineHull a b))
    (both_forms a b Facets Inequalities tt (λ k r t. refl) (λ k r t. refl)
    (read product_reads Facets a tt f of k here) (read product_reads Facets b tt g og l here) n.0 m.0 few
    (leb-true (length (rows_at Facets a) + length (rows_at Facets b)) most_rows counts.0))
    (both_forms a b AffineHull Equations tt (λ k r t. refl) (λ k r t. refl)
    (read product_reads AffineHull a tt f of k (there here)) (read product_reads AffineHull b tt g og l (there here)) n.0 m.0 few
    (leb-true (length (rows_at AffineHull a) + length (rows_at AffineHull b)) most_rows counts.1))

-- ---- the pyramid
one : InRange (pos 1)
one = omega arith

apex_range : (n : ℕ) → All InRange (apex_row n)
apex_range zero = All-cons InRange (pos 1) [] one (All-nil InRange)
apex_range (suc d) = All-cons InRange (pos 1) (replicate d (pos 0) ++ pos 1 ∷ []) one (All-append InRange (replicate d (pos 0)) (pos 1 ∷ []) (All-replicate InRange d (pos 0) nought) (All-cons InRange (pos 1) [] one (All-nil InRange)))

apex_length : (n : ℕ) → 1 ≤ n → length (apex_row n) ≡ suc n
apex_length zero h = absurd (omega arith)
apex_length (suc d) h = let e = length-append (replicate d (pos 0)) (pos 1 ∷ []) in let f = length-replicate d (pos 0) in omega arith

apex_passes : (n : ℕ) → is_row Polytope Points (ratios (apex_row n)) ≡ true
apex_passes zero = refl
apex_passes (suc d) = refl

apex_good : (n : ℕ) → 1 ≤ n → IsGood (suc n) (is_row Polytope Points) (ratios (apex_row n))
apex_good n h = record { cols = length_ratios (apex_row n) ∙ apex_length n h; passes = apex_passes n; entries = ratios_fractions (apex_row n) (apex_range n); primitive = ratios_primitive (apex_row n) (apex_range n) }

pyramid_forms : (a : State) → IsFormed a → IsReadable pyramid_reads a → pyramid_refusal a ≡ None → HaveForms (suc (cols_at a)) (pyramid_of a)
pyramid_forms a f r h =
    let parts = three_parts (is_polytope a.of) (nat_le (cols_at a) most_dimensions) (nat_lt (length (rows_at Vertices a)) most_rows) h in
    let of = polytope_is a.of parts.0 in
    let few = leb-true (cols_at a) most_dimensions parts.1 in
    let count = ltb-true (length (rows_at Vertices a)) most_rows parts.2 in
    let k = r of in
    let n = known_columns pyramid_reads a f k in
    let vertices = read pyramid_reads Vertices a tt f of k here in
    let lines = read pyramid_reads LinealitySpace a tt f of k (there here) in
    let e = length-append (map (padded 1) (rows_at Vertices a)) (ratios (apex_row (cols_at a)) ∷ []) in
    let g = length-map (rows_at Vertices a) (padded 1) in
    let i = length-map (rows_at LinealitySpace a) (padded 1) in
    let j = lines.few in
    let some = n.0 in
    two_values (suc (cols_at a)) Points InputLineality (value_over (suc (cols_at a)) (pyramid_points a)) (value_over (suc (cols_at a)) (pyramid_lines a))
    (good_forms (suc (cols_at a)) Points tt (pyramid_points a) (omega arith) (omega arith) (omega arith)
    (All-append (IsGood (suc (cols_at a)) (is_row Polytope Points)) (map (padded 1) (rows_at Vertices a)) (ratios (apex_row (cols_at a)) ∷ [])
    (padded_good 1 (cols_at a) (suc (cols_at a)) (is_row Polytope Vertices) (is_row Polytope Points) (omega arith) vertex_is_point (rows_at Vertices a) vertices.good)
    (All-cons (IsGood (suc (cols_at a)) (is_row Polytope Points)) (ratios (apex_row (cols_at a))) [] (apex_good (cols_at a) some) (All-nil (IsGood (suc (cols_at a)) (is_row Polytope Points))))))
    (good_forms (suc (cols_at a)) InputLineality tt (pyramid_lines a) (omega arith) (omega arith) (omega arith)
    (padded_good 1 (cols_at a) (suc (cols_at a)) (is_row Polytope LinealitySpace) (is_row Polytope InputLineality) (omega arith) line_is_line (rows_at LinealitySpace a) lines.good))

pub others_forms : OthersHaveForms
others_forms = record { polar = polar_forms; product = product_forms; pyramid = pyramid_forms }
