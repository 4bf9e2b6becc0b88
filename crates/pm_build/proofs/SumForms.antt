-- The values of a Minkowski sum have the forms of values that an object may hold.
use Rattle.pm_vector.proofs.Filters.{filter_among, map_among}
use Rattle.pm_vector.proofs.Lists.{All_among, Among, all_at, among_All, among_append, here, there}
use Rattle.pm_vector.proofs.Ring.{ring}
use Rattle.pm_vector.proofs.Signs.{mul_pos, pos_cancel}
use Rattle.pm_vector.specs.Numbers.{InRange, Ratio}
use Rattle.pm_vector.specs.Rows.{Row, entry, ratio_at}
use Rattle.pm_build.proofs.FormLaws.{IsGood, good_forms, two_values}
use Rattle.pm_types.proofs.OverFirst.{over_fractions, over_one_first, over_primitive}
use Rattle.pm_build.proofs.PointLaws.{points_cols, points_up}
use Rattle.pm_build.proofs.Refused.{refused}
use Rattle.pm_build.specs.Conditions.{are_few, sum_count, sum_reads, sum_refusal}
use Rattle.pm_build.specs.Laws.{HaveForms, SumsHaveForms}
use Rattle.pm_build.specs.Points.{far, is_point, pairs, pairs_with, points}
use Rattle.pm_build.specs.SumSteps.{ColumnStays, IsSumRow, sum_entry}
use Rattle.pm_build.specs.Sums.{AreSums, sum_lines}
use Rattle.pm_object.proofs.KnownValues.{AreHeldRows, IsHeldRow, known_columns, known_rows, polytope_is}
use Rattle.pm_object.specs.Known.{cols_at, is_true, rows_at}
use Rattle.pm_types.specs.Parts.{value_over}
use Rattle.pm_object.specs.State.{State, is_polytope}
use Rattle.pm_object.specs.declared.held.Condition.TheVariants as condition
use Rattle.pm_object_type.specs.declared.object_type.ObjectType.{ObjectType}
use Rattle.pm_object_type.specs.declared.object_type.ObjectType.TheVariants.{Polytope}
use Rattle.pm_props.specs.declared.property.PropId.TheVariants.{Feasible, InputLineality, LinealitySpace, Points, Vertices}
use Rattle.pm_types.specs.Forms.{first_is_below, is_row, is_zero_row}
use Rattle.pm_types.specs.Views.{over_one}
use Rattle.std.proofs.Common.{Bool, ap, arith, false, inl, inr, refl, subst, sym, true, zero, ◌∙◌}
use Rattle.std.proofs.lemmas.Bool.{and_parts, eqb-true, leb-true}
use Rattle.std.proofs.lemmas.Int.{ints}
use Rattle.std.proofs.lemmas.List.{get_or_default, length-append, length-map}
use Rattle.std.proofs.lemmas.List.Elements.{All-append, All-cons, All-nil, All-weaker}
use Rattle.std.specs.List.{All}
use Rattle.std.specs.Prelude.{List, None, Some, [], if◌then◌else◌, length, nat_eq, nat_le, not, suc, ℕ, ◌&&◌, ◌*◌, ◌+◌, ◌++◌, ◌<◌, ◌∷◌, ◌≡◌, ◌≤◌}
use lib.IntN.{pos, ℤ, ◌*ℤ◌}
use lib.Signed.{◌<ℤ◌}
use Rattle.pm_limits.specs.Limits.{most_columns, most_rows}

-- ---- a sum of two points
record IsPair (n : ℕ) (v w : Row) : Type 0 where
  first : pos 0 <ℤ entry v 0
  second : pos 0 <ℤ entry w 0
  cols : length v ≡ n

entry_in_range : (p q : ℤ) (v w : Row) (k : ℕ) → ColumnStays p q v w k → InRange (sum_entry p q v w k)
entry_in_range p q v w zero h = h
entry_in_range p q v w (suc k) h = h.2

one_passes : (r : List Ratio) → 0 < length r → ratio_at r 0 ≡ over_one (pos 1) → is_row Polytope Points r ≡ true
one_passes [] l e = absurd (omega arith)
one_passes (q ∷ r) l e = rw e refl

sum_good : (n : ℕ) (v w : Row) (r : List Ratio) → 0 < n → IsPair n v w → IsSumRow v w r → IsGood n (is_row Polytope Points) r
sum_good n v w r some pair h = record {
  cols = h.over.cols ∙ h.before.cols ∙ pair.cols;
  passes = one_passes r (let a = h.over.cols in let b = h.before.cols in let c = pair.cols in omega arith) (over_one_first h.whole r h.over some_whole first range);
  entries = over_fractions h.whole r h.over some_whole first range;
  primitive = over_primitive h.whole r h.over some_whole first range;
}
  where
    some_whole : 0 < length h.whole
    some_whole = let b = h.before.cols in let c = pair.cols in omega arith

    divisor : pos 0 <ℤ pos h.factors.g
    divisor = by h.factors.g (subst (λ z. pos 0 <ℤ z) h.factors.first pair.second)
      where
        by : (g : ℕ) → pos 0 <ℤ (h.p *ℤ pos g) → pos 0 <ℤ pos g
        by zero u = absurd (let z : h.p *ℤ pos 0 ≡ pos 0 = simp ring in omega (arith, ints))
        by (suc g) u = omega (arith, ints)

    factor : pos 0 <ℤ h.p
    factor = pos_cancel divisor (subst (λ z. pos 0 <ℤ z) (h.factors.first ∙ (simp ring)) pair.second)

    first : pos 0 <ℤ entry h.whole 0
    first = subst (λ z. pos 0 <ℤ z) (sym (h.before.entries 0 (let c = pair.cols in omega arith))) (mul_pos pair.first factor)

    range : All InRange h.whole
    range i d l =
        let b = h.before.cols in
        let e : i < length v = omega arith in
        rw (get_or_default h.whole i d (pos 0) l) (subst InRange (sym (h.before.entries i e)) (entry_in_range h.p h.q v w i (h.before.numbers.stay i e)))

sums_good : (n : ℕ) (P : List (Row × Row)) (rows : List (List Ratio)) → 0 < n → ((p : Row × Row) → Among p P → IsPair n p.0 p.1) → AreSums P rows → All (IsGood n (is_row Polytope Points)) rows
sums_good n [] [] some f h = All-nil (IsGood n (is_row Polytope Points))
sums_good n [] (r ∷ rows) some f h = absurd h
sums_good n (p ∷ P) [] some f h = absurd h
sums_good n (p ∷ P) (r ∷ rows) some f h = All-cons (IsGood n (is_row Polytope Points)) r rows (sum_good n p.0 p.1 r some (f p here) h.0) (sums_good n P rows some (λ q i. f q (there i)) h.1)

sums_length : (P : List (Row × Row)) (rows : List (List Ratio)) → AreSums P rows → length rows ≡ length P
sums_length [] [] h = refl
sums_length [] (r ∷ rows) h = absurd h
sums_length (p ∷ P) [] h = absurd h
sums_length (p ∷ P) (r ∷ rows) h = ap suc (sums_length P rows h.1)

-- ---- pairs of points
pair_among : (V W : List Row) (p : Row × Row) → Among p (pairs V W) → Among p.0 V × Among p.1 W
pair_among [] W p i = elim i [ ]
pair_among (v ∷ V) W p i = elim (among_append (pairs_with v W) (pairs V W) i) [
  | inl j ↦ (let (w, a, e) = map_among (λ w. (v, w)) W j in subst (λ (q : Row × Row). Among q.0 (v ∷ V) × Among q.1 W) (sym e) (here, a))
  | inr j ↦ (let r = pair_among V W p j in (there r.0, r.1))
]

pairs_length : (V W : List Row) → length (pairs V W) ≡ length V * length W
pairs_length [] W = let e : 0 * length W ≡ 0 = omega arith in sym e
pairs_length (v ∷ V) W =
    let a : length (pairs (v ∷ V) W) ≡ length (pairs_with v W) + length (pairs V W) = length-append (pairs_with v W) (pairs V W) in
    let b : length (pairs_with v W) ≡ length W = length-map W (λ w. (v, w)) in
    let c = pairs_length V W in
    let d : suc (length V) * length W ≡ length W + length V * length W = omega arith in
    omega arith

-- ---- where no condition fails
record AreFit (a b : State) : Type 0 where
  first : a.of ≡ Polytope
  second : b.of ≡ Polytope
  columns : cols_at a ≡ cols_at b
  points : sum_count a b ≤ most_rows
  lines : length (rows_at LinealitySpace a) + length (rows_at LinealitySpace b) ≤ most_rows

parts : (p f c r : Bool) → (if not p then Some condition.OfType else if not f then Some condition.Feasible else if not c then Some condition.Columns else if not r then Some condition.Rows else None) ≡ None → (p ≡ true) × (c ≡ true) × (r ≡ true)
parts false f c r h = absurd (refused h)
parts true false c r h = absurd (refused h)
parts true true false r h = absurd (refused h)
parts true true true false h = absurd (refused h)
parts true true true true h = (refl, refl, refl)

are_fit : (a b : State) → sum_refusal a b ≡ None → AreFit a b
are_fit a b h =
    let p = parts (is_polytope a.of && is_polytope b.of) (is_true Feasible a && is_true Feasible b) (nat_eq (cols_at a) (cols_at b)) (nat_le (sum_count a b) most_rows && are_few LinealitySpace a b) h in
    let t = and_parts (is_polytope a.of) (is_polytope b.of) p.0 in
    let r = and_parts (nat_le (sum_count a b) most_rows) (are_few LinealitySpace a b) p.2 in
    record {
      first = polytope_is a.of t.0;
      second = polytope_is b.of t.1;
      columns = eqb-true (cols_at a) (cols_at b) p.1;
      points = leb-true (sum_count a b) most_rows r.0;
      lines = leb-true (length (rows_at LinealitySpace a) + length (rows_at LinealitySpace b)) most_rows r.1;
    }

vertex_passes : (r : List Ratio) → is_row Polytope Vertices r ≡ true → is_row Polytope Points r ≡ true
vertex_passes r h = (and_parts (not (first_is_below r)) (not (is_zero_row r)) h).0

held_good : (of : ObjectType) (n m : ℕ) (rows : List (List Ratio)) → of ≡ Polytope → m ≡ n → All (IsHeldRow of Vertices m) rows → All (IsGood n (is_row Polytope Points)) rows
held_good of n m rows e f h = All-weaker (IsHeldRow of Vertices m) (IsGood n (is_row Polytope Points)) (λ r g. record { cols = g.cols ∙ f; passes = vertex_passes r (subst (λ t. is_row t Vertices r ≡ true) e g.passes); entries = g.entries; primitive = g.primitive }) rows h

lines_good : (of : ObjectType) (n m : ℕ) (rows : List (List Ratio)) → of ≡ Polytope → m ≡ n → All (IsHeldRow of LinealitySpace m) rows → All (IsGood n (is_row Polytope InputLineality)) rows
lines_good of n m rows e f h = All-weaker (IsHeldRow of LinealitySpace m) (IsGood n (is_row Polytope InputLineality)) (λ r g. record { cols = g.cols ∙ f; passes = subst (λ t. is_row t LinealitySpace r ≡ true) e g.passes; entries = g.entries; primitive = g.primitive }) rows h

held_lengths : (of : ObjectType) (n m : ℕ) (rows : List (List Ratio)) → m ≡ n → All (IsHeldRow of Vertices m) rows → All (λ r. length r ≡ n) rows
held_lengths of n m rows f h = All-weaker (IsHeldRow of Vertices m) (λ r. length r ≡ n) (λ r g. g.cols ∙ f) rows h

far_good : (n : ℕ) (rows : List (List Ratio)) → All (IsGood n (is_row Polytope Points)) rows → All (IsGood n (is_row Polytope Points)) (far rows)
far_good n rows h = All_among (IsGood n (is_row Polytope Points)) (far rows) (λ r i. among_All (IsGood n (is_row Polytope Points)) (filter_among (λ r. not (is_point r)) rows i).0 h)

pub sums_forms : SumsHaveForms
sums_forms a b file fa fb ra rb h w = subst (HaveForms n) (sym w.file) (two_values n Points InputLineality (value_over n w.rows) (value_over n (sum_lines a b))
    (good_forms n Points tt w.rows range.0 range.1 few_points good)
    (good_forms n InputLineality tt (sum_lines a b) range.0 range.1 few_lines
    (All-append (IsGood n (is_row Polytope InputLineality)) (rows_at LinealitySpace a) (rows_at LinealitySpace b) (lines_good a.of n n (rows_at LinealitySpace a) fit.first refl lines_a.each) (lines_good b.of n (cols_at b) (rows_at LinealitySpace b) fit.second (sym fit.columns) lines_b.each))))
  where
    n : ℕ
    n = cols_at a

    fit : AreFit a b
    fit = are_fit a b h

    range : (1 ≤ n) × (n ≤ most_columns)
    range = known_columns sum_reads a fa (ra fit.first)

    vertices_a : AreHeldRows Vertices a
    vertices_a = known_rows sum_reads Vertices a tt fa (ra fit.first) (there here)

    vertices_b : AreHeldRows Vertices b
    vertices_b = known_rows sum_reads Vertices b tt fb (rb fit.second) (there here)

    lines_a : AreHeldRows LinealitySpace a
    lines_a = known_rows sum_reads LinealitySpace a tt fa (ra fit.first) (there (there here))

    lines_b : AreHeldRows LinealitySpace b
    lines_b = known_rows sum_reads LinealitySpace b tt fb (rb fit.second) (there (there here))

    few_lines : length (sum_lines a b) ≤ most_rows
    few_lines = let e = length-append (rows_at LinealitySpace a) (rows_at LinealitySpace b) in let l = fit.lines in omega arith

    count : length w.rows ≡ sum_count a b
    count =
        let e = ap length w.points.all ∙ length-append w.points.sums (far (rows_at Vertices a) ++ far (rows_at Vertices b)) in
        let f = length-append (far (rows_at Vertices a)) (far (rows_at Vertices b)) in
        let g = sums_length (pairs w.points.first w.points.second) w.points.sums w.points.are_sums in
        let k = pairs_length w.points.first w.points.second in
        let same : length w.points.first * length w.points.second ≡ length (points (rows_at Vertices a)) * length (points (rows_at Vertices b)) = ap (λ z. z * length w.points.second) w.points.points.first.count ∙ ap (λ z. length (points (rows_at Vertices a)) * z) w.points.points.second.count in
        omega arith

    few_points : length w.rows ≤ most_rows
    few_points = let e = count in let l = fit.points in omega arith

    is_pair : (p : Row × Row) → Among p (pairs w.points.first w.points.second) → IsPair n p.0 p.1
    is_pair p i =
        let j = pair_among w.points.first w.points.second p i in
        record {
          first = among_All (λ v. pos 0 <ℤ entry v 0) j.0 (points_up (rows_at Vertices a) w.points.first w.points.points.first);
          second = among_All (λ v. pos 0 <ℤ entry v 0) j.1 (points_up (rows_at Vertices b) w.points.second w.points.points.second);
          cols = all_at (λ (v : Row). length v ≡ n) j.0 (points_cols n (rows_at Vertices a) w.points.first (held_lengths a.of n n (rows_at Vertices a) refl vertices_a.each) w.points.points.first);
        }

    good : All (IsGood n (is_row Polytope Points)) w.rows
    good = subst (All (IsGood n (is_row Polytope Points))) (sym w.points.all)
        (All-append (IsGood n (is_row Polytope Points)) w.points.sums (far (rows_at Vertices a) ++ far (rows_at Vertices b))
        (sums_good n (pairs w.points.first w.points.second) w.points.sums range.0 is_pair w.points.are_sums)
        (All-append (IsGood n (is_row Polytope Points)) (far (rows_at Vertices a)) (far (rows_at Vertices b))
        (far_good n (rows_at Vertices a) (held_good a.of n n (rows_at Vertices a) fit.first refl vertices_a.each))
        (far_good n (rows_at Vertices b) (held_good b.of n (cols_at b) (rows_at Vertices b) fit.second (sym fit.columns) vertices_b.each))))
