-- The rows that stand for points: how many they are, and their primitive rows.
use Rattle.pm_vector.proofs.Filters.{filter_among}
use Rattle.pm_vector.proofs.Lists.{All_among, all_from, among_All, among_Contains}
use Rattle.pm_vector.proofs.Ring.{ring}
use Rattle.pm_vector.proofs.Signs.{mul_pos, pos_cancel}
use Rattle.pm_vector.specs.Numbers.{Ratio}
use Rattle.pm_vector.specs.Rows.{HasCols, Row, Stands, entry}
use Rattle.pm_build.specs.Points.{is_point, is_positive, points}
use Rattle.pm_fraction.specs.FractionRows.{ArePrimitiveRowsOf}
use Rattle.pm_object.proofs.KnownValues.{formed_is, rows_cols}
use Rattle.pm_object.specs.Known.{IsOfRows}
use Rattle.pm_object_type.specs.declared.object_type.ObjectType.{ObjectType}
use Rattle.pm_props.specs.declared.property.PropId.{PropId}
use Rattle.pm_types.specs.Forms.{FormsIn, HasPrimitiveRow, is_column_count, is_matrix_form, is_row_of_entries}
use Rattle.pm_types.specs.Values.{matrix}
use Rattle.std.proofs.Common.{Bool, ap, arith, false, get_or, subst, sym, true, true≢false, ◌∙◌}
use Rattle.std.proofs.lemmas.Bool.{and_parts, eqb-true}
use Rattle.std.proofs.lemmas.Int.{ints}
use Rattle.std.proofs.lemmas.List.{get_or_default}
use Rattle.std.proofs.lemmas.List.Elements.{Contains-get_or}
use Rattle.std.proofs.lemmas.List.Sums.{AllPass-from_list_all}
use Rattle.std.specs.List.{All, list_all}
use Rattle.std.specs.Prelude.{List, [], cond, filter, length, nat_le, suc, zero, ℕ, ◌&&◌, ◌<◌, ◌∷◌, ◌≡◌, ◌≤◌}
use lib.IntN.{negsuc, pos, ℤ, ◌*ℤ◌}
use lib.Signed.{◌<ℤ◌}
use Rattle.pm_limits.specs.Limits.{most_rows}

kept_few : (b : Bool) (r : List Ratio) (xs rows : List (List Ratio)) → length xs ≤ length rows → length (cond b (r ∷ xs) xs) ≤ length (r ∷ rows)
kept_few true r xs rows h = omega arith
kept_few false r xs rows h = omega arith

filter_few : (p : List Ratio → Bool) (rows : List (List Ratio)) → length (filter p rows) ≤ length rows
filter_few p [] = omega arith
filter_few p (r ∷ rows) = kept_few (p r) r (filter p rows) rows (filter_few p rows)

pub points_bound : (rows made : List (List Ratio)) → made ≡ points rows → length rows ≤ most_rows → length made < 1073741824
points_bound rows made e few = let h = filter_few is_point rows in let f = ap length e in omega arith

pub points_primitive : (rows made : List (List Ratio)) → made ≡ points rows → All HasPrimitiveRow rows → All HasPrimitiveRow made
points_primitive rows made e h = subst (All HasPrimitiveRow) (sym e) (All_among HasPrimitiveRow (points rows) (λ r i. among_All HasPrimitiveRow (filter_among is_point rows i).0 h))

-- ---- their primitive rows
positive_yes : (z : ℤ) → is_positive z ≡ true → pos 0 <ℤ z
positive_yes (pos zero) e = absurd (true≢false (sym e))
positive_yes (pos (suc k)) e = omega (arith, ints)
positive_yes (negsuc k) e = absurd (true≢false (sym e))

-- p (x den) = k num
up_of : (p k x den num : ℤ) → pos 0 <ℤ p → pos 0 <ℤ k → pos 0 <ℤ den → p *ℤ (x *ℤ den) ≡ k *ℤ num → pos 0 <ℤ num → pos 0 <ℤ x
up_of p k x den num hp hk hd e h = pos_cancel hd (subst (λ z. pos 0 <ℤ z) (swap x den) (pos_cancel hp (subst (λ z. pos 0 <ℤ z) (sym e) (mul_pos hk h))))
  where
    swap : (x y : ℤ) → x *ℤ y ≡ y *ℤ x
    swap x y = simp ring

point_up : (r : List Ratio) (x : Row) → is_point r ≡ true → Stands r x → pos 0 <ℤ entry x 0
point_up [] x e s = absurd (true≢false (sym e))
point_up (q ∷ r) x e s = up_of s.p s.q (entry x 0) q.den q.num s.p_positive s.q_positive (s.denominators 0 (omega arith)) (s.same 0 (omega arith)) (positive_yes q.num e)

pub points_up : (rows : List (List Ratio)) (V : List Row) → ArePrimitiveRowsOf (points rows) V → All (λ v. pos 0 <ℤ entry v 0) V
points_up rows V are = λ i d l. rw (get_or_default V i d [] l) (at i l)
  where
    at : (i : ℕ) → i < length V → pos 0 <ℤ entry (get_or V i []) 0
    at i l =
        let c = are.count in
        let within : i < length (points rows) = omega arith in
        let w = filter_among is_point rows (among_Contains (points rows) (Contains-get_or (points rows) i [] within)) in
        point_up (get_or (points rows) i []) (get_or V i []) w.1 (are.multiple i within)

pub points_cols : (n : ℕ) (rows : List (List Ratio)) (V : List Row) → All (λ r. length r ≡ n) rows → ArePrimitiveRowsOf (points rows) V → HasCols n V
points_cols n rows V h are = all_from (λ v. length v ≡ n) V (λ v i. among_All (λ v. length v ≡ n) i all)
  where
    all : All (λ (v : Row). length v ≡ n) V
    all = λ i d l.
        let c = are.count in
        let within : i < length (points rows) = omega arith in
        let w = filter_among is_point rows (among_Contains (points rows) (Contains-get_or (points rows) i [] within)) in
        ap length (get_or_default V i d [] l) ∙ (are.multiple i within).cols ∙ among_All (λ r. length r ≡ n) w.0 h

-- ---- rows in their form
pub form_lengths : (of : ObjectType) (n : ℕ) (p : PropId) (m : ℕ) (rows : List (List Ratio)) → IsOfRows p → FormsIn of n p (matrix m rows) → All (λ r. length r ≡ n) rows
form_lengths of n p m rows r f = λ i d l. eqb-true _ m (lengths i d l) ∙ rows_cols of n p m rows r f (omega arith)
  where
    form : is_matrix_form m rows ≡ true
    form = sym (formed_is p r (matrix m rows)) ∙ f.formed

    lengths : All (λ x. is_row_of_entries m x ≡ true) rows
    lengths = AllPass-from_list_all (is_row_of_entries m) rows (and_parts (nat_le (length rows) most_rows && is_column_count rows m) (list_all (is_row_of_entries m) rows) form).1
