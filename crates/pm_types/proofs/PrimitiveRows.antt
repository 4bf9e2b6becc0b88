-- Where the numbers on the way to a primitive row leave the range, and where they do not.
use Rattle.pm_vector.proofs.DivisorLaws.{common_divisor}
use Rattle.pm_vector.specs.Numbers.{InRange, Ratio}
use Rattle.pm_vector.specs.Rows.{ratio_at}
use Rattle.pm_fraction.proofs.Denominators.{least_unique}
use Rattle.pm_fraction.proofs.MultipleLaws.{IsLcm-from_gcd, gcd_positive}
use Rattle.pm_fraction.specs.FractionRows.{IsLeastDenominator}
use Rattle.pm_fraction.specs.Multiples.{IsLcm}
use Rattle.pm_fraction.specs.Wideness.{IsFirstWide, IsFirstWideDenominator, IsFirstWideNumerator, IsWideRow, NumeratorsStay, RowStays, RowsStay}
use Rattle.pm_fraction.specs.declared.fails.RowsFail.TheVariants.{Wide}
use Rattle.pm_props.specs.declared.property.PropId.TheVariants.{F2Vector, LinearObjective, SiteHeights, Sites}
use Rattle.pm_props.specs.declared.property.PropId.{PropId}
use Rattle.pm_types.specs.Forms.{HasPrimitiveRow, is_column_count, is_matrix_form, is_matrix_of, is_row_of_entries}
use Rattle.std.proofs.Common.{arith, below_more, get_or, inl, inr, length, subst, sym, ◌*◌, ◌+◌, ◌/◌, ◌≡◌, ◌≤◌, ℕ}
use Rattle.std.proofs.lemmas.Bool.{and_parts, cases_lt, eqb-true, leb-true}
use Rattle.std.proofs.lemmas.List.{get_or_default}
use Rattle.std.proofs.lemmas.Nat.Gcd.{dvd-zero, dvd_trans}
use Rattle.std.specs.Int.{◌∣◌}
use Rattle.std.specs.List.{All, list_all}
use Rattle.std.specs.Prelude.{List, [], nat_eq, nat_le, unsigned_abs, true, ◌&&◌}
use lib.IntN.{ℤ, ◌*ℤ◌}
use Rattle.pm_limits.specs.Limits.{most_columns, most_rows, most_site_columns}

-- ---- a least common denominator one column on
lcm_of_zero : (b : ℕ) → IsLcm 0 b 0
lcm_of_zero b = record { multiples = λ c. (λ h. (h, dvd_trans b (dvd-zero b) h), λ w. w.0) }

some_lcm : (a b : ℕ) → (m : ℕ) × IsLcm a b m
some_lcm a b = elim (cases_lt 0 a) [
  | inl some ↦ let (g, h) = common_divisor a b in (a / g * b, IsLcm-from_gcd a b g (gcd_positive a b g some h) h)
  | inr none ↦ let e : a ≡ 0 = omega arith in (0, rw e (lcm_of_zero b))
]

least_next : (r : List Ratio) (k m n : ℕ) → IsLeastDenominator r k m → IsLcm m (unsigned_abs (ratio_at r k).den) n → IsLeastDenominator r (k + 1) n
least_next r k m n so_far both = record {
  multiples = λ c. (
    λ h. let w = (both.multiples c).0 h in below_more (λ i. unsigned_abs (ratio_at r i).den ∣ c) k ((so_far.multiples c).0 w.0) w.1,
    λ f. (both.multiples c).1 ((so_far.multiples c).1 (λ i below. f i (omega arith)), f k (omega arith)),
  );
}

-- ---- a row
not_wide_denominator : (r : List Ratio) (a b : ℤ) → HasPrimitiveRow r → IsFirstWideDenominator r a b → ⊥
not_wide_denominator r a b h w =
    let (n, both) = some_lcm w.m (unsigned_abs (ratio_at r w.k).den) in
    let next = least_next r w.k w.m n w.so_far both in
    let within = w.within in
    w.wide n next (h.denominators.stay (w.k + 1) n (omega arith) next)

not_wide_numerator : (r : List Ratio) (a b : ℤ) → HasPrimitiveRow r → IsFirstWideNumerator r a b → ⊥
not_wide_numerator r a b h w =
    let small = (h.numerators w.m w.least).stay w.k w.within in
    w.wide (subst (λ y. InRange (y *ℤ b)) (sym w.a_is) (subst (λ y. InRange ((ratio_at r w.k).num *ℤ y)) (sym w.b_is) small))

pub not_wide : (r : List Ratio) (a b : ℤ) → HasPrimitiveRow r → IsFirstWide r a b → ⊥
not_wide r a b h w = elim w [ inl d ↦ not_wide_denominator r a b h d | inr n ↦ not_wide_numerator r a b h n ]

pub stays_primitive : (r : List Ratio) → RowStays r → HasPrimitiveRow r
stays_primitive r s = record {
  denominators = s.denominators;
  numerators = λ m least. subst (λ n. NumeratorsStay r n (length r)) (least_unique r (length r) s.denominator m s.least least) s.numerators;
}

-- ---- rows
pub rows_stay_primitive : (rows : List (List Ratio)) → RowsStay rows (length rows) → All HasPrimitiveRow rows
rows_stay_primitive rows s = λ i d within. rw (get_or_default rows i d [] within) (stays_primitive (get_or rows i []) (s.stay i within))

pub no_wide_row : (rows : List (List Ratio)) (i : ℕ) (a b : ℤ) → All HasPrimitiveRow rows → IsWideRow rows (Wide i a b) → ⊥
no_wide_row rows i a b h w = not_wide (get_or rows i []) a b (h i [] w.within) w.wide

-- a matrix in its form has few rows
pub few_rows : (n : ℕ) (rows : List (List Ratio)) → is_matrix_form n rows ≡ true → length rows ≤ most_rows
few_rows n rows h =
    let p = and_parts (nat_le (length rows) most_rows && is_column_count rows n) (list_all (is_row_of_entries n) rows) h in
    let q = and_parts (nat_le (length rows) most_rows) (is_column_count rows n) p.0 in
    leb-true (length rows) most_rows q.0

pub few_rows_of : (p : PropId) (n : ℕ) (rows : List (List Ratio)) → is_matrix_of p n rows ≡ true → length rows ≤ most_rows
few_rows_of F2Vector n rows h =
    let p = and_parts (nat_le (length rows) most_rows && nat_le n most_columns) (list_all (is_row_of_entries n) rows) h in
    let q = and_parts (nat_le (length rows) most_rows) (nat_le n most_columns) p.0 in
    leb-true (length rows) most_rows q.0
few_rows_of LinearObjective n rows h = few_rows n rows (and_parts (nat_eq (length rows) 1) (is_matrix_form n rows) h).1
few_rows_of Sites n rows h = few_rows n rows (and_parts (nat_le n most_site_columns) (is_matrix_form n rows) h).1
few_rows_of SiteHeights n rows h =
    let one = and_parts (nat_eq (length rows) 1) (nat_le n most_rows) (and_parts (nat_eq (length rows) 1 && nat_le n most_rows) (list_all (is_row_of_entries n) rows) h).0 in
    let e = eqb-true (length rows) 1 one.0 in
    omega arith
few_rows_of p n rows h = few_rows n rows h
