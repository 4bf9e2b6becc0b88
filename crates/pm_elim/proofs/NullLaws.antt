-- The tails of the echelon basis of the extended list are the echelon basis of the null space.
use Rattle.pm_vector.proofs.ConeLaws.{combination_none}
use Rattle.pm_vector.proofs.Lists.{all_at, all_from}
use Rattle.pm_vector.proofs.Ring.{ring}
use Rattle.pm_vector.proofs.RowLaws.{dot-same, entry-plus, entry-times}
use Rattle.pm_vector.proofs.Signs.{mul_cancel}
use Rattle.pm_vector.specs.Cones.{InSpan, combination}
use Rattle.pm_vector.specs.Rows.{HasCols, Row, dot, entry}
use Rattle.pm_vector.proofs.Columns.{coefficient, combination_at}
use Rattle.pm_vector.proofs.Spans.{at_place, place_of, same_span_sym, span_at, span_from, span_to}
use Rattle.pm_vector.specs.Bases.{SameSpan, column, row_at}
use Rattle.pm_vector.proofs.DotLaws.{dot_span_zero, null_of_span}
use Rattle.pm_elim.proofs.ExtendedLaws.{products_of_span, span_of_products}
use Rattle.pm_elim.proofs.TailLaws.{combination_drop, combination_tails, drop-padded, late, padded, padded_first, padded_last, padded_length, tail_basis, tail_row}
use Rattle.pm_vector.specs.Evidence.{IsBasisOf, IsExtended}
use Rattle.pm_vector.specs.NullSpaces.{IsNull, IsNullBasis}
use Rattle.pm_elim.specs.ExtendedLists.{AreTails, IsExtendedBasis, tail_columns, tails}
use Rattle.std.proofs.Common.{ap, arith, subst, sym, ◌∙◌}
use Rattle.std.proofs.lemmas.Int.{ints}
use Rattle.std.proofs.lemmas.List.{length-drop, length-map}
use Rattle.std.specs.Prelude.{List, [], drop, length, ℕ, ◌+◌, ◌<◌, ◌≡◌, ◌≤◌}
use lib.IntN.{pos, ◌*ℤ◌}

-- in a span the multiple of an entry
span_multiple : (X : List Row) (w : Row) (h : InSpan X w) (c : ℕ) → h.m *ℤ entry w c ≡ entry (combination h.d X) c
span_multiple X w h c = let q = simp (entry-times, entry-plus, combination_none) at (h.same.at c) in omega (arith, ints)

module _ (n : ℕ) (B X E : List Row) (Q : List ℕ) (h : ℕ) (cols : HasCols n B) (x : IsExtended n B X) (b : IsBasisOf (length B + n) X E Q) (hl : h ≤ length E) (lower : (i : ℕ) → i < h → column Q i < length B) (upper : h < length Q → length B ≤ column Q h) where
  -- each tail has product 0 with each basis row
  tail_null : (i : ℕ) → i < length (tails (length B) h E) → (j : ℕ) → j < length B → dot (row_at B j) (row_at (tails (length B) h E) i) ≡ pos 0
  tail_null i l j lj =
      let within : h + i < length E = (let c = simp (length-map, length-drop) at l in omega arith) in
      let inside : InSpan X (row_at E (h + i)) = span_to b.span (span_at (h + i) within) in
      let u = late (length B) n h E Q b.echelon hl lower upper (h + i) (omega arith) within in
      let z : entry (row_at E (h + i)) j ≡ pos 0 = b.echelon.before (h + i) j within (omega arith) in
      ap (dot (row_at B j)) (tail_row (length B) n h E Q b.echelon hl lower upper i l) ∙ sym (products_of_span n B X cols x (row_at E (h + i)) inside j lj) ∙ z

  null_of_tails : (y : Row) → InSpan (tails (length B) h E) y → IsNull B y
  null_of_tails y s =
      all_from (λ (a : Row). dot a y ≡ pos 0) B (λ a i.
      let p = place_of i in
      subst (λ (z : Row). dot z y ≡ pos 0) p.2
      (dot_span_zero (row_at B p.0) (tails (length B) h E) y (λ g i'. let q = place_of i' in subst (λ (z : Row). dot (row_at B p.0) z ≡ pos 0) q.2 (tail_null q.0 q.1 p.0 p.1)) s))

  padded_inside : (y : Row) → length y ≡ n → IsNull B y → InSpan E (padded (length B) y)
  padded_inside y ly null =
      span_from b.span
      (span_of_products n B X cols x (padded (length B) y) (let p = padded_length (length B) y in omega arith) (λ j lj.
      padded_first (length B) y j lj ∙ sym (dot-same (row_at B j) (drop (length B) (padded (length B) y)) y (drop-padded (length B) y) ∙ all_at (λ (a : Row). dot a y ≡ pos 0) (at_place B j lj) null)))

  first_coefficients : (y : Row) → (s : InSpan E (padded (length B) y)) → (j : ℕ) → j < h → coefficient s.d j ≡ pos 0
  first_coefficients y s j lj =
      let within : j < length E = omega arith in
      let at = combination_at s.d E (column Q j) j within (λ k lk ne. b.echelon.reduced k j lk within ne) in
      let m = span_multiple E (padded (length B) y) s (column Q j) in
      let z = padded_first (length B) y (column Q j) (lower j lj) in
      mul_cancel (b.echelon.positive j within) (let g = rw z at m in simp ring (omega (arith, ints)))

  tails_of_null : (y : Row) → length y ≡ n → IsNull B y → InSpan (tails (length B) h E) y
  tails_of_null y ly null =
      let s = padded_inside y ly null in
      record {
        m = s.m;
        c = [];
        d = drop h s.d;
        positive = s.positive;
        not_negative = tt;
        same = record {
          at = λ c.
              let p = padded_last (length B) y c in
              let m = rw p at (span_multiple E (padded (length B) y) s (length B + c)) in
              let first = combination_drop h s.d E (length B + c) (first_coefficients y s) in
              let last = combination_tails (length B) (drop h s.d) (drop h E) c in
              simp (entry-times, entry-plus, combination_none) (omega (arith, ints));
        };
      }

  null_basis : IsNullBasis n B (tails (length B) h E) (tail_columns (length B) h Q)
  null_basis = record { echelon = tail_basis (length B) n h E Q b.echelon hl lower upper; null = λ y ly. (null_of_tails y, tails_of_null y ly) }

pub tails_are_null_basis : (n : ℕ) (B E T : List Row) (Q R : List ℕ) → HasCols n B → IsExtendedBasis n B E Q → AreTails (length B) E Q T R → IsNullBasis n B T R
tails_are_null_basis n B E T Q R cols x t = rw (t.rows, t.columns) (null_basis n B x.listed E Q t.h cols x.extended x.basis t.within t.before t.first)

-- rows of one span have one null space
pub null_basis_of_span : (n : ℕ) (B rows N : List Row) (P : List ℕ) → SameSpan B rows → IsNullBasis n B N P → IsNullBasis n rows N P
null_basis_of_span n B rows N P same b = record {
  echelon = b.echelon;
  null = λ y ly. (
    λ s. null_of_span B rows y (same_span_sym same) ((b.null y ly).0 s),
    λ null. (b.null y ly).1 (null_of_span rows B y same null),
  );
}
