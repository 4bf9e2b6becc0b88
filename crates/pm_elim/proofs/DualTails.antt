-- The dual rows of all places, in the echelon basis of the extended list of the rows: where its first pivots are the
-- first columns, the tails of its first rows have a product with one of the rows alone.
use Rattle.pm_vector.proofs.Ring.{ring}
use Rattle.pm_vector.proofs.RowLaws.{dot-nil, dot-same, dot-times, entry-times}
use Rattle.pm_vector.proofs.Columns.{row_cols}
use Rattle.pm_vector.proofs.Signs.{mul_cancel, pos_cancel}
use Rattle.pm_vector.proofs.Spans.{span_at, span_to}
use Rattle.pm_vector.specs.Bases.{column, row_at}
use Rattle.pm_vector.specs.Cones.{InSpan}
use Rattle.pm_vector.specs.Divisors.{IsPrimitive, IsPrimitiveOf}
use Rattle.pm_vector.specs.Rows.{HasCols, IsZero, Row, Same, dot, entry, times}
use Rattle.pm_elim.proofs.ExtendedLaws.{products_of_span}
use Rattle.pm_elim.proofs.NullLaws.{tails_are_null_basis}
use Rattle.pm_elim.proofs.TailLaws.{late, tail_column}
use Rattle.pm_elim.specs.Duals.{IsDualBasis, IsDualRow}
use Rattle.pm_vector.specs.Evidence.{IsBasisOf, IsExtended}
use Rattle.pm_elim.specs.ExtendedLists.{tail_columns, tails}
use Rattle.pm_vector.specs.NullSpaces.{IsNullBasis}
use Rattle.std.proofs.Common.{ap, arith, inl, inr, refl, sym, ◌∙◌}
use Rattle.std.proofs.lemmas.Bool.{cases_lt}
use Rattle.std.proofs.lemmas.Int.{ints}
use Rattle.std.proofs.lemmas.List.{get_or-drop, get_or-take, length-drop, length-map, length-take-le}
use Rattle.std.specs.Prelude.{List, [], drop, length, take, ℕ, ◌+◌, ◌-◌, ◌<◌, ◌≡◌, ◌≤◌}
use lib.IntN.{pos, ℤ, ◌*ℤ◌}
use lib.Signed.{◌<ℤ◌}

zero_cancel : (g d : ℤ) → pos 0 <ℤ g → g *ℤ d ≡ pos 0 → d ≡ pos 0
zero_cancel g d up e = mul_cancel up (simp ring e)

-- ---- products and entries of a primitive row are 0 or positive as those of the row in whose direction it is
module _ (y w : Row) (p : IsPrimitiveOf y w) (some : ¬ (IsZero y)) where
  divided : (g : ℤ) × (pos 0 <ℤ g) × Same y (times g w) × IsPrimitive w
  divided = elim p.divided [ inl z ↦ absurd (some z.0) | inr d ↦ d ]

  multiple : (a : Row) → dot a y ≡ divided.0 *ℤ dot a w
  multiple a = dot-same a y (times divided.0 w) (λ i. divided.2.at i) ∙ dot-times a divided.0 w

  product_zero : (a : Row) → dot a y ≡ pos 0 → dot a w ≡ pos 0
  product_zero a z = zero_cancel divided.0 (dot a w) divided.1 (sym (multiple a) ∙ z)

  product_positive : (a : Row) → pos 0 <ℤ dot a y → pos 0 <ℤ dot a w
  product_positive a up = pos_cancel divided.1 (rw (multiple a) at up)

  entry_zero : (c : ℕ) → entry y c ≡ pos 0 → entry w c ≡ pos 0
  entry_zero c z = zero_cancel divided.0 (entry w c) divided.1 (sym (divided.2.at c ∙ entry-times divided.0 w c) ∙ z)

module _ (n : ℕ) (rows X E : List Row) (Q : List ℕ) (cols : HasCols n rows) (x : IsExtended n rows X)
    (b : IsBasisOf (length rows + n) X E Q)
    (first : (i : ℕ) → i < length rows → (i < length Q) × (column Q i ≡ i)) where
  in_basis : (i : ℕ) → i < length rows → i < length E
  in_basis i l = let a = b.echelon.as_many in let f = (first i l).0 in omega arith

  -- ---- the rest of the basis is the null space
  enough : length rows ≤ length E
  enough = elim (cases_lt 0 (length rows)) [
    | inl some ↦ (let l = in_basis (length rows - 1) (omega arith) in omega arith)
    | inr none ↦ omega arith
  ]

  lower : (i : ℕ) → i < length rows → column Q i < length rows
  lower i l = rw (first i l).1 l

  upper : length rows < length Q → length rows ≤ column Q (length rows)
  upper more = elim (cases_lt 0 (length rows)) [
    | inl some ↦
        let a = b.echelon.as_many in
        let f = (first (length rows - 1) (omega arith)).1 in
        let s = b.echelon.ascending (length rows - 1) (length rows) (omega arith) (omega arith) in
        omega arith
    | inr none ↦ omega arith
  ]

  abbrev rest : List Row
  rest = tails (length rows) (length rows) E

  abbrev rest_columns : List ℕ
  rest_columns = tail_columns (length rows) (length rows) Q

  rest_is_null : IsNullBasis n rows rest rest_columns
  rest_is_null =
      tails_are_null_basis n rows E rest Q rest_columns cols (record { listed = X; extended = x; basis = b })
      (record { h = length rows; within = enough; before = lower; first = upper; rows = refl; columns = refl })

  -- ---- the tail of the row at j
  module _ (j : ℕ) (jl : j < length rows) where
    abbrev tail : Row
    tail = drop (length rows) (row_at E j)

    inside : InSpan X (row_at E j)
    inside = span_to b.span (span_at j (in_basis j jl))

    product : (i : ℕ) → i < length rows → dot (row_at rows i) tail ≡ entry (row_at E j) (column Q i)
    product i l =
        sym (products_of_span n rows X cols x (row_at E j) inside i l)
        ∙ ap (entry (row_at E j)) (sym (first i l).1)

    other_product : (i : ℕ) → i < length rows → ¬ (i ≡ j) → dot (row_at rows i) tail ≡ pos 0
    other_product i l ne = product i l ∙ b.echelon.reduced j i (in_basis j jl) (in_basis i l) (λ s. ne (sym s))

    own_product : pos 0 <ℤ dot (row_at rows j) tail
    own_product = rw (product j jl) (b.echelon.positive j (in_basis j jl))

    tail_not_zero : ¬ (IsZero tail)
    tail_not_zero z =
        let own = own_product in
        let none = dot-same (row_at rows j) tail [] z ∙ dot-nil (row_at rows j) in
        omega (arith, ints)

    tail_reduced : (t : ℕ) → t < length rest_columns
        → entry tail (column rest_columns t) ≡ pos 0
    tail_reduced t l =
        let a = b.echelon.as_many in
        let count = simp (length-map, length-drop) at l in
        let within : length rows + t < length E = omega arith in
        let u = late (length rows) n (length rows) E Q b.echelon enough lower upper (length rows + t) (omega arith)
        within in
        let c : length rows + (column Q (length rows + t) - length rows) ≡ column Q (length rows + t) = omega arith in
        let more : t < length rest = simp (length-map, length-drop) (omega arith) in
        let here = tail_column (length rows) n (length rows) E Q b.echelon enough lower upper t more in
        ap (entry tail) here
        ∙ get_or-drop (length rows) (row_at E j) (column Q (length rows + t) - length rows) (pos 0)
        ∙ ap (entry (row_at E j)) c
        ∙ b.echelon.reduced j (length rows + t) (in_basis j jl) within (λ s. omega arith)

    tail_cols : length tail ≡ n
    tail_cols =
        let r = row_cols (length rows + n) E Q b.echelon.basis j (in_basis j jl) in
        let d = length-drop (length rows) (row_at E j) in
        omega arith

    pub dual_of_tail : (w : Row) → IsPrimitiveOf tail w → IsDualRow n rows rest_columns j w
    dual_of_tail w p = record {
      cols = p.cols ∙ tail_cols;
      primitive = (divided tail w p tail_not_zero).3;
      others = λ i l ne. product_zero tail w p tail_not_zero (row_at rows i) (other_product i l ne);
      own = product_positive tail w p tail_not_zero (row_at rows j) own_product;
      reduced = λ t l. entry_zero tail w p tail_not_zero (column rest_columns t) (tail_reduced t l);
    }

  -- ---- the tails of the first rows, made primitive
  taken : length (take (length rows) E) ≡ length rows
  taken = length-take-le (length rows) E enough

  pub duals_of_tails : (D : List Row) → length D ≡ length (take (length rows) E)
      → ((i : ℕ) → i < length (take (length rows) E)
      → IsPrimitiveOf (drop (length rows) (row_at (take (length rows) E) i)) (row_at D i))
      → IsDualBasis n rows D
  duals_of_tails D as_many each = record {
    null = rest;
    pivots = rest_columns;
    null_basis = rest_is_null;
    as_many = as_many ∙ taken;
    each = λ j l. dual_of_tail j l (row_at D j) (rw (get_or-take (length rows) E j [] l) at (each j (rw taken l)));
  }
