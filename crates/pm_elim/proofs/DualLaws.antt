-- Dual rows: where they are found, and that there is one for each place.
use Rattle.pm_vector.proofs.ConeLaws.{dot_combination_lines, in_line}
use Rattle.pm_vector.proofs.Lists.{Among, all_at, all_from}
use Rattle.pm_vector.proofs.Ring.{neg_one_mul, ring}
use Rattle.pm_vector.proofs.RowLaws.{dot-difference, dot-nil, dot-plus, dot-same, dot-times, dot_comm, entry-difference, entry-opposite, entry-times, length-difference, length-opposite, row_equal}
use Rattle.pm_vector.proofs.Signs.{mul_cancel}
use Rattle.pm_vector.specs.Cones.{InSpan, IsIndependent, combination}
use Rattle.pm_vector.specs.Divisors.{IsPrimitive}
use Rattle.pm_vector.specs.Rows.{Row, difference, dot, entry, opposite}
use Rattle.pm_vector.proofs.PrimitiveLaws.{primitive_unique}
use Rattle.pm_vector.proofs.Columns.{coefficient, column_found, row_cols, zero_at_columns}
use Rattle.pm_vector.proofs.Unique.{at_most, echelon_is_unique}
use Rattle.pm_vector.proofs.Rank.{independent_are_few}
use Rattle.pm_vector.proofs.Spans.{at_place, place_of, same_span, span_at, span_from}
use Rattle.pm_vector.specs.Bases.{column, row_at}
use Rattle.pm_elim.specs.Duals.{DualBasisIsUnique, IsDualBasis, IsDualRow}
use Rattle.pm_vector.specs.Evidence.{IsBasisOf}
use Rattle.pm_vector.specs.NullSpaces.{IsNull, IsNullBasis}
use Rattle.std.proofs.Common.{ap, arith, below_more, inl, inr, refl, subst, sym, ◌∙◌}
use Rattle.std.proofs.lemmas.Bool.{cases_eq, cases_lt}
use Rattle.std.proofs.lemmas.Int.{by_lt_z, ints}
use Rattle.std.proofs.lemmas.List.{ext_get_or, get_or_append_left, get_or_default, get_or_push}
use Rattle.std.proofs.lemmas.List.Edits.{get_or-remove_above, get_or-remove_below, length-remove}
use Rattle.std.specs.Prelude.{Contains, List, [], length, remove, suc, zero, ℕ, ◌++◌, ◌+◌, ◌-◌, ◌<◌, ◌∷◌, ◌≡◌, ◌⊎◌}
use lib.IntN.{neg_ℤ, negsuc, pos, ℤ, ◌*ℤ◌}
use lib.Signed.{◌<ℤ◌, ◌≤ℤ◌}

-- c is one of the columns
abbrev pub IsPivotOf : List ℕ → ℕ → Type 0
IsPivotOf P c = (k : ℕ) × (k < length P) × (column P k ≡ c)

pub pivot_contained : (P : List ℕ) (c : ℕ) → IsPivotOf P c → Contains P c
pivot_contained P c p = (p.0, p.1, get_or_default P p.0 c 0 p.1 ∙ p.2)

pub contained_pivot : (P : List ℕ) (c : ℕ) → Contains P c → IsPivotOf P c
contained_pivot P c p = (p.0, p.1, get_or_default P p.0 0 c p.1 ∙ p.2)

-- ---- the row as it is found, or its opposite
opposite_primitive : (x : Row) → IsPrimitive x → IsPrimitive (opposite x)
opposite_primitive x p = record {
  whole = λ k y l up s. p.whole k (opposite y) (length-opposite y ∙ l ∙ length-opposite x) up (record { at = λ i. let e = simp (entry-opposite, entry-times) at (s.at i) in simp (entry-times, entry-opposite, ring) (omega (arith, ints)) });
}

pub dot-opposite : (a x : Row) → dot a (opposite x) ≡ neg_ℤ (dot a x)
unfolding opposite
dot-opposite a x = dot-times a (negsuc 0) x ∙ neg_one_mul (dot a x)

module _ (n : ℕ) (rows : List Row) (P : List ℕ) (j : ℕ) (x : Row) (cols : length x ≡ n) (p : IsPrimitive x) (others : (i : ℕ) → i < length rows → ¬ (i ≡ j) → dot (row_at rows i) x ≡ pos 0) (some : ¬ (dot (row_at rows j) x ≡ pos 0)) (reduced : (k : ℕ) → k < length P → entry x (column P k) ≡ pos 0) where
  pub dual_as_found : pos 0 ≤ℤ dot (row_at rows j) x → IsDualRow n rows P j x
  dual_as_found h = record {
    cols = cols;
    primitive = p;
    others = others;
    own = by_lt_z (pos 0) (dot (row_at rows j) x) (λ up. up) (λ down. absurd (some (omega (arith, ints))));
    reduced = reduced;
  }

  pub dual_opposite : dot (row_at rows j) x <ℤ pos 0 → IsDualRow n rows P j (opposite x)
  dual_opposite h = record {
    cols = length-opposite x ∙ cols;
    primitive = opposite_primitive x p;
    others = λ i l ne. dot-opposite (row_at rows i) x ∙ (rw (others i l ne) refl);
    own = rw dot-opposite (omega (arith, ints));
    reduced = λ k l. entry-opposite x (column P k) ∙ (rw (reduced k l) refl);
  }

-- ---- the other rows
module _ (rows : List Row) (j : ℕ) (jl : j < length rows) where
  -- a row that is 0 with the other rows, and with this one, is 0 with all
  other_place : (i : ℕ) → i < length rows → ¬ (i ≡ j) → (k : ℕ) × (k < length (remove rows j)) × (row_at (remove rows j) k ≡ row_at rows i)
  other_place i l ne =
      let count = length-remove rows j jl in
      elim (cases_lt i j) [
        | inl below ↦ (i, omega arith, get_or-remove_below rows j [] i below jl)
        | inr above ↦
            let same : i - 1 + 1 ≡ i = omega arith in
            (i - 1, omega arith, get_or-remove_above rows j [] (i - 1) (omega arith) jl ∙ ap (row_at rows) same)
      ]

  pub null_of_others : (x : Row) → IsNull (remove rows j) x → (i : ℕ) → i < length rows → ¬ (i ≡ j) → dot (row_at rows i) x ≡ pos 0
  null_of_others x h i l ne =
      let p = other_place i l ne in
      subst (λ (a : Row). dot a x ≡ pos 0) p.2 (all_at (λ (a : Row). dot a x ≡ pos 0) (at_place (remove rows j) p.0 p.1) h)

  pub null_of_all : (x : Row) → IsNull (remove rows j) x → dot (row_at rows j) x ≡ pos 0 → IsNull rows x
  null_of_all x h own = all_from (λ (a : Row). dot a x ≡ pos 0) rows (λ r m.
      let p = place_of m in
      subst (λ (a : Row). dot a x ≡ pos 0) p.2 (elim (cases_eq p.0 j) [
        | inl same ↦ subst (λ (k : ℕ). dot (row_at rows k) x ≡ pos 0) (sym same) own
        | inr ne ↦ null_of_others x h p.0 p.1 ne
      ]))

  pub others_of_null : (x : Row) → IsNull rows x → IsNull (remove rows j) x
  others_of_null x h = all_from (λ (a : Row). dot a x ≡ pos 0) (remove rows j) (λ r m. all_at (λ (a : Row). dot a x ≡ pos 0) (among_remove m) h)
    where
      among_remove : {r : Row} → Among r (remove rows j) → Among r rows
      among_remove m =
          let p = place_of m in
          let count = length-remove rows j jl in
          elim (cases_lt p.0 j) [
            | inl below ↦ subst (λ (z : Row). Among z rows) (sym (get_or-remove_below rows j [] p.0 below jl) ∙ p.2) (at_place rows p.0 (let l = p.1 in omega arith))
            | inr above ↦ subst (λ (z : Row). Among z rows) (sym (get_or-remove_above rows j [] p.0 above jl) ∙ p.2) (at_place rows (p.0 + 1) (let l = p.1 in omega arith))
          ]

  -- ---- the null spaces of all rows and of the others
  module _ (n : ℕ) (N : List Row) (P : List ℕ) (M : List Row) (Q : List ℕ) (a : IsNullBasis n rows N P) (b : IsNullBasis n (remove rows j) M Q) where
    -- a pivot of the smaller space is one of the larger space
    pivot_kept : (k : ℕ) → k < length P → (t : ℕ) × (t < length M) × (column Q t ≡ column P k)
    pivot_kept k l =
        let as_many = a.echelon.as_many in
        let within : k < length N = omega arith in
        let cols = row_cols n N P a.echelon.basis k within in
        let null = (a.null (row_at N k) cols).0 (span_at k within) in
        column_found n M Q b.echelon (row_at N k) ((b.null (row_at N k) cols).1 (others_of_null (row_at N k) null)) (column P k) (λ d ld. a.echelon.before k d within ld) (a.echelon.positive k within)

    module _ (t : ℕ) (tl : t < length M) (new : ¬ (IsPivotOf P (column Q t))) where
      found_cols : length (row_at M t) ≡ n
      found_cols = row_cols n M Q b.echelon.basis t tl

      pub found_null : IsNull (remove rows j) (row_at M t)
      found_null = (b.null (row_at M t) found_cols).0 (span_at t tl)

      pub found_reduced : (k : ℕ) → k < length P → entry (row_at M t) (column P k) ≡ pos 0
      found_reduced k l =
          let p = pivot_kept k l in
          subst (λ (c : ℕ). entry (row_at M t) c ≡ pos 0) p.2 (b.echelon.reduced t p.0 tl p.1 (λ same. new (k, l, sym p.2 ∙ ap (column Q) (sym same))))

      -- were its product 0, it would lie in the null space of all rows, and its column be a pivot there
      pub found_product : ¬ (dot (row_at rows j) (row_at M t) ≡ pos 0)
      found_product z =
          let inside = (a.null (row_at M t) found_cols).1 (null_of_all (row_at M t) found_null z) in
          let p = column_found n N P a.echelon (row_at M t) inside (column Q t) (λ d ld. b.echelon.before t d tl ld) (b.echelon.positive t tl) in
          let as_many = a.echelon.as_many in
          let l = p.1 in
          new (p.0, omega arith, p.2)

      -- the row with a new pivot, with the sign of its product, is the dual row
      pub is_dual : (x : Row) → ((x ≡ row_at M t) × ¬ (dot (row_at rows j) (row_at M t) <ℤ pos 0)) ⊎ ((x ≡ opposite (row_at M t)) × (dot (row_at rows j) (row_at M t) <ℤ pos 0)) → IsDualRow n rows P j x
      is_dual x (inl s) = rw s.0 (dual_as_found n rows P j (row_at M t) found_cols (b.echelon.primitive t tl) (null_of_others (row_at M t) found_null) found_product found_reduced
          (by_lt_z (dot (row_at rows j) (row_at M t)) (pos 0) (λ down. absurd (s.1 down)) (λ up. up)))
      is_dual x (inr s) = rw s.0 (dual_opposite n rows P j (row_at M t) found_cols (b.echelon.primitive t tl) (null_of_others (row_at M t) found_null) found_product found_reduced s.1)

    -- some pivot of the larger space is new
    pub some_new : length P < length M → ((t : ℕ) → t < length M → IsPivotOf P (column Q t)) → ⊥
    some_new more all =
        let as_many = a.echelon.as_many in
        let few = at_most (column Q) (column P) (length M) (length P) (λ i k l lk. b.echelon.ascending i k l lk) (λ i k l lk. a.echelon.ascending i k l (omega arith)) (λ i l. all i l) in
        omega arith

-- one dual row more
pub duals_more : (n : ℕ) (rows : List Row) (P : List ℕ) (D : List Row) (x : Row) (j : ℕ) → length D ≡ j → ((i : ℕ) → i < j → IsDualRow n rows P i (row_at D i)) → IsDualRow n rows P j x → (i : ℕ) → i < j + 1 → IsDualRow n rows P i (row_at (D ++ x ∷ []) i)
duals_more n rows P D x j count f d = below_more (λ (i : ℕ). IsDualRow n rows P i (row_at (D ++ x ∷ []) i)) j
    (λ i l. rw (get_or_append_left D (x ∷ []) [] i (omega arith)) (f i l))
    (rw (get_or_push D x [] j count) d)

-- ---- rows with dual rows are independent
dot_combination_at : (a : Row) (c : List ℤ) (X : List Row) (j : ℕ) → j < length X → ((i : ℕ) → i < length X → ¬ (i ≡ j) → dot a (row_at X i) ≡ pos 0) → dot a (combination c X) ≡ coefficient c j *ℤ dot a (row_at X j)
unfolding coefficient
dot_combination_at a c [] j l f = absurd (omega arith)
dot_combination_at a [] (x ∷ X) j l f = dot-nil a ∙ (simp ring)
dot_combination_at a (k ∷ c) (x ∷ X) zero l f =
    let rest : dot a (combination c X) ≡ pos 0 = dot_combination_lines a c X (λ g i. let p = place_of i in subst (λ (z : Row). dot a z ≡ pos 0) p.2 (f (suc p.0) (let q = p.1 in omega arith) (λ e. omega arith))) in
    simp (dot-plus, dot-times, rest) (omega (arith, ints))
dot_combination_at a (k ∷ c) (x ∷ X) (suc j) l f =
    let first = f 0 (omega arith) (λ e. omega arith) in
    let rest = dot_combination_at a c X j (omega arith) (λ i li ne. f (suc i) (omega arith) (λ e. ne (omega arith))) in
    simp (dot-plus, dot-times, first, rest, ring) (omega (arith, ints))

pub independent_of_duals : (n : ℕ) (rows D : List Row) → IsDualBasis n rows D → IsIndependent rows
unfolding coefficient
independent_of_duals n rows D b c z j l =
    let d = b.each j l in
    let e = dot_combination_at (row_at D j) c rows j l (λ i li ne. dot_comm (row_at D j) (row_at rows i) ∙ d.others i li ne) in
    let none = dot-same (row_at D j) (combination c rows) [] z ∙ dot-nil (row_at D j) in
    let own = rw dot_comm at d.own in
    mul_cancel own (let s = dot_comm (row_at D j) (row_at rows j) in simp ring (omega (arith, ints)))

-- ---- fewer basis rows than rows: they are dependent
pub dependent_of_fewer : (n : ℕ) (rows B : List Row) (P : List ℕ) → IsBasisOf n rows B P → length B < length rows → ¬ (IsIndependent rows)
dependent_of_fewer n rows B P b less free = let few = independent_are_few rows B free (λ i l. span_from b.span (span_at i l)) in omega arith

-- ---- there is one null basis, and one dual row for each place
pub null_basis_unique : (n : ℕ) (rows N N' : List Row) (P P' : List ℕ) → IsNullBasis n rows N P → IsNullBasis n rows N' P' → (N ≡ N') × (P ≡ P')
null_basis_unique n rows N N' P P' a b = echelon_is_unique n N N' P P' a.echelon b.echelon (same_span N N' (λ r i. inside N N' P P' a b i) (λ r i. inside N' N P' P b a i))
  where
    inside : (M M' : List Row) (Q Q' : List ℕ) → IsNullBasis n rows M Q → IsNullBasis n rows M' Q' → {r : Row} → Among r M → InSpan M' r
    inside M M' Q Q' c d {r} i = let cols = all_at (λ (x : Row). length x ≡ n) i c.echelon.cols in (d.null r cols).1 ((c.null r cols).0 (in_line i))

module _ (n : ℕ) (rows N : List Row) (P : List ℕ) (j : ℕ) (x y : Row) (jl : j < length rows) (b : IsNullBasis n rows N P) (d : IsDualRow n rows P j x) (e : IsDualRow n rows P j y) where
  abbrev apart : Row
  apart = difference (dot (row_at rows j) y) x (dot (row_at rows j) x) y

  apart_product : (i : ℕ) → i < length rows → dot (row_at rows i) apart ≡ pos 0
  apart_product i l = dot-difference (row_at rows i) (dot (row_at rows j) y) x (dot (row_at rows j) x) y ∙ (elim (cases_eq i j) [
    | inl same ↦ rw same (omega (arith, ints))
    | inr ne ↦ (let p = d.others i l ne in let q = e.others i l ne in simp (p, q, ring))
  ])

  apart_inside : InSpan N apart
  apart_inside = (b.null apart (length-difference n (dot (row_at rows j) y) x (dot (row_at rows j) x) y d.cols e.cols)).1
      (all_from (λ (a : Row). dot a apart ≡ pos 0) rows (λ r i. let p = place_of i in subst (λ (a : Row). dot a apart ≡ pos 0) p.2 (apart_product p.0 p.1)))

  apart_reduced : (k : ℕ) → k < length N → entry apart (column P k) ≡ pos 0
  apart_reduced k l =
      let as_many = b.echelon.as_many in
      let p = d.reduced k (omega arith) in
      let q = e.reduced k (omega arith) in
      entry-difference (dot (row_at rows j) y) x (dot (row_at rows j) x) y (column P k) ∙ (simp (p, q, ring))

  pub dual_row_unique : x ≡ y
  dual_row_unique =
      row_equal x y (d.cols ∙ sym e.cols)
      (primitive_unique n (dot (row_at rows j) y) (dot (row_at rows j) x) x y d.cols e.cols e.own d.own d.primitive e.primitive
      (λ c. let z = simp entry-difference at (zero_at_columns n N P b.echelon.basis apart apart_inside apart_reduced c) in omega (arith, ints)))

pub dual_basis_is_unique : DualBasisIsUnique
dual_basis_is_unique n rows D D' b c =
    let pivots = (null_basis_unique n rows b.null c.null b.pivots c.pivots b.null_basis c.null_basis).1 in
    ext_get_or [] D D' (b.as_many ∙ sym c.as_many) (λ i l.
    let as_many = b.as_many in
    let other = rw (← pivots) at (c.each i (omega arith)) in
    dual_row_unique n rows b.null b.pivots i (row_at D i) (row_at D' i) (omega arith) b.null_basis (b.each i (omega arith)) other)
