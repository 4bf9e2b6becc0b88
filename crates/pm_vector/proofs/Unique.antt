-- The reduced echelon basis of a span is unique, and a reduced basis is determined by its columns.
use Rattle.pm_vector.proofs.PrimitiveLaws.{primitive_unique}
use Rattle.pm_vector.proofs.Ring.{ring}
use Rattle.pm_vector.proofs.RowLaws.{entry-difference, row_equal}
use Rattle.pm_vector.specs.Cones.{InSpan}
use Rattle.pm_vector.specs.Rows.{Row, Same, difference, entry}
use Rattle.pm_vector.proofs.Columns.{column_found, row_cols, zero_at_columns}
use Rattle.pm_vector.proofs.Spans.{same_span_sym, span_at, span_difference, span_from, span_to}
use Rattle.pm_vector.specs.Bases.{IsEchelonBasis, IsReducedBasis, SameSpan, column, row_at}
use Rattle.pm_vector.specs.Laws.{EchelonIsUnique, ReducedIsUnique}
use Rattle.std.proofs.Common.{ap, arith, refl, subst, sym, ◌∙◌}
use Rattle.std.proofs.lemmas.Int.{ints}
use Rattle.std.proofs.lemmas.List.{ext_get_or}
use Rattle.std.specs.Prelude.{List, [], length, suc, zero, ℕ, ◌-◌, ◌<◌, ◌≡◌, ◌≤◌}
use lib.IntN.{pos}
use lib.Signed.{◌<ℤ◌}
use native.Mathlib.Decide.{dec_lt, ℕ_discrete}

-- ---- ascending columns with the same members
module _ (a b : ℕ → ℕ) (m m' : ℕ) (up : (i j : ℕ) → i < j → j < m → a i < a j) (up' : (i j : ℕ) → i < j → j < m' → b i < b j) (cover : (i : ℕ) → i < m → (j : ℕ) × (j < m') × (b j ≡ a i)) where
  at_least : (i j : ℕ) → i < m → j < m' → b j ≡ a i → i ≤ j
  at_least zero j li lj e = omega arith
  at_least (suc i) j li lj e =
      let w = cover i (omega arith) in
      let h = at_least i w.0 (omega arith) w.1 w.2 in
      let g = up i (suc i) (omega arith) li in
      let k = w.2 in
      elim (dec_lt w.0 j) [
        | yes l ↦ omega arith
        | no nl ↦ absurd (elim (ℕ_discrete w.0 j) [
          | yes q ↦ (let r = ap b q in omega arith)
          | no nq ↦ (let r = up' j w.0 (omega arith) w.1 in omega arith)
        ])
      ]

  pub at_most : m ≤ m'
  at_most = elim (ℕ_discrete m 0) [
    | yes e ↦ omega arith
    | no ne ↦ (let w = cover (m - 1) (omega arith) in let l = w.1 in let h = at_least (m - 1) w.0 (omega arith) w.1 w.2 in omega arith)
  ]

same_columns : (a b : ℕ → ℕ) (m m' : ℕ) → ((i j : ℕ) → i < j → j < m → a i < a j) → ((i j : ℕ) → i < j → j < m' → b i < b j) → ((i : ℕ) → i < m → (j : ℕ) × (j < m') × (b j ≡ a i)) → ((j : ℕ) → j < m' → (i : ℕ) × (i < m) × (a i ≡ b j)) → (m ≡ m') × ((i : ℕ) → i < m → a i ≡ b i)
same_columns a b m m' up up' cover cover' =
    let h = at_most a b m m' up up' cover in
    let k = at_most b a m' m up' up cover' in (
      omega arith,
      λ i li.
          let w = cover i li in
          let v = cover' i (omega arith) in
          let p = at_least a b m m' up up' cover i w.0 li w.1 w.2 in
          let q = at_least b a m' m up' up cover' i v.0 (omega arith) v.1 v.2 in
          let x : a i ≤ a v.0 = elim (ℕ_discrete i v.0) [ yes e ↦ (let r = ap a e in omega arith) | no ne ↦ (let r = up i v.0 (omega arith) v.1 in omega arith) ] in
          let y : b i ≤ b w.0 = elim (ℕ_discrete i w.0) [ yes e ↦ (let r = ap b e in omega arith) | no ne ↦ (let r = up' i w.0 (omega arith) w.1 in omega arith) ] in
          let e = w.2 in
          let f = v.2 in
          omega arith,
    )

-- ---- rows of two reduced bases with a common column
module _ (n : ℕ) (R R' : List Row) (P P' : List ℕ) (e : IsReducedBasis n R P) (e' : IsReducedBasis n R' P') (s : SameSpan R R') where
  -- the rows at i and j are the same, where j has the column of i, and is 0 at the other columns of R
  same_row : (i j : ℕ) → i < length R → j < length R' → column P' j ≡ column P i → ((k : ℕ) → k < length R → ¬ (k ≡ i) → entry (row_at R' j) (column P k) ≡ pos 0) → Same (row_at R i) (row_at R' j)
  same_row i j li lj q others =
      let p1 : pos 0 <ℤ entry (row_at R' j) (column P i) = subst (λ c. pos 0 <ℤ entry (row_at R' j) c) q (e'.positive j lj) in
      let p2 = e.positive i li in
      let x = difference (entry (row_at R' j) (column P i)) (row_at R i) (entry (row_at R i) (column P i)) (row_at R' j) in
      let h : InSpan R x = span_difference (entry (row_at R' j) (column P i)) (entry (row_at R i) (column P i)) (span_at i li) (span_from s (span_at j lj)) in
      let z = zero_at_columns n R P e x h zero_at in
      primitive_unique n (entry (row_at R' j) (column P i)) (entry (row_at R i) (column P i)) (row_at R i) (row_at R' j) (row_cols n R P e i li) (row_cols n R' P' e' j lj) p1 p2 (e.primitive i li) (e'.primitive j lj)
      (λ c. let g = simp entry-difference at (z c) in omega (arith, ints))
    where
      zero_at : (k : ℕ) → k < length R → entry (difference (entry (row_at R' j) (column P i)) (row_at R i) (entry (row_at R i) (column P i)) (row_at R' j)) (column P k) ≡ pos 0
      zero_at k lk = elim (ℕ_discrete k i) [
        | yes t ↦ subst (λ m. entry (difference (entry (row_at R' j) (column P i)) (row_at R i) (entry (row_at R i) (column P i)) (row_at R' j)) (column P m) ≡ pos 0) (sym t) (simp (entry-difference, ring) (omega (arith, ints)))
        | no ns ↦
            let a = e.reduced i k li lk (λ t. ns (sym t)) in
            let b = others k lk ns in
            simp (entry-difference, a, b, ring)
      ]

module _ (n : ℕ) (R R' : List Row) (P P' : List ℕ) (e : IsEchelonBasis n R P) (e' : IsEchelonBasis n R' P') (s : SameSpan R R') where
  pivot_found : (i : ℕ) → i < length R → (j : ℕ) × (j < length R') × (column P' j ≡ column P i)
  pivot_found i l = column_found n R' P' e' (row_at R i) (span_to s (span_at i l)) (column P i) (λ d ld. e.before i d l ld) (e.positive i l)

  distinct : (i k : ℕ) → i < length R → k < length R → column P i ≡ column P k → i ≡ k
  distinct i k li lk q = elim (dec_lt i k) [
    | yes l ↦ absurd (let u = e.ascending i k l lk in omega arith)
    | no nl ↦ elim (dec_lt k i) [ yes m ↦ absurd (let u = e.ascending k i m li in omega arith) | no nm ↦ omega arith ]
  ]

  -- at the other columns of R the row of R' with the column of i is 0
  others_zero : (i j : ℕ) → i < length R → j < length R' → column P' j ≡ column P i → (k : ℕ) → k < length R → ¬ (k ≡ i) → entry (row_at R' j) (column P k) ≡ pos 0
  others_zero i j li lj q k lk ns =
      let w = pivot_found k lk in
      subst (λ c. entry (row_at R' j) c ≡ pos 0) w.2 (e'.reduced j w.0 lj w.1 (λ t. ns (distinct k i lk li (sym w.2 ∙ ap (column P') (sym t) ∙ q))))

pub echelon_is_unique : EchelonIsUnique
echelon_is_unique n R R' P P' e e' s =
    let (len, cols) = same_columns (column P) (column P') (length R) (length R') e.ascending e'.ascending (pivot_found n R R' P P' e e' s) (pivot_found n R' R P' P e' e (same_span_sym s)) in (
      ext_get_or [] R R' len (λ i l. row_equal (row_at R i) (row_at R' i) (row_cols n R P e.basis i l ∙ sym (row_cols n R' P' e'.basis i (omega arith))) (same_row n R R' P P' e.basis e'.basis s i i l (omega arith) (sym (cols i l)) (others_zero n R R' P P' e e' s i i l (omega arith) (sym (cols i l))))),
      ext_get_or 0 P P' (e.as_many ∙ len ∙ sym e'.as_many) (λ i l. cols i (let a = e.as_many in omega arith)),
    )

pub reduced_is_unique : ReducedIsUnique
reduced_is_unique n R R' P e e' s =
    let len : length R ≡ length R' = sym e.as_many ∙ e'.as_many in
    ext_get_or [] R R' len (λ i l.
    let l' : i < length R' = omega arith in
    row_equal (row_at R i) (row_at R' i) (row_cols n R P e i l ∙ sym (row_cols n R' P e' i l'))
    (same_row n R R' P P e e' s i i l l' refl (λ k lk ns. e'.reduced i k l' (omega arith) (λ t. ns (sym t)))))
