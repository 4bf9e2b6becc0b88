-- The first phase: its objective is the opposite of the auxiliary variable, in every dictionary.
use Rattle.pm_vector.proofs.ConeLaws.{in_plus}
use Rattle.pm_vector.proofs.Ring.{ring}
use Rattle.pm_vector.proofs.RowLaws.{entry-plus, entry-times}
use Rattle.pm_vector.proofs.Signs.{mul_cancel, mul_nonneg, mul_pos, nonneg_cancel, pos_cancel}
use Rattle.pm_vector.specs.Cones.{InSpan}
use Rattle.pm_vector.specs.Rows.{Row, entry, plus, times}
use Rattle.pm_vector.proofs.Spans.{span_at, span_from, span_times}
use Rattle.pm_vector.specs.Bases.{column, row_at}
use Rattle.pm_simplex.proofs.Infeasible.{auxiliary_is_signed}
use Rattle.pm_programs.proofs.Tableaux.{zero_in_columns}
use Rattle.pm_simplex.specs.Comparisons.{direction, rows_of}
use Rattle.pm_programs.specs.Dictionaries.{at}
use Rattle.pm_simplex.specs.Phases.{IsPhaseSystem, PhaseIsBounded, PhaseIsLeast}
use Rattle.pm_simplex.specs.Running.{IsFreeColumn, IsSlackColumn, IsState}
use Rattle.pm_simplex.specs.States.{auxiliary, is_signed, phase_column}
use Rattle.pm_simplex.specs.declared.dictionary.Dictionary.{Dictionary}
use Rattle.pm_simplex.specs.declared.layout.Layout.{Layout}
use Rattle.std.proofs.Common.{ap, arith, inl, inr, subst, sym, ◌∙◌}
use Rattle.std.proofs.lemmas.Int.{ints}
use Rattle.std.specs.Prelude.{Bool, IsTrue, List, length, suc, true, zero, ℕ, ◌<◌, ◌≡◌, ◌⊎◌}
use lib.IntN.{neg_ℤ, negsuc, pos, ℤ, ◌*ℤ◌, ◌+ℤ◌}
use lib.Signed.{◌<ℤ◌, ◌≤ℤ◌}
use native.Mathlib.Decide.{ℕ_discrete}

-- the column of a variable that may enter
plain_column : (y : Layout) (c : ℕ) → (IsFreeColumn y c ⊎ IsSlackColumn y c) → (¬ (c ≡ auxiliary y)) × (¬ (c ≡ phase_column y))
plain_column y c (inl f) = (λ e. (let a = f.1 in omega arith), λ e. (let a = f.1 in omega arith))
plain_column y c (inr s) = (λ e. (let a = s.1 in omega arith), λ e. (let a = s.1 in omega arith))

-- opposite numbers
flip : (n m e dt p q f dw : ℤ) → pos 0 <ℤ dt → pos 0 <ℤ dw → n *ℤ dt ≡ neg_ℤ e *ℤ m → p *ℤ dw ≡ neg_ℤ f *ℤ q → dw *ℤ e +ℤ dt *ℤ f ≡ pos 0 → n *ℤ q ≡ neg_ℤ (p *ℤ m)
flip n m e dt p q f dw ht hw en ep h =
    mul_cancel (mul_pos ht hw)
    (let a = simp ring at (ap (λ z. (q *ℤ dw) *ℤ z) en) in
    let b = simp ring at (ap (λ z. (m *ℤ dt) *ℤ z) ep) in
    let c = simp ring at (ap (λ z. (m *ℤ q) *ℤ z) h) in
    simp ring (omega (arith, ints)))

module _ (y : Layout) (S : List Row) (d : Dictionary) (w : ℕ) (sys : IsPhaseSystem y S) (st : IsState y S d w) (ow : column d.basis.items w ≡ phase_column y) where
  wide : (i : ℕ) → i < length d.basis.items → i < length st.dictionary.whole
  wide i li = let a = st.dictionary.tableau.tableau.as_many in omega arith

  in_basis : (j : ℕ) → j < length st.dictionary.whole → j < length d.basis.items
  in_basis j lj = let a = st.dictionary.tableau.tableau.as_many in omega arith

  dw : pos 0 <ℤ entry (row_at st.dictionary.whole w) (column d.basis.items w)
  dw = st.dictionary.tableau.tableau.positive w (wide w st.within)

  equation : InSpan st.dictionary.whole (row_at S sys.place)
  equation = span_from st.dictionary.tableau.span (span_at sys.place sys.within)

  -- a column of the basis is that of the row i only at i
  only_at : (i j c : ℕ) → i < length d.basis.items → j < length d.basis.items → column d.basis.items i ≡ c → ¬ (j ≡ i) → ¬ (column d.basis.items j ≡ c)
  only_at i j c li lj e n q =
      let a = st.dictionary.tableau.tableau.positive i (wide i li) in
      let b = subst (λ v. entry (row_at st.dictionary.whole i) v ≡ pos 0) (q ∙ sym e) (st.dictionary.tableau.tableau.solved i j (wide i li) (wide j lj) (λ u. n (sym u))) in
      omega (arith, ints)

  module _ (r : ℕ) (lr : r < length d.basis.items) (or' : column d.basis.items r ≡ auxiliary y) where
    dt : pos 0 <ℤ entry (row_at st.dictionary.whole r) (column d.basis.items r)
    dt = st.dictionary.tableau.tableau.positive r (wide r lr)

    Tt : ℤ
    Tt = entry (row_at st.dictionary.whole r) (column d.basis.items r)

    apart_rows : ¬ (r ≡ w)
    apart_rows q = let e = ap (column d.basis.items) q in omega arith

    sum_zero : (v : ℕ) → entry (plus (plus (times (entry (row_at st.dictionary.whole w) (column d.basis.items w)) (row_at st.dictionary.whole r)) (times (entry (row_at st.dictionary.whole r) (column d.basis.items r)) (row_at st.dictionary.whole w))) (times (entry (row_at st.dictionary.whole r) (column d.basis.items r) *ℤ entry (row_at st.dictionary.whole w) (column d.basis.items w)) (row_at S sys.place))) v ≡ pos 0
    sum_zero v =
        zero_in_columns d.basis.items st.dictionary.whole st.dictionary.tableau.tableau _
        (in_plus (in_plus (span_times _ (span_at r (wide r lr))) (span_times _ (span_at w (wide w st.within)))) (span_times _ equation)) at_basic v
      where
        entries : (a b : ℤ) (v : ℕ) → entry (plus (plus (times b (row_at st.dictionary.whole r)) (times a (row_at st.dictionary.whole w))) (times (a *ℤ b) (row_at S sys.place))) v
            ≡ b *ℤ entry (row_at st.dictionary.whole r) v +ℤ a *ℤ entry (row_at st.dictionary.whole w) v +ℤ (a *ℤ b) *ℤ entry (row_at S sys.place) v
        entries a b v = simp (entry-plus, entry-times)

        first : (a b t u x : ℤ) → t ≡ a → u ≡ pos 0 → x ≡ negsuc 0 → b *ℤ t +ℤ a *ℤ u +ℤ (a *ℤ b) *ℤ x ≡ pos 0
        first a b t u x e f g = rw (e, f, g) (let m : (a *ℤ b) *ℤ negsuc 0 ≡ neg_ℤ (a *ℤ b) = omega (arith, ints) in let z : a *ℤ pos 0 ≡ pos 0 = simp ring in omega (arith, ints))

        second : (a b t u x : ℤ) → t ≡ pos 0 → u ≡ b → x ≡ negsuc 0 → b *ℤ t +ℤ a *ℤ u +ℤ (a *ℤ b) *ℤ x ≡ pos 0
        second a b t u x e f g = rw (e, f, g) (let m : (a *ℤ b) *ℤ negsuc 0 ≡ neg_ℤ (a *ℤ b) = omega (arith, ints) in let z : b *ℤ pos 0 ≡ pos 0 = simp ring in omega (arith, ints))

        none : (a b t u x : ℤ) → t ≡ pos 0 → u ≡ pos 0 → x ≡ pos 0 → b *ℤ t +ℤ a *ℤ u +ℤ (a *ℤ b) *ℤ x ≡ pos 0
        none a b t u x e f g = rw (e, f, g) (simp ring)

        at_basic : (j : ℕ) → j < length st.dictionary.whole → entry (plus (plus (times (entry (row_at st.dictionary.whole w) (column d.basis.items w)) (row_at st.dictionary.whole r)) (times (entry (row_at st.dictionary.whole r) (column d.basis.items r)) (row_at st.dictionary.whole w))) (times (entry (row_at st.dictionary.whole r) (column d.basis.items r) *ℤ entry (row_at st.dictionary.whole w) (column d.basis.items w)) (row_at S sys.place))) (column d.basis.items j) ≡ pos 0
        at_basic j lj = entries (entry (row_at st.dictionary.whole r) (column d.basis.items r)) (entry (row_at st.dictionary.whole w) (column d.basis.items w)) (column d.basis.items j) ∙ elim (ℕ_discrete j r) [
          | yes q ↦ first _ _ _ _ _ (ap (λ i. entry (row_at st.dictionary.whole r) (column d.basis.items i)) q) (st.dictionary.tableau.tableau.solved w j (wide w st.within) lj (λ u. apart_rows (sym q ∙ sym u))) (ap (λ i. entry (row_at S sys.place) (column d.basis.items i)) q ∙ ap (entry (row_at S sys.place)) or' ∙ sys.auxiliary_entry)
          | no nr ↦ elim (ℕ_discrete j w) [
            | yes q ↦ second _ _ _ _ _ (st.dictionary.tableau.tableau.solved r j (wide r lr) lj (λ u. nr (sym u))) (ap (λ i. entry (row_at st.dictionary.whole w) (column d.basis.items i)) q) (ap (λ i. entry (row_at S sys.place) (column d.basis.items i)) q ∙ ap (entry (row_at S sys.place)) ow ∙ sys.phase_entry)
            | no nw ↦ none _ _ _ _ _ (st.dictionary.tableau.tableau.solved r j (wide r lr) lj (λ u. nr (sym u))) (st.dictionary.tableau.tableau.solved w j (wide w st.within) lj (λ u. nw (sym u)))
                (sys.zero (column d.basis.items j) (only_at r j (auxiliary y) lr (in_basis j lj) or' nr) (only_at w j (phase_column y) st.within (in_basis j lj) ow nw))
          ]
        ]

    opposite_rows : (v : ℕ) → ¬ (v ≡ auxiliary y) → ¬ (v ≡ phase_column y) → entry (row_at st.dictionary.whole w) (column d.basis.items w) *ℤ entry (row_at st.dictionary.whole r) v +ℤ entry (row_at st.dictionary.whole r) (column d.basis.items r) *ℤ entry (row_at st.dictionary.whole w) v ≡ pos 0
    opposite_rows v na np = read (entry (row_at st.dictionary.whole r) (column d.basis.items r)) (entry (row_at st.dictionary.whole w) (column d.basis.items w)) (entry (row_at st.dictionary.whole r) v) (entry (row_at st.dictionary.whole w) v) (entry (row_at S sys.place) v) (let e = sum_zero v in simp (entry-plus, entry-times) at e) (sys.zero v na np)
      where
        read : (a b t u x : ℤ) → b *ℤ t +ℤ a *ℤ u +ℤ (a *ℤ b) *ℤ x ≡ pos 0 → x ≡ pos 0 → b *ℤ t +ℤ a *ℤ u ≡ pos 0
        read a b t u x e f = let g = ap (λ z. (a *ℤ b) *ℤ z) f in let z : (a *ℤ b) *ℤ pos 0 ≡ pos 0 = simp ring in omega (arith, ints)

    pub flipped : (k : ℕ) → k < length d.others.items → (IsFreeColumn y (column d.others.items k) ⊎ IsSlackColumn y (column d.others.items k))
        → (at (rows_of d) r k).num *ℤ (at (rows_of d) w k).den ≡ neg_ℤ ((at (rows_of d) w k).num *ℤ (at (rows_of d) r k).den)
    flipped k lk h =
        let p = plain_column y (column d.others.items k) h in
        flip (at (rows_of d) r k).num (at (rows_of d) r k).den (entry (row_at st.dictionary.whole r) (column d.others.items k)) (entry (row_at st.dictionary.whole r) (column d.basis.items r))
        (at (rows_of d) w k).num (at (rows_of d) w k).den (entry (row_at st.dictionary.whole w) (column d.others.items k)) (entry (row_at st.dictionary.whole w) (column d.basis.items w))
        dt dw (st.dictionary.entries r k lr lk).same (st.dictionary.entries w k st.within lk).same (opposite_rows (column d.others.items k) p.0 p.1)

pub phase_is_least : PhaseIsLeast
phase_is_least y S d w r sys st ow lr or' opt = record {
  within = lr;
  auxiliary_row = or';
  free = λ i hi li f. zero_num _ _ _ _ (flipped y S d w sys st ow r lr or' i li (inl f)) (opt.free i hi li f) (st.dictionary.entries w i st.within li).reduced.positive;
  slack = λ i hi li s. up_num _ _ _ _ (flipped y S d w sys st ow r lr or' i li (inr s)) (opt.slack i hi li s) (st.dictionary.entries w i st.within li).reduced.positive (st.dictionary.entries r i lr li).reduced.positive;
}
  where
    zero_num : (n q p m : ℤ) → n *ℤ q ≡ neg_ℤ (p *ℤ m) → p ≡ pos 0 → pos 0 <ℤ q → n ≡ pos 0
    zero_num n q p m e h hq = mul_cancel hq (let f = ap (λ z. z *ℤ m) h in let z : pos 0 *ℤ m ≡ pos 0 = simp ring in let u : q *ℤ pos 0 ≡ pos 0 = simp ring in omega (arith, ints))

    up_num : (n q p m : ℤ) → n *ℤ q ≡ neg_ℤ (p *ℤ m) → p ≤ℤ pos 0 → pos 0 <ℤ q → pos 0 <ℤ m → pos 0 ≤ℤ n
    up_num n q p m e h hq hm =
        let a : pos 0 ≤ℤ neg_ℤ p = omega (arith, ints) in
        let m0 : pos 0 ≤ℤ m = omega (arith, ints) in
        let b = simp ring at (mul_nonneg m0 a) in
        nonneg_cancel hq (omega (arith, ints))

-- ---- the first phase has a bound
search_basis : (m : ℕ) (P : List ℕ) (c : ℕ) → ((j : ℕ) × (j < m) × (column P j ≡ c)) ⊎ ((j : ℕ) → j < m → ¬ (column P j ≡ c))
search_basis zero P c = inr (λ j l e. omega arith)
search_basis (suc m) P c = elim (ℕ_discrete (column P m) c) [
  | yes e ↦ inl (m, omega arith, e)
  | no ne ↦ elim (search_basis m P c) [
    | inl u ↦ inl (u.0, (let l = u.1 in omega arith), u.2)
    | inr f ↦ inr (λ j l. elim (ℕ_discrete j m) [ yes e ↦ (λ g. ne (ap (column P) (sym e) ∙ g)) | no nj ↦ f j (omega arith) ])
  ]
]

sign_turned : (s n q p m : ℤ) → n *ℤ q ≡ neg_ℤ (p *ℤ m) → pos 0 <ℤ (s *ℤ p) → pos 0 <ℤ q → pos 0 <ℤ m → (s *ℤ n) <ℤ pos 0
sign_turned s n q p m e h hq hm =
    let a = simp ring at (mul_pos hm h) in
    let f = simp ring at (ap (λ z. s *ℤ z) e) in
    let b : pos 0 <ℤ neg_ℤ (s *ℤ n) = pos_cancel hq (simp ring (omega (arith, ints))) in
    omega (arith, ints)

may_enter_plain : (y : Layout) (c : ℕ) (up : Bool) → (IsFreeColumn y c ⊎ (IsSlackColumn y c × (up ≡ true))) → IsFreeColumn y c ⊎ IsSlackColumn y c
may_enter_plain y c up (inl f) = inl f
may_enter_plain y c up (inr s) = inr s.0

-- the auxiliary variable is not in the basis: the row of the phase's objective is 0 in the columns that may enter
module _ (y : Layout) (S : List Row) (d : Dictionary) (w : ℕ) (sys : IsPhaseSystem y S) (st : IsState y S d w) (ow : column d.basis.items w ≡ phase_column y) (outside : (i : ℕ) → i < length d.basis.items → ¬ (column d.basis.items i ≡ auxiliary y)) where
  wide' : (i : ℕ) → i < length d.basis.items → i < length st.dictionary.whole
  wide' i li = let a = st.dictionary.tableau.tableau.as_many in omega arith

  row_zero : (v : ℕ) → ¬ (v ≡ auxiliary y) → ¬ (v ≡ phase_column y) → entry (row_at st.dictionary.whole w) v ≡ pos 0
  row_zero v na np =
      read _ _ _ (entries (entry (row_at st.dictionary.whole w) (column d.basis.items w)) v) (sys.zero v na np)
      (zero_in_columns d.basis.items st.dictionary.whole st.dictionary.tableau.tableau (plus (row_at st.dictionary.whole w) (times (entry (row_at st.dictionary.whole w) (column d.basis.items w)) (row_at S sys.place)))
      (in_plus (span_at w (wide' w st.within)) (span_times _ (span_from st.dictionary.tableau.span (span_at sys.place sys.within)))) at_basic v)
    where
      entries : (b : ℤ) (v : ℕ) → entry (plus (row_at st.dictionary.whole w) (times b (row_at S sys.place))) v ≡ entry (row_at st.dictionary.whole w) v +ℤ b *ℤ entry (row_at S sys.place) v
      entries b v = simp (entry-plus, entry-times)

      read : (b u x : ℤ) {s : ℤ} → s ≡ u +ℤ b *ℤ x → x ≡ pos 0 → s ≡ pos 0 → u ≡ pos 0
      read b u x {s} e f g = let h = ap (λ z. b *ℤ z) f in let z : b *ℤ pos 0 ≡ pos 0 = simp ring in omega (arith, ints)

      own : (b u x : ℤ) → u ≡ b → x ≡ negsuc 0 → u +ℤ b *ℤ x ≡ pos 0
      own b u x e f = rw (e, f) (omega (arith, ints))

      none : (b u x : ℤ) → u ≡ pos 0 → x ≡ pos 0 → u +ℤ b *ℤ x ≡ pos 0
      none b u x e f = rw (e, f) (simp ring)

      at_basic : (j : ℕ) → j < length st.dictionary.whole → entry (plus (row_at st.dictionary.whole w) (times (entry (row_at st.dictionary.whole w) (column d.basis.items w)) (row_at S sys.place))) (column d.basis.items j) ≡ pos 0
      at_basic j lj =
          let lb : j < length d.basis.items = (let a = st.dictionary.tableau.tableau.as_many in omega arith) in
          entries (entry (row_at st.dictionary.whole w) (column d.basis.items w)) (column d.basis.items j) ∙ elim (ℕ_discrete j w) [
            | yes q ↦ own _ _ _ (ap (λ i. entry (row_at st.dictionary.whole w) (column d.basis.items i)) q) (ap (λ i. entry (row_at S sys.place) (column d.basis.items i)) q ∙ ap (entry (row_at S sys.place)) ow ∙ sys.phase_entry)
            | no nw ↦ none _ _ _ (st.dictionary.tableau.tableau.solved w j (wide' w st.within) lj (λ u. nw (sym u))) (sys.zero (column d.basis.items j) (outside j lb) (only_at y S d w sys st ow w j (phase_column y) st.within lb ow nw))
          ]

  pub not_improved : (k : ℕ) → k < length d.others.items → (IsFreeColumn y (column d.others.items k) ⊎ IsSlackColumn y (column d.others.items k)) → (at (rows_of d) w k).num ≡ pos 0
  not_improved k lk h =
      let p = plain_column y (column d.others.items k) h in
      let t = st.dictionary.entries w k st.within lk in
      none_of (at (rows_of d) w k).num (at (rows_of d) w k).den (entry (row_at st.dictionary.whole w) (column d.others.items k)) (entry (row_at st.dictionary.whole w) (column d.basis.items w))
      (st.dictionary.tableau.tableau.positive w (wide' w st.within)) t.same (row_zero (column d.others.items k) p.0 p.1)
    where
      none_of : (n m e D : ℤ) → pos 0 <ℤ D → n *ℤ D ≡ neg_ℤ e *ℤ m → e ≡ pos 0 → n ≡ pos 0
      none_of n m e D hD q z = mul_cancel hD (let f = simp (z, ring) at q in simp ring (omega (arith, ints)))

pub phase_is_bounded : PhaseIsBounded
phase_is_bounded y S d w e sys st ow un = elim (search_basis (length d.basis.items) d.basis.items (auxiliary y)) [
  | inl (r, lr, or') ↦ (
      let f = flipped y S d w sys st ow r lr or' e.place un.entering.within (may_enter_plain y (column d.others.items e.place) e.up un.entering.may_enter) in
      un.unhindered r lr (record {
        signed = subst (λ u. IsTrue (is_signed y u)) (sym or') (auxiliary_is_signed y);
        falls = sign_turned (direction e.up) _ _ _ _ f un.entering.improves (st.dictionary.entries w e.place st.within un.entering.within).reduced.positive (st.dictionary.entries r e.place lr un.entering.within).reduced.positive;
      }))
  | inr out ↦ (
      let n = not_improved y S d w sys st ow out e.place un.entering.within (may_enter_plain y (column d.others.items e.place) e.up un.entering.may_enter) in
      never (direction e.up) (at (rows_of d) w e.place).num n un.entering.improves)
]
  where
    never : (s n : ℤ) → n ≡ pos 0 → pos 0 <ℤ (s *ℤ n) → ⊥
    never s n e h = let f = simp (e, ring) at h in omega (arith, ints)
