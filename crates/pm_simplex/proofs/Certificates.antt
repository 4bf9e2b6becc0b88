-- The dual that the row of the objective of an optimal dictionary gives.
use Rattle.pm_vector.proofs.ConeLaws.{combination-times, combination_none}
use Rattle.pm_vector.proofs.Ring.{ring}
use Rattle.pm_vector.proofs.RowLaws.{entry-plus, entry-times, length-times}
use Rattle.pm_vector.proofs.Signs.{mul_cancel, mul_nonneg, mul_pos, nonneg_cancel}
use Rattle.pm_vector.specs.Cones.{InSpan, combination}
use Rattle.pm_vector.specs.Numbers.{Ratio}
use Rattle.pm_vector.specs.Rows.{Row, entry, plus, ratio_at, times}
use Rattle.pm_vector.proofs.Columns.{coefficient, combination_at, combination_zero}
use Rattle.pm_vector.proofs.Spans.{span_at, span_to}
use Rattle.pm_vector.specs.Bases.{column, row_at}
use Rattle.pm_simplex.proofs.KeyColumns.{StandsFor, length_upward, upward_at, vector_stands}
use Rattle.pm_programs.proofs.LexRows.{times_zero}
use Rattle.pm_simplex.specs.Comparisons.{rows_of}
use Rattle.pm_programs.specs.Dictionaries.{at, row_of}
use Rattle.pm_programs.specs.Lex.{key}
use Rattle.pm_simplex.specs.ProgramLaws.{IsSystem, OptimalGivesDual, dual_of}
use Rattle.pm_geom.specs.Programs.{IsDual, IsTimes}
use Rattle.pm_simplex.specs.Running.{IsOptimalAt, IsState}
use Rattle.pm_simplex.specs.States.{key_found, objective_column, upward}
use Rattle.pm_simplex.specs.declared.dictionary.Dictionary.{Dictionary}
use Rattle.pm_simplex.specs.declared.layout.Layout.{Layout}
use Rattle.std.proofs.Common.{ap, arith, inl, inr, refl, subst, sym, ◌∙◌}
use Rattle.std.proofs.lemmas.Int.{ints}
use Rattle.std.proofs.lemmas.List.{get_or-map, length-append, length-map}
use Rattle.std.specs.Prelude.{List, [], length, map, suc, zero, ℕ, ◌+◌, ◌++◌, ◌<◌, ◌∷◌, ◌≡◌, ◌≤◌}
use lib.IntN.{neg_ℤ, negsuc, pos, ℤ, ◌*ℤ◌, ◌+ℤ◌}
use lib.Signed.{◌<ℤ◌, ◌≤ℤ◌}
use native.Mathlib.Decide.{dec_lt}

-- ---- combinations, entry by entry
tail : Row → Row
tail [] = []
tail (a ∷ x) = x

entry_tail : (d : Row) (i : ℕ) → entry (tail d) i ≡ entry d (suc i)
unfolding tail
entry_tail [] i = refl
entry_tail (a ∷ d) i = refl

comb_head : (d : Row) (x : Row) (X : List Row) (c : ℕ) → entry (combination d (x ∷ X)) c ≡ entry d 0 *ℤ entry x c +ℤ entry (combination (tail d) X) c
unfolding tail
comb_head [] x X c = simp ring
comb_head (a ∷ d) x X c = entry-plus (times a x) (combination d X) c ∙ ap (λ t. t +ℤ entry (combination d X) c) (entry-times a x c)

pub comb_scaled : (m q : ℤ) (d e : Row) (X : List Row) (c : ℕ) → ((i : ℕ) → i < length X → m *ℤ entry d i ≡ q *ℤ entry e i) → m *ℤ entry (combination d X) c ≡ q *ℤ entry (combination e X) c
comb_scaled m q d e [] c f = ap (λ t. m *ℤ t) (combination_none d c) ∙ times_zero m (pos 0) (m *ℤ pos 0) refl refl ∙ sym (ap (λ t. q *ℤ t) (combination_none e c) ∙ times_zero q (pos 0) (q *ℤ pos 0) refl refl)
comb_scaled m q d e (x ∷ X) c f =
    let r = comb_scaled m q (tail d) (tail e) X c (λ i li. ap (λ t. m *ℤ t) (entry_tail d i) ∙ f (suc i) (omega arith) ∙ ap (λ t. q *ℤ t) (sym (entry_tail e i))) in
    joined (entry d 0) (entry e 0) (entry x c) (entry (combination (tail d) X) c) (entry (combination (tail e) X) c) (entry (combination d (x ∷ X)) c) (entry (combination e (x ∷ X)) c)
    (comb_head d x X c) (comb_head e x X c) (f 0 (omega arith)) r
  where
    joined : (d0 e0 x0 u w s t : ℤ) → s ≡ d0 *ℤ x0 +ℤ u → t ≡ e0 *ℤ x0 +ℤ w → m *ℤ d0 ≡ q *ℤ e0 → m *ℤ u ≡ q *ℤ w → m *ℤ s ≡ q *ℤ t
    joined d0 e0 x0 u w s t es et h r =
        let a = simp ring at (ap (λ z. m *ℤ z) es) in
        let b = simp ring at (ap (λ z. q *ℤ z) et) in
        let g = simp ring at (ap (λ z. x0 *ℤ z) h) in
        omega (arith, ints)

comb_last : (d : Row) (X : List Row) (C : Row) (c : ℕ) → entry (combination d (X ++ C ∷ [])) c ≡ entry (combination d X) c +ℤ entry d (length X) *ℤ entry C c
comb_last d [] C c = comb_head d C [] c ∙ swap (entry d 0 *ℤ entry C c) (entry (combination (tail d) []) c) (entry (combination d []) c) (combination_none (tail d) c) (combination_none d c)
  where
    swap : (p u w : ℤ) → u ≡ pos 0 → w ≡ pos 0 → p +ℤ u ≡ w +ℤ p
    swap p u w e f = omega (arith, ints)
comb_last d (x ∷ X) C c =
    let r = comb_last (tail d) X C c in
    let l = entry_tail d (length X) in
    joined (entry d 0 *ℤ entry x c) (entry (combination (tail d) X) c) (entry (tail d) (length X)) (entry d (suc (length X))) (entry C c) (entry (combination (tail d) (X ++ C ∷ [])) c)
    (entry (combination d (x ∷ (X ++ C ∷ []))) c) (entry (combination d (x ∷ X)) c) (comb_head d x (X ++ C ∷ []) c) (comb_head d x X c) r l
  where
    joined : (p u e f C u' s t : ℤ) → s ≡ p +ℤ u' → t ≡ p +ℤ u → u' ≡ u +ℤ e *ℤ C → e ≡ f → s ≡ t +ℤ f *ℤ C
    joined p u e f C u' s t es et r l = let g = ap (λ z. z *ℤ C) l in omega (arith, ints)

-- S has the rows of T in the column c, and further ones that are 0 there
comb_same : (d : Row) (S T : List Row) (c : ℕ) → length T ≤ length S → ((i : ℕ) → i < length T → entry (row_at S i) c ≡ entry (row_at T i) c) → ((i : ℕ) → length T ≤ i → i < length S → entry (row_at S i) c ≡ pos 0)
    → entry (combination d S) c ≡ entry (combination d T) c
comb_same d S [] c l f g = combination_zero d S c (λ i li. inr (g i (omega arith) li)) ∙ sym (combination_none d c)
comb_same d [] (t ∷ T) c l f g = absurd (omega arith)
comb_same d (x ∷ S) (t ∷ T) c l f g =
    let r = comb_same (tail d) S T c (omega arith) (λ i li. f (suc i) (omega arith)) (λ i ui li. g (suc i) (omega arith) (omega arith)) in
    comb_head d x S c ∙ ap (λ u. entry d 0 *ℤ u +ℤ entry (combination (tail d) S) c) (f 0 (omega arith)) ∙ ap (λ u. entry d 0 *ℤ entry t c +ℤ u) r ∙ sym (comb_head d t T c)

span_entry : (R : List Row) (x : Row) → (h : InSpan R x) → (c : ℕ) → h.m *ℤ entry x c ≡ entry (combination h.d R) c
span_entry R x h c = let q = simp (entry-times, entry-plus, combination_none) at (h.same.at c) in omega (arith, ints)

-- ---- a row x of the span of the system, read by its columns
module _ (y : Layout) (A B : List Row) (C : Row) (k : ℤ) (S : List Row) (sys : IsSystem y A B C k S) (x : Row) (h : InSpan S x) (Y : Row) (read : (j : ℕ) → j < y.slacks + y.residuals → entry Y j ≡ entry x (y.cols + j)) where
  n : ℕ
  n = y.slacks + y.residuals

  count_AB : length (A ++ B) ≡ y.slacks + y.residuals
  count_AB = let a = sys.slacks in let b = sys.residuals in let l = length-append A B in omega arith

  own_coefficient : (j : ℕ) → j < y.slacks + y.residuals → pos 1 *ℤ entry h.d j ≡ neg_ℤ h.m *ℤ entry Y j
  unfolding coefficient
  own_coefficient j lj =
      let lS : j < length S = (let a = sys.count in omega arith) in
      let e = span_entry S x h (y.cols + j) in
      let f = combination_at h.d S (y.cols + j) j lS (λ i li ne. sys.zero i j li lj ne) in
      turned (entry h.d j) (entry (row_at S j) (y.cols + j)) (entry x (y.cols + j)) (entry Y j) h.m (entry (combination h.d S) (y.cols + j)) e f (sys.own j lj) (read j lj)
    where
      turned : (c o v w m t : ℤ) → m *ℤ v ≡ t → t ≡ c *ℤ o → o ≡ negsuc 0 → w ≡ v → pos 1 *ℤ c ≡ neg_ℤ m *ℤ w
      turned c o v w m t e f g r =
          let a = ap (λ z. c *ℤ z) g in
          let b = ap (λ z. m *ℤ z) r in
          simp ring (omega (arith, ints))

  last_coefficient : k *ℤ entry h.d (y.slacks + y.residuals) ≡ neg_ℤ h.m *ℤ entry x (objective_column y)
  unfolding coefficient
  last_coefficient =
      let lS : y.slacks + y.residuals < length S = (let a = sys.count in omega arith) in
      let e = span_entry S x h (objective_column y) in
      let f = combination_at h.d S (objective_column y) (y.slacks + y.residuals) lS (λ i li ne. sys.zero_objective i li ne) in
      turned (entry h.d (y.slacks + y.residuals)) (entry (row_at S (y.slacks + y.residuals)) (objective_column y)) (entry x (objective_column y)) h.m (entry (combination h.d S) (objective_column y)) e f sys.own_objective
    where
      turned : (c o v m t : ℤ) → m *ℤ v ≡ t → t ≡ c *ℤ o → o ≡ neg_ℤ k → k *ℤ c ≡ neg_ℤ m *ℤ v
      turned c o v m t e f g =
          let a = simp ring at (ap (λ z. c *ℤ z) g) in
          simp ring (omega (arith, ints))

  pub row_read : (c : ℕ) → c < y.cols → k *ℤ entry x c +ℤ k *ℤ entry (combination Y (A ++ B)) c +ℤ entry x (objective_column y) *ℤ entry C c ≡ pos 0
  row_read c lc =
      let b = count_AB in
      let q = length-append (A ++ B) (C ∷ []) in
      let l : length ((A ++ B) ++ C ∷ []) ≤ length S = (let a = sys.count in omega arith) in
      let e = span_entry S x h c ∙ comb_same h.d S ((A ++ B) ++ C ∷ []) c l (λ i li. sys.body i c (omega arith) lc) (λ i ui li. sys.further i c (omega arith) li lc) ∙ comb_last h.d (A ++ B) C c in
      let f = comb_scaled (pos 1) (neg_ℤ h.m) h.d Y (A ++ B) c (λ i li. own_coefficient i (rw count_AB at li)) in
      let g = ap (λ i. entry h.d i) count_AB in
      joined h.m (entry x c) (entry (combination h.d (A ++ B)) c) (entry (combination Y (A ++ B)) c) (entry h.d (length (A ++ B))) (entry h.d (y.slacks + y.residuals)) (entry C c) (entry x (objective_column y)) h.positive e f g last_coefficient
    where
      joined : (m v u w a b C o : ℤ) → pos 0 <ℤ m → m *ℤ v ≡ u +ℤ a *ℤ C → pos 1 *ℤ u ≡ neg_ℤ m *ℤ w → a ≡ b → k *ℤ b ≡ neg_ℤ m *ℤ o → k *ℤ v +ℤ k *ℤ w +ℤ o *ℤ C ≡ pos 0
      joined m v u w a b C o hm e f g l =
          mul_cancel hm
          (let e1 = simp ring at (ap (λ z. k *ℤ z) e) in
          let f1 = simp ring at (ap (λ z. k *ℤ z) f) in
          let g1 = simp ring at (ap (λ z. (k *ℤ C) *ℤ z) g) in
          let l1 = simp ring at (ap (λ z. C *ℤ z) l) in
          simp ring (omega (arith, ints)))

-- ---- beyond the columns all is zero
pub comb_beyond : (y : Layout) (A B : List Row) (C : Row) (k : ℤ) (S : List Row) (sys : IsSystem y A B C k S) (Y : Row) (c : ℕ) → y.cols ≤ c → (entry (combination Y (A ++ B)) c ≡ pos 0) × (entry C c ≡ pos 0)
comb_beyond y A B C k S sys Y c lc =
    let n : length (A ++ B) ≡ y.slacks + y.residuals = (let a = sys.slacks in let b = sys.residuals in let l = length-append A B in omega arith) in (
      combination_zero Y (A ++ B) c (λ i li. inr (sym (ap (λ r. entry r c) (before (A ++ B) C i li)) ∙ sys.width i c (omega arith) lc)),
      sym (ap (λ r. entry r c) (at_last (A ++ B) C)) ∙ sys.width (length (A ++ B)) c (omega arith) lc,
    )
  where
    before : (X : List Row) (C : Row) (i : ℕ) → i < length X → row_at (X ++ C ∷ []) i ≡ row_at X i
    before [] C i l = absurd (omega arith)
    before (x ∷ X) C zero l = refl
    before (x ∷ X) C (suc i) l = before X C i (omega arith)

    at_last : (X : List Row) (C : Row) → row_at (X ++ C ∷ []) (length X) ≡ C
    at_last [] C = refl
    at_last (x ∷ X) C = at_last X C

value_times : (d k : ℤ) (un ud x : ℤ) → un *ℤ d ≡ x *ℤ ud → (k *ℤ x) *ℤ ud ≡ (d *ℤ k) *ℤ un
value_times d k un ud x e = let f = simp ring at (ap (λ z. k *ℤ z) e) in simp ring (omega (arith, ints))

module _ (y : Layout) (A B : List Row) (c : List Ratio) (C : Row) (k : ℤ) (S : List Row) (d : Dictionary) (z : ℕ) (tc : IsTimes k c C) (sys : IsSystem y A B C k S) (st : IsState y S d z) (oz : column d.basis.items z ≡ objective_column y) (opt : IsOptimalAt y d z) where
  wz : z < length st.dictionary.whole
  wz = let a = st.dictionary.tableau.tableau.as_many in let b = st.within in omega arith

  x : Row
  x = row_at st.dictionary.whole z

  Y : Row
  Y = map (λ v. entry (row_at st.dictionary.whole z) v) (upward y.cols (y.slacks + y.residuals))

  dz : pos 0 <ℤ entry (row_at st.dictionary.whole z) (column d.basis.items z)
  dz = st.dictionary.tableau.tableau.positive z wz

  Y_read : (j : ℕ) → j < y.slacks + y.residuals → entry (map (λ v. entry (row_at st.dictionary.whole z) v) (upward y.cols (y.slacks + y.residuals))) j ≡ entry (row_at st.dictionary.whole z) (y.cols + j)
  Y_read j lj = get_or-map (λ v. entry (row_at st.dictionary.whole z) v) (upward y.cols (y.slacks + y.residuals)) j 0 (pos 0) (let l = length_upward y.cols (y.slacks + y.residuals) in omega arith)
      ∙ ap (λ v. entry (row_at st.dictionary.whole z) v) (upward_at y.cols (y.slacks + y.residuals) j lj)

  shape : length (row_of (rows_of d) z) ≡ length d.others.items
  shape = st.shaped.rectangular.places.each z (rw length-map (let a = st.shaped.rectangular.count in let b = st.within in omega arith))

  dual_read : (j : ℕ) → j < y.slacks + y.residuals → StandsFor (ratio_at (dual_of y d z) j) (entry (row_at st.dictionary.whole z) (y.cols + j)) (entry (row_at st.dictionary.whole z) (column d.basis.items z))
  dual_read j lj =
      let is : ratio_at (dual_of y d z) j ≡ key_found (y.cols + j) d.others.items (row_of (rows_of d) z) =
      get_or-map (λ v. key_found v d.others.items (row_of (rows_of d) z)) (upward y.cols (y.slacks + y.residuals)) j 0 _ (let l = length_upward y.cols (y.slacks + y.residuals) in omega arith)
      ∙ ap (λ v. key_found v d.others.items (row_of (rows_of d) z)) (upward_at y.cols (y.slacks + y.residuals) j lj) in
      let s = vector_stands S d.basis.items d.others.items (rows_of d) st.dictionary z (y.cols + j) st.within shape (st.shaped.cover (y.cols + j) (omega arith)) (λ e. let o = oz in omega arith) in
      subst (λ r. StandsFor r (entry (row_at st.dictionary.whole z) (y.cols + j)) (entry (row_at st.dictionary.whole z) (column d.basis.items z))) (sym is)
      (subst (λ u. StandsFor (key_found (y.cols + j) d.others.items (row_of (rows_of d) z)) u (entry (row_at st.dictionary.whole z) (column d.basis.items z))) (key_later (row_at st.dictionary.whole z) (y.cols + j) (let p = y.some in omega arith)) s)
    where
      key_later : (x : Row) (v : ℕ) → 0 < v → key x v ≡ entry x v
      key_later x zero h = absurd (omega arith)
      key_later x (suc v) h = refl

  zero_of : (n m e d' : ℤ) → n ≡ pos 0 → n *ℤ d' ≡ neg_ℤ e *ℤ m → pos 0 <ℤ m → e ≡ pos 0
  zero_of n m e d' h q hm = mul_cancel hm (let f = simp (h, ring) at q in simp ring (omega (arith, ints)))

  free_zero : (v : ℕ) → 0 < v → v < y.cols → entry (row_at st.dictionary.whole z) v ≡ pos 0
  free_zero v hv lv = elim (st.shaped.cover v (omega arith)) [
    | inl w ↦ basic w.0 w.1 w.2
    | inr w ↦ other w.0 w.1 w.2
  ]
    where
      basic : (i : ℕ) → i < length d.basis.items → column d.basis.items i ≡ v → entry (row_at st.dictionary.whole z) v ≡ pos 0
      basic i li e =
          let wi : i < length st.dictionary.whole = (let a = st.dictionary.tableau.tableau.as_many in omega arith) in
          subst (λ u. entry (row_at st.dictionary.whole z) u ≡ pos 0) e (st.dictionary.tableau.tableau.solved z i wz wi (λ q. let o = oz in let f = ap (column d.basis.items) q in omega arith))

      other : (i : ℕ) → i < length d.others.items → column d.others.items i ≡ v → entry (row_at st.dictionary.whole z) v ≡ pos 0
      other i li e =
          let w = st.dictionary.entries z i st.within li in
          let i0 : 0 < i = positive i e in
          let n = opt.free i i0 li (rw e (hv, lv)) in
          subst (λ u. entry (row_at st.dictionary.whole z) u ≡ pos 0) e (zero_of (at (rows_of d) z i).num (at (rows_of d) z i).den (entry (row_at st.dictionary.whole z) (column d.others.items i)) (entry (row_at st.dictionary.whole z) (column d.basis.items z)) n w.same w.reduced.positive)
        where
          positive : (i : ℕ) → column d.others.items i ≡ v → 0 < i
          positive zero e = absurd (let f = st.constant in omega arith)
          positive (suc i) e = omega arith

  not_below : (n m e d' : ℤ) → n ≤ℤ pos 0 → n *ℤ d' ≡ neg_ℤ e *ℤ m → pos 0 <ℤ m → pos 0 <ℤ d' → pos 0 ≤ℤ e
  not_below n m e d' h q hm hd =
      let p : pos 0 ≤ℤ neg_ℤ n = omega (arith, ints) in
      let d0 : pos 0 ≤ℤ d' = omega (arith, ints) in
      let r = simp ring at (mul_nonneg d0 p) in
      nonneg_cancel hm (let q' = simp ring at q in omega (arith, ints))

  slack_up : (j : ℕ) → j < y.slacks → pos 0 ≤ℤ entry (row_at st.dictionary.whole z) (y.cols + j)
  slack_up j lj = elim (st.shaped.cover (y.cols + j) (omega arith)) [
    | inl w ↦ basic w.0 w.1 w.2
    | inr w ↦ other w.0 w.1 w.2
  ]
    where
      basic : (i : ℕ) → i < length d.basis.items → column d.basis.items i ≡ y.cols + j → pos 0 ≤ℤ entry (row_at st.dictionary.whole z) (y.cols + j)
      basic i li e =
          let wi : i < length st.dictionary.whole = (let a = st.dictionary.tableau.tableau.as_many in omega arith) in
          let f = subst (λ u. entry (row_at st.dictionary.whole z) u ≡ pos 0) e (st.dictionary.tableau.tableau.solved z i wz wi (λ q. let o = oz in let f = ap (column d.basis.items) q in omega arith)) in
          omega (arith, ints)

      other : (i : ℕ) → i < length d.others.items → column d.others.items i ≡ y.cols + j → pos 0 ≤ℤ entry (row_at st.dictionary.whole z) (y.cols + j)
      other i li e =
          let w = st.dictionary.entries z i st.within li in
          let n = opt.slack i (positive i e) li (rw e (omega arith, omega arith)) in
          subst (λ u. pos 0 ≤ℤ entry (row_at st.dictionary.whole z) u) e (not_below (at (rows_of d) z i).num (at (rows_of d) z i).den (entry (row_at st.dictionary.whole z) (column d.others.items i)) (entry (row_at st.dictionary.whole z) (column d.basis.items z)) n w.same w.reduced.positive dz)
        where
          positive : (i : ℕ) → column d.others.items i ≡ y.cols + j → 0 < i
          positive zero e = absurd (let f = st.constant in let p = y.some in omega arith)
          positive (suc i) e = omega arith

  num_up : (n m e d' : ℤ) → n *ℤ d' ≡ e *ℤ m → pos 0 ≤ℤ e → pos 0 <ℤ m → pos 0 <ℤ d' → pos 0 ≤ℤ n
  num_up n m e d' q h hm hd =
      let m0 : pos 0 ≤ℤ m = omega (arith, ints) in
      let r = mul_nonneg h m0 in
      nonneg_cancel hd (omega (arith, ints))

  count_dual : length (dual_of y d z) ≡ y.slacks + y.residuals
  count_dual = length-map (upward y.cols (y.slacks + y.residuals)) (λ v. key_found v d.others.items (row_of (rows_of d) z)) ∙ length_upward y.cols (y.slacks + y.residuals)

  sum_at : (v : ℕ) → entry (plus (times (entry (row_at st.dictionary.whole z) (column d.basis.items z)) C) (combination (times k (map (λ v. entry (row_at st.dictionary.whole z) v) (upward y.cols (y.slacks + y.residuals)))) (A ++ B))) v
      ≡ entry (neg_ℤ (k *ℤ entry (row_at st.dictionary.whole z) 0) ∷ []) v
  sum_at v =
      let Z = map (λ v. entry (row_at st.dictionary.whole z) v) (upward y.cols (y.slacks + y.residuals)) in
      let o = ap (λ u. entry (row_at st.dictionary.whole z) u) oz in
      entry-plus (times (entry (row_at st.dictionary.whole z) (column d.basis.items z)) C) (combination (times k Z) (A ++ B)) v
      ∙ ap (λ t. t +ℤ entry (combination (times k Z) (A ++ B)) v) (entry-times (entry (row_at st.dictionary.whole z) (column d.basis.items z)) C v ∙ ap (λ t. t *ℤ entry C v) o)
      ∙ ap (λ t. entry (row_at st.dictionary.whole z) (objective_column y) *ℤ entry C v +ℤ t) (combination-times k Z (A ++ B) v)
      ∙ by_place v
    where
      inside : (v : ℕ) → v < y.cols → k *ℤ entry (row_at st.dictionary.whole z) v +ℤ k *ℤ entry (combination (map (λ v. entry (row_at st.dictionary.whole z) v) (upward y.cols (y.slacks + y.residuals))) (A ++ B)) v +ℤ entry (row_at st.dictionary.whole z) (objective_column y) *ℤ entry C v ≡ pos 0
      inside v lv = row_read y A B C k S sys (row_at st.dictionary.whole z) (span_to st.dictionary.tableau.span (span_at z wz)) (map (λ v. entry (row_at st.dictionary.whole z) v) (upward y.cols (y.slacks + y.residuals))) Y_read v lv

      at_constant : (a b c : ℤ) → a +ℤ b +ℤ c ≡ pos 0 → c +ℤ b ≡ neg_ℤ a
      at_constant a b c e = omega (arith, ints)

      at_free : (k x b c : ℤ) → k *ℤ x +ℤ b +ℤ c ≡ pos 0 → x ≡ pos 0 → c +ℤ b ≡ pos 0
      at_free k x b c e h = let f = times_zero k x (k *ℤ x) refl h in omega (arith, ints)

      at_end : (o C k w : ℤ) → C ≡ pos 0 → w ≡ pos 0 → o *ℤ C +ℤ k *ℤ w ≡ pos 0
      at_end o C k w e f = let a = times_zero o C (o *ℤ C) refl e in let b = times_zero k w (k *ℤ w) refl f in omega (arith, ints)

      by_place : (v : ℕ) → entry (row_at st.dictionary.whole z) (objective_column y) *ℤ entry C v +ℤ k *ℤ entry (combination (map (λ v. entry (row_at st.dictionary.whole z) v) (upward y.cols (y.slacks + y.residuals))) (A ++ B)) v
          ≡ entry (neg_ℤ (k *ℤ entry (row_at st.dictionary.whole z) 0) ∷ []) v
      by_place zero = at_constant _ _ _ (inside 0 (let p = y.some in p))
      by_place (suc v) = elim (dec_lt (suc v) y.cols) [
        | yes l ↦ at_free k (entry (row_at st.dictionary.whole z) (suc v)) _ _ (inside (suc v) l) (free_zero (suc v) (omega arith) l)
        | no n ↦ (let q = comb_beyond y A B C k S sys (map (λ v. entry (row_at st.dictionary.whole z) v) (upward y.cols (y.slacks + y.residuals))) (suc v) (omega arith) in at_end (entry (row_at st.dictionary.whole z) (objective_column y)) (entry C (suc v)) k _ q.1 q.0)
      ]

  pub dual_is : IsDual A B c (at (rows_of d) z 0) (dual_of y d z)
  dual_is =
      let v = st.dictionary.entries z 0 st.within st.some in
      let D = entry (row_at st.dictionary.whole z) (column d.basis.items z) in
      record {
        multipliers = record {
          as_many = count_dual ∙ (let a = sys.slacks in let b = sys.residuals in omega arith);
          not_negative = λ j lj.
              let l : j < y.slacks = (let a = sys.slacks in omega arith) in
              let r = dual_read j (omega arith) in
              num_up (ratio_at (dual_of y d z) j).num (ratio_at (dual_of y d z) j).den (entry (row_at st.dictionary.whole z) (y.cols + j)) (entry (row_at st.dictionary.whole z) (column d.basis.items z)) r.value (slack_up j l) r.positive dz;
        };
        k = entry (row_at st.dictionary.whole z) (column d.basis.items z) *ℤ k;
        objective = times (entry (row_at st.dictionary.whole z) (column d.basis.items z)) C;
        coefficients = times k (map (λ v. entry (row_at st.dictionary.whole z) v) (upward y.cols (y.slacks + y.residuals)));
        constant = neg_ℤ (k *ℤ entry (row_at st.dictionary.whole z) 0);
        objective_times = record {
          positive = mul_pos dz tc.positive;
          cols = length-times (entry (row_at st.dictionary.whole z) (column d.basis.items z)) C ∙ tc.cols;
          denominators = tc.denominators;
          same = λ i li. objective_same (entry (row_at st.dictionary.whole z) (column d.basis.items z)) (entry C i) (ratio_at c i).den (ratio_at c i).num (entry-times (entry (row_at st.dictionary.whole z) (column d.basis.items z)) C i) (tc.same i li);
        };
        coefficients_times = record {
          positive = mul_pos dz tc.positive;
          cols = length-times k _ ∙ length-map (upward y.cols (y.slacks + y.residuals)) (λ v. entry (row_at st.dictionary.whole z) v) ∙ length_upward y.cols (y.slacks + y.residuals) ∙ sym count_dual;
          denominators = λ i li. (dual_read i (rw count_dual at li)).positive;
          same = λ i li.
              let l : i < y.slacks + y.residuals = rw count_dual at li in
              ap (λ t. t *ℤ (ratio_at (dual_of y d z) i).den) (entry-times k (map (λ v. entry (row_at st.dictionary.whole z) v) (upward y.cols (y.slacks + y.residuals))) i ∙ ap (λ t. k *ℤ t) (Y_read i l))
              ∙ value_times (entry (row_at st.dictionary.whole z) (column d.basis.items z)) k (ratio_at (dual_of y d z) i).num (ratio_at (dual_of y d z) i).den (entry (row_at st.dictionary.whole z) (y.cols + i)) (dual_read i l).value;
        };
        positive = v.reduced.positive;
        constant_times = constant_same (entry (row_at st.dictionary.whole z) (column d.basis.items z)) (entry (row_at st.dictionary.whole z) 0) (at (rows_of d) z 0).num (at (rows_of d) z 0).den (subst (λ u. (at (rows_of d) z 0).num *ℤ entry (row_at st.dictionary.whole z) (column d.basis.items z) ≡ neg_ℤ (entry (row_at st.dictionary.whole z) u) *ℤ (at (rows_of d) z 0).den) st.constant v.same);
        sum = record { at = sum_at };
      }
    where
      objective_same : (D e m n : ℤ) {t : ℤ} → t ≡ D *ℤ e → e *ℤ m ≡ k *ℤ n → t *ℤ m ≡ (D *ℤ k) *ℤ n
      objective_same D e m n {t} q h = ap (λ w. w *ℤ m) q ∙ (let f = simp ring at (ap (λ w. D *ℤ w) h) in simp ring (omega (arith, ints)))

      constant_same : (D e n m : ℤ) → n *ℤ D ≡ neg_ℤ e *ℤ m → neg_ℤ (k *ℤ e) *ℤ m ≡ (D *ℤ k) *ℤ n
      constant_same D e n m h = let f = simp ring at (ap (λ w. k *ℤ w) h) in simp ring (omega (arith, ints))

pub optimal_gives_dual : OptimalGivesDual
optimal_gives_dual y A B c C k S d z tc sys st oz opt = dual_is y A B c C k S d z tc sys st oz opt
