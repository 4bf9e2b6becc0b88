-- The row of a least auxiliary variable gives multipliers of infeasibility.
use Rattle.pm_vector.proofs.ConeLaws.{combination-times}
use Rattle.pm_vector.proofs.Ring.{ring}
use Rattle.pm_vector.proofs.RowLaws.{entry-times, length-times}
use Rattle.pm_vector.proofs.Signs.{mul_cancel, mul_nonneg, mul_pos, nonneg_cancel, pos_cancel}
use Rattle.pm_vector.specs.Cones.{InSpan, combination}
use Rattle.pm_vector.specs.Numbers.{Ratio}
use Rattle.pm_vector.specs.Rows.{Row, entry, ratio_at, times}
use Rattle.pm_vector.proofs.Spans.{span_at, span_to}
use Rattle.pm_vector.specs.Bases.{column, row_at}
use Rattle.pm_simplex.proofs.Certificates.{comb_beyond, row_read}
use Rattle.pm_simplex.proofs.KeyColumns.{StandsFor, key_stands, length_upward, upward_at}
use Rattle.pm_programs.proofs.LexRows.{times_zero}
use Rattle.pm_simplex.specs.Comparisons.{direction, key_of, rows_of}
use Rattle.pm_programs.specs.Dictionaries.{at, row_of}
use Rattle.pm_programs.specs.Lex.{IsLexPositive, key, keys}
use Rattle.pm_simplex.specs.ProgramLaws.{AreMultipliersOf, ContradictionExcludes, IsLeastAuxiliary, IsSystem, LeastAuxiliaryExcludes, signed_by}
use Rattle.pm_geom.specs.Programs.{IsInfeasible}
use Rattle.pm_simplex.specs.Running.{IsContradiction, IsLaidOut, IsState}
use Rattle.pm_simplex.specs.States.{auxiliary, is_signed, key_columns, objective_column, upward}
use Rattle.pm_simplex.specs.declared.dictionary.Dictionary.{Dictionary}
use Rattle.pm_simplex.specs.declared.layout.Layout.{Layout}
use Rattle.std.proofs.Common.{ap, arith, inl, inr, refl, subst, sym, ◌∙◌}
use Rattle.std.proofs.lemmas.Grind.{common_steps}
use Rattle.std.proofs.lemmas.Int.{ints}
use Rattle.std.proofs.lemmas.List.{get_or-map, length-map}
use Rattle.std.specs.Prelude.{Bool, IsTrue, List, [], false, length, map, suc, true, zero, ℕ, ◌+◌, ◌++◌, ◌<◌, ◌∷◌, ◌≡◌, ◌≤◌}
use lib.IntN.{neg_ℤ, negsuc, pos, ℤ, ◌*ℤ◌, ◌+ℤ◌}
use lib.Signed.{◌<ℤ◌, ◌≤ℤ◌}
use native.Mathlib.Decide.{dec_lt}

-- ---- a row of the span of the equations that has no free coordinate and no objective, and whose slacks have one sign
module _ (y : Layout) (A B : List Row) (C : Row) (k : ℤ) (S : List Row) (sys : IsSystem y A B C k S) (x : Row) (h : InSpan S x) (D τ : ℤ) (hD : pos 0 <ℤ D) (no_objective : entry x (objective_column y) ≡ pos 0) (no_free : (v : ℕ) → 0 < v → v < y.cols → entry x v ≡ pos 0)
    (slack_up : (j : ℕ) → j < y.slacks → pos 0 ≤ℤ (τ *ℤ entry x (y.cols + j))) (constant_up : pos 0 <ℤ (τ *ℤ entry x 0)) (m : List Ratio) (count : length m ≡ y.slacks + y.residuals)
    (stands : (j : ℕ) → j < y.slacks + y.residuals → StandsFor (ratio_at m j) (τ *ℤ entry x (y.cols + j)) D) where
  Y_read : (j : ℕ) → j < y.slacks + y.residuals → entry (map (λ v. entry x v) (upward y.cols (y.slacks + y.residuals))) j ≡ entry x (y.cols + j)
  Y_read j lj = get_or-map (λ v. entry x v) (upward y.cols (y.slacks + y.residuals)) j 0 (pos 0) (let l = length_upward y.cols (y.slacks + y.residuals) in omega arith)
      ∙ ap (λ v. entry x v) (upward_at y.cols (y.slacks + y.residuals) j lj)

  sum_at : (v : ℕ) → entry (combination (times τ (map (λ v. entry x v) (upward y.cols (y.slacks + y.residuals)))) (A ++ B)) v ≡ entry (neg_ℤ (τ *ℤ entry x 0) ∷ []) v
  sum_at v = combination-times τ (map (λ v. entry x v) (upward y.cols (y.slacks + y.residuals))) (A ++ B) v ∙ by_place v
    where
      solved : (k x w o c : ℤ) → pos 0 <ℤ k → k *ℤ x +ℤ k *ℤ w +ℤ o *ℤ c ≡ pos 0 → o ≡ pos 0 → w ≡ neg_ℤ x
      solved k x w o c hk e h = mul_cancel hk (let f = simp (h, ring) at e in simp ring (omega (arith, ints)))

      inside : (v : ℕ) → v < y.cols → τ *ℤ entry (combination (map (λ v. entry x v) (upward y.cols (y.slacks + y.residuals))) (A ++ B)) v ≡ neg_ℤ (τ *ℤ entry x v)
      inside v lv =
          ap (λ t. τ *ℤ t) (solved k (entry x v) _ (entry x (objective_column y)) (entry C v) sys.positive (row_read y A B C k S sys x h (map (λ v. entry x v) (upward y.cols (y.slacks + y.residuals))) Y_read v lv) no_objective) ∙ minus τ (entry x v)
        where
          minus : (t u : ℤ) → t *ℤ neg_ℤ u ≡ neg_ℤ (t *ℤ u)
          minus t u = simp ring

      none : (t u : ℤ) → u ≡ pos 0 → neg_ℤ (t *ℤ u) ≡ pos 0
      none t u e = simp (e, ring)

      by_place : (v : ℕ) → τ *ℤ entry (combination (map (λ v. entry x v) (upward y.cols (y.slacks + y.residuals))) (A ++ B)) v ≡ entry (neg_ℤ (τ *ℤ entry x 0) ∷ []) v
      by_place zero = inside 0 (let p = y.some in p)
      by_place (suc v) = elim (dec_lt (suc v) y.cols) [
        | yes l ↦ inside (suc v) l ∙ none τ (entry x (suc v)) (no_free (suc v) (omega arith) l)
        | no n ↦ times_zero τ _ _ refl (comb_beyond y A B C k S sys (map (λ v. entry x v) (upward y.cols (y.slacks + y.residuals))) (suc v) (omega arith)).0
      ]

  num_up : (n m e d' : ℤ) → n *ℤ d' ≡ e *ℤ m → pos 0 ≤ℤ e → pos 0 <ℤ m → pos 0 <ℤ d' → pos 0 ≤ℤ n
  num_up n m e d' q h hm hd = nonneg_cancel hd (let m0 : pos 0 ≤ℤ m = omega (arith, ints) in let r' = mul_nonneg h m0 in omega (arith, ints))

  pub row_excludes : IsInfeasible A B m
  row_excludes = record {
    multipliers = record {
      as_many = count ∙ (let a = sys.slacks in let b = sys.residuals in omega arith);
      not_negative = λ j lj.
          let l : j < y.slacks = (let a = sys.slacks in omega arith) in
          let s = stands j (omega arith) in
          num_up (ratio_at m j).num (ratio_at m j).den (τ *ℤ entry x (y.cols + j)) D s.value (slack_up j l) s.positive hD;
    };
    k = D;
    coefficients = times τ (map (λ v. entry x v) (upward y.cols (y.slacks + y.residuals)));
    constant = neg_ℤ (τ *ℤ entry x 0);
    coefficients_times = record {
      positive = hD;
      cols = length-times τ _ ∙ length-map (upward y.cols (y.slacks + y.residuals)) (λ v. entry x v) ∙ length_upward y.cols (y.slacks + y.residuals) ∙ sym count;
      denominators = λ i li. (stands i (rw count at li)).positive;
      same = λ i li.
          let l : i < y.slacks + y.residuals = rw count at li in
          ap (λ t. t *ℤ (ratio_at m i).den) (entry-times τ (map (λ v. entry x v) (upward y.cols (y.slacks + y.residuals))) i ∙ ap (λ t. τ *ℤ t) (Y_read i l)) ∙ sym (stands i l).value ∙ swap (ratio_at m i).num;
    };
    negative = (let q = constant_up in omega (arith, ints));
    sum = record { at = sum_at };
  }
    where
      swap : (n : ℤ) → n *ℤ D ≡ D *ℤ n
      swap n = simp ring

-- ---- what the multipliers stand for
signed_stands : (up : Bool) (r : Ratio) (n d : ℤ) → StandsFor r n d → StandsFor (signed_by up r) (direction up *ℤ n) d
signed_stands true r n d h = record { positive = h.positive; value = h.value ∙ ap (λ t. t *ℤ r.den) (one n) }
  where
    one : (n : ℤ) → n ≡ pos 1 *ℤ n
    one n = omega (arith, ints)
signed_stands false r n d h = record { positive = h.positive; value = turned r.num d n r.den h.value }
  where
    turned : (a b c e : ℤ) → a *ℤ b ≡ c *ℤ e → neg_ℤ a *ℤ b ≡ (negsuc 0 *ℤ c) *ℤ e
    turned a b c e q = let m : negsuc 0 *ℤ c ≡ neg_ℤ c = omega (arith, ints) in ap (λ t. t) (minus a b) ∙ ap neg_ℤ q ∙ sym (ap (λ t. t *ℤ e) m ∙ minus c e)
      where
        minus : (a b : ℤ) → neg_ℤ a *ℤ b ≡ neg_ℤ (a *ℤ b)
        minus a b = simp ring

module _ (y : Layout) (S : List Row) (d : Dictionary) (h : IsLaidOut y S d) (r : ℕ) (lr : r < length d.basis.items) (up : Bool) (m : List Ratio) (are : AreMultipliersOf y d r up m) where
  shape : length (row_of (rows_of d) r) ≡ length d.others.items
  shape = h.shaped.rectangular.places.each r (rw length-map (let a = h.shaped.rectangular.count in omega arith))

  key_later : (x : Row) (v : ℕ) → 0 < v → key x v ≡ entry x v
  key_later x zero h = absurd (omega arith)
  key_later x (suc v) h = refl

  multiplier_stands : (j : ℕ) → j < y.slacks + y.residuals → StandsFor (ratio_at m j) (direction up *ℤ entry (row_at h.dictionary.whole r) (y.cols + j)) (entry (row_at h.dictionary.whole r) (column d.basis.items r))
  multiplier_stands j lj =
      let s = key_stands S d.basis.items d.others.items (rows_of d) h.dictionary r (y.cols + j) lr shape (h.shaped.cover (y.cols + j) (omega arith)) (λ e. (let v = h.shaped.variables r lr in omega arith)) in
      let s' = subst (λ u. StandsFor (key_of d r (y.cols + j)) u (entry (row_at h.dictionary.whole r) (column d.basis.items r))) (key_later (row_at h.dictionary.whole r) (y.cols + j) (let p = y.some in omega arith)) s in
      subst (λ u. StandsFor u (direction up *ℤ entry (row_at h.dictionary.whole r) (y.cols + j)) (entry (row_at h.dictionary.whole r) (column d.basis.items r))) (sym (are.each j lj)) (signed_stands up _ _ _ s')

-- numbers that are not positive are not lexicographically positive
never_up : (f : ℕ → ℤ) (n m : ℕ) → ((i : ℕ) → n ≤ i → i < n + m → f i ≤ℤ pos 0) → IsLexPositive (map f (upward n m)) → ⊥
never_up f n zero h p = p
never_up f n (suc m) h (inl p) = let q = h n (omega arith) (omega arith) in omega (arith, ints)
never_up f n (suc m) h (inr p) = never_up f (n + 1) m (λ i l u. h i (omega arith) (omega arith)) p.1

pub auxiliary_is_signed : (y : Layout) → IsTrue (is_signed y (auxiliary y))
auxiliary_is_signed y = grind (arith, common_steps)

module _ (y : Layout) (A B : List Row) (C : Row) (k : ℤ) (S : List Row) (d : Dictionary) (z o r : ℕ) (m : List Ratio) (sys : IsSystem y A B C k S) (st : IsState y S d z) (lo : o < length d.basis.items) (oz : column d.basis.items o ≡ objective_column y) (least : IsLeastAuxiliary y d r) (are : AreMultipliersOf y d r false m) where
  wide : (i : ℕ) → i < length d.basis.items → i < length st.dictionary.whole
  wide i li = let a = st.dictionary.tableau.tableau.as_many in omega arith

  dr : pos 0 <ℤ entry (row_at st.dictionary.whole r) (column d.basis.items r)
  dr = st.dictionary.tableau.tableau.positive r (wide r least.within)

  basic_zero : (v i : ℕ) → ¬ (v ≡ auxiliary y) → i < length d.basis.items → column d.basis.items i ≡ v → entry (row_at st.dictionary.whole r) v ≡ pos 0
  basic_zero v i nv li e = subst (λ u. entry (row_at st.dictionary.whole r) u ≡ pos 0) e (st.dictionary.tableau.tableau.solved r i (wide r least.within) (wide i li) (λ q. nv (sym e ∙ ap (column d.basis.items) (sym q) ∙ least.auxiliary_row)))

  positive_place : (v i : ℕ) → 0 < v → column d.others.items i ≡ v → 0 < i
  positive_place v zero h e = absurd (let f = st.constant in omega arith)
  positive_place v (suc i) h e = omega arith

  zero_of : (n m e d' : ℤ) → n ≡ pos 0 → n *ℤ d' ≡ neg_ℤ e *ℤ m → pos 0 <ℤ m → e ≡ pos 0
  zero_of n m e d' h q hm = mul_cancel hm (let f = simp (h, ring) at q in simp ring (omega (arith, ints)))

  below_of : (n m e d' : ℤ) → pos 0 ≤ℤ n → n *ℤ d' ≡ neg_ℤ e *ℤ m → pos 0 <ℤ m → pos 0 <ℤ d' → e ≤ℤ pos 0
  below_of n m e d' h q hm hd =
      let d0 : pos 0 ≤ℤ d' = omega (arith, ints) in
      let p = mul_nonneg d0 h in
      let q' = simp ring at q in
      let u : pos 0 ≤ℤ neg_ℤ e = nonneg_cancel hm (simp ring (omega (arith, ints))) in
      omega (arith, ints)

  free_zero : (v : ℕ) → 0 < v → v < y.cols → entry (row_at st.dictionary.whole r) v ≡ pos 0
  free_zero v hv lv = elim (st.shaped.cover v (omega arith)) [
    | inl w ↦ basic_zero v w.0 (λ e. omega arith) w.1 w.2
    | inr w ↦ (
        let t = st.dictionary.entries r w.0 least.within w.1 in
        let e = w.2 in
        subst (λ u. entry (row_at st.dictionary.whole r) u ≡ pos 0) e
        (zero_of (at (rows_of d) r w.0).num (at (rows_of d) r w.0).den (entry (row_at st.dictionary.whole r) (column d.others.items w.0)) (entry (row_at st.dictionary.whole r) (column d.basis.items r))
        (least.free w.0 (positive_place v w.0 hv w.2) w.1 (rw e (hv, lv))) t.same t.reduced.positive))
  ]

  slack_down : (j : ℕ) → j < y.slacks → entry (row_at st.dictionary.whole r) (y.cols + j) ≤ℤ pos 0
  slack_down j lj = elim (st.shaped.cover (y.cols + j) (omega arith)) [
    | inl w ↦ (let e = basic_zero (y.cols + j) w.0 (λ e. omega arith) w.1 w.2 in omega (arith, ints))
    | inr w ↦ (
        let t = st.dictionary.entries r w.0 least.within w.1 in
        let e = w.2 in
        subst (λ u. entry (row_at st.dictionary.whole r) u ≤ℤ pos 0) e
        (below_of (at (rows_of d) r w.0).num (at (rows_of d) r w.0).den (entry (row_at st.dictionary.whole r) (column d.others.items w.0)) (entry (row_at st.dictionary.whole r) (column d.basis.items r))
        (least.slack w.0 (positive_place (y.cols + j) w.0 (let p = y.some in omega arith) w.2) w.1 (rw e (omega arith, omega arith))) t.same t.reduced.positive dr))
  ]

  key_is : (x : Row) (v : ℕ) → 0 < v → key x v ≡ entry x v
  key_is x zero h = absurd (omega arith)
  key_is x (suc v) h = refl

  -- the auxiliary variable is positive
  constant_up : pos 0 <ℤ neg_ℤ (entry (row_at st.dictionary.whole r) 0)
  constant_up = from_first (st.feasible.positive r (wide r least.within) (subst (λ u. IsTrue (is_signed y u)) (sym least.auxiliary_row) (auxiliary_is_signed y)))
    where
      from_first : IsLexPositive (keys (key_columns y) (row_at st.dictionary.whole r)) → pos 0 <ℤ neg_ℤ (entry (row_at st.dictionary.whole r) 0)
      from_first (inl h) = h
      from_first (inr h) = absurd (never_up (key (row_at st.dictionary.whole r)) y.cols y.slacks (λ i l u. subst (λ t. t ≤ℤ pos 0) (sym (key_is (row_at st.dictionary.whole r) i (let p = y.some in omega arith))) (down_at i l u)) h.1)
        where
          down_at : (i : ℕ) → y.cols ≤ i → i < y.cols + y.slacks → entry (row_at st.dictionary.whole r) i ≤ℤ pos 0
          down_at i l u = let w = slack_place' i l in rw w.1 (slack_down w.0 (let e = w.1 in omega arith))
            where
              slack_place' : (i : ℕ) → y.cols ≤ i → (j : ℕ) × (i ≡ y.cols + j)
              slack_place' i l = place y.cols i l
                where
                  place : (n i : ℕ) → n ≤ i → (j : ℕ) × (i ≡ n + j)
                  place zero i l = (i, omega arith)
                  place (suc n) zero l = absurd (omega arith)
                  place (suc n) (suc i) l = let w = place n i (omega arith) in (w.0, (let e = w.1 in omega arith))

  objective_zero : entry (row_at st.dictionary.whole r) (objective_column y) ≡ pos 0
  objective_zero = basic_zero (objective_column y) o (λ e. omega arith) lo oz

  pub excluded : IsInfeasible A B m
  excluded =
      row_excludes y A B C k S sys (row_at st.dictionary.whole r) (span_to st.dictionary.tableau.span (span_at r (wide r least.within))) (entry (row_at st.dictionary.whole r) (column d.basis.items r)) (negsuc 0) dr objective_zero free_zero
      (λ j lj. let q = slack_down j lj in omega (arith, ints)) (let q = constant_up in omega (arith, ints)) m are.count
      (multiplier_stands y S d (record { shaped = st.shaped; apart = st.apart; dictionary = st.dictionary; fits = st.fits; some = st.some; constant = st.constant }) r least.within false m are)

pub least_auxiliary_excludes : LeastAuxiliaryExcludes
least_auxiliary_excludes y A B C k S d z o r m sys st lo oz least are = excluded y A B C k S d z o r m sys st lo oz least are

-- ---- a residual that is a constant other than 0
module _ (y : Layout) (A B : List Row) (C : Row) (k : ℤ) (S : List Row) (d : Dictionary) (r : ℕ) (up : Bool) (m : List Ratio) (sys : IsSystem y A B C k S) (c : IsContradiction y S d r) (sign : (direction up *ℤ (at (rows_of d) r 0).num) <ℤ pos 0) (are : AreMultipliersOf y d r up m) where
  h : IsLaidOut y S d
  h = c.absorbing.laid_out

  own : column d.basis.items r ≡ y.cols + r
  own = c.absorbing.residuals r (omega arith) c.within

  lr : r < length d.basis.items
  lr = let a = c.absorbing.count in let b = c.within in omega arith

  wide_at : (i : ℕ) → i < length d.basis.items → i < length c.absorbing.laid_out.dictionary.whole
  wide_at i li = let a = c.absorbing.laid_out.dictionary.tableau.tableau.as_many in omega arith

  D_up : pos 0 <ℤ entry (row_at c.absorbing.laid_out.dictionary.whole r) (column d.basis.items r)
  D_up = c.absorbing.laid_out.dictionary.tableau.tableau.positive r (wide_at r lr)

  zero_at : (v i : ℕ) → ¬ (i ≡ r) → i < length d.basis.items → column d.basis.items i ≡ v → entry (row_at c.absorbing.laid_out.dictionary.whole r) v ≡ pos 0
  zero_at v i n li e = subst (λ u. entry (row_at c.absorbing.laid_out.dictionary.whole r) u ≡ pos 0) e (c.absorbing.laid_out.dictionary.tableau.tableau.solved r i (wide_at r lr) (wide_at i li) (λ q. n (sym q)))

  free_none : (v : ℕ) → 0 < v → v < y.cols → entry (row_at c.absorbing.laid_out.dictionary.whole r) v ≡ pos 0
  free_none v hv lv = elim (c.absorbing.laid_out.shaped.cover v (omega arith)) [
    | inl w ↦ zero_at v w.0 (λ q. (let e = ap (column d.basis.items) q in let f = w.2 in let g = own in omega arith)) w.1 w.2
    | inr w ↦ (
        let t = c.absorbing.laid_out.dictionary.entries r w.0 lr w.1 in
        let e = w.2 in
        subst (λ u. entry (row_at c.absorbing.laid_out.dictionary.whole r) u ≡ pos 0) e
        (zero_num (at (rows_of d) r w.0).num (at (rows_of d) r w.0).den (entry (row_at c.absorbing.laid_out.dictionary.whole r) (column d.others.items w.0)) (entry (row_at c.absorbing.laid_out.dictionary.whole r) (column d.basis.items r))
        (c.free w.0 w.1 (rw e (hv, lv))) t.same t.reduced.positive))
  ]
    where
      zero_num : (n m e d' : ℤ) → n ≡ pos 0 → n *ℤ d' ≡ neg_ℤ e *ℤ m → pos 0 <ℤ m → e ≡ pos 0
      zero_num n m e d' h q hm = mul_cancel hm (let f = simp (h, ring) at q in simp ring (omega (arith, ints)))

  slack_none : (j : ℕ) → j < y.slacks → entry (row_at c.absorbing.laid_out.dictionary.whole r) (y.cols + j) ≡ pos 0
  slack_none j lj = zero_at (y.cols + j) j (λ q. (let b = c.from in omega arith)) (let a = c.absorbing.count in omega arith) (c.absorbing.slacks j lj)

  objective_none : entry (row_at c.absorbing.laid_out.dictionary.whole r) (objective_column y) ≡ pos 0
  objective_none = zero_at (objective_column y) (y.slacks + y.residuals) (λ q. (let b = c.within in omega arith)) (let a = c.absorbing.count in omega arith) c.absorbing.objective

  constant_sign : pos 0 <ℤ (direction up *ℤ entry (row_at c.absorbing.laid_out.dictionary.whole r) 0)
  constant_sign =
      let w = c.absorbing.laid_out.dictionary.entries r 0 lr c.absorbing.laid_out.some in
      turned (direction up) (at (rows_of d) r 0).num (entry (row_at c.absorbing.laid_out.dictionary.whole r) (column d.basis.items r)) (entry (row_at c.absorbing.laid_out.dictionary.whole r) 0) (at (rows_of d) r 0).den
      (subst (λ u. (at (rows_of d) r 0).num *ℤ entry (row_at c.absorbing.laid_out.dictionary.whole r) (column d.basis.items r) ≡ neg_ℤ (entry (row_at c.absorbing.laid_out.dictionary.whole r) u) *ℤ (at (rows_of d) r 0).den) c.absorbing.laid_out.constant w.same)
      sign D_up w.reduced.positive
    where
      turned : (s n e x m : ℤ) → n *ℤ e ≡ neg_ℤ x *ℤ m → (s *ℤ n) <ℤ pos 0 → pos 0 <ℤ e → pos 0 <ℤ m → pos 0 <ℤ (s *ℤ x)
      turned s n e x m q hn he hm =
          let n1 : pos 0 <ℤ neg_ℤ (s *ℤ n) = omega (arith, ints) in
          let p = simp ring at (mul_pos n1 he) in
          let f = simp ring at (ap (λ z. s *ℤ z) q) in
          pos_cancel hm (simp ring (omega (arith, ints)))

  pub contradicted : IsInfeasible A B m
  contradicted =
      row_excludes y A B C k S sys (row_at c.absorbing.laid_out.dictionary.whole r) (span_to c.absorbing.laid_out.dictionary.tableau.span (span_at r (wide_at r lr))) (entry (row_at c.absorbing.laid_out.dictionary.whole r) (column d.basis.items r)) (direction up) D_up objective_none free_none
      (λ j lj. level (direction up) _ (slack_none j lj)) constant_sign m are.count (multiplier_stands y S d c.absorbing.laid_out r lr up m are)
    where
      level : (s x : ℤ) → x ≡ pos 0 → pos 0 ≤ℤ (s *ℤ x)
      level s x e = let z : s *ℤ x ≡ pos 0 = simp (e, ring) in omega (arith, ints)

pub contradiction_excludes : ContradictionExcludes
contradiction_excludes y A B C k S d r up m sys c sign are = contradicted y A B C k S d r up m sys c sign are
