-- A column of a dictionary solves the equations.
use Rattle.pm_vector.proofs.ConeLaws.{dot_combination_lines}
use Rattle.pm_vector.proofs.Ring.{ring}
use Rattle.pm_vector.proofs.RowLaws.{dot-plus, dot-same, dot-times, dot_comm, entry-times, length-times}
use Rattle.pm_vector.proofs.Signs.{mul_cancel, mul_pos}
use Rattle.pm_vector.specs.Cones.{InSpan, combination}
use Rattle.pm_vector.specs.Numbers.{Ratio}
use Rattle.pm_vector.specs.Rows.{Row, dot, entry, ratio_at, times}
use Rattle.pm_vector.proofs.Spans.{place_of, span_at, span_from}
use Rattle.pm_vector.specs.Bases.{column, row_at}
use Rattle.pm_fraction.specs.Fractions.{ratio_of}
use Rattle.pm_simplex.proofs.KeyColumns.{first_place, length_upward, upward_at}
use Rattle.pm_programs.proofs.LexRows.{none_times, times_zero}
use Rattle.pm_simplex.specs.Comparisons.{IsApart, IsCovered}
use Rattle.pm_programs.specs.Dictionaries.{IsDictionaryOf, at}
use Rattle.pm_geom.specs.Programs.{IsTimes}
use Rattle.pm_simplex.specs.Solutions.{ColumnSolves, row_found, solution, solution_at}
use Rattle.pm_simplex.specs.States.{upward}
use Rattle.std.proofs.Common.{ap, arith, eq-eqb, inl, inr, refl, subst, sym, ◌∙◌}
use Rattle.std.proofs.lemmas.Grind.{common_steps}
use Rattle.std.proofs.lemmas.Int.{ints}
use Rattle.std.proofs.lemmas.List.{get_or-map, length-map}
use Rattle.std.specs.Prelude.{List, [], false, length, nat_eq, suc, zero, ℕ, ◌<◌, ◌∷◌, ◌≡◌, ◌≤◌, ◌⊎◌}
use lib.IntN.{neg_ℤ, pos, ℤ, ◌*ℤ◌, ◌+ℤ◌}
use lib.Signed.{◌<ℤ◌}
use native.Mathlib.Decide.{dec_lt, ℕ_discrete}

-- ---- a row of fractions has a whole multiple
pub more_same : (k d n u w m : ℤ) → u *ℤ w ≡ k *ℤ m → (d *ℤ u) *ℤ w ≡ (k *ℤ d) *ℤ m
more_same k d n u w m e = let f = simp ring at (ap (λ t. d *ℤ t) e) in simp ring (omega (arith, ints))

pub whole_multiple : (r : List Ratio) → ((i : ℕ) → i < length r → pos 0 <ℤ (ratio_at r i).den) → (k : ℤ) × (x : Row) × IsTimes k r x
whole_multiple [] h = (pos 1, [], record { positive = omega (arith, ints); cols = refl; denominators = h; same = λ i l. absurd (omega arith) })
whole_multiple (f ∷ r) h =
    let w = whole_multiple r (λ i l. h (suc i) (omega arith)) in
    let f0 = h 0 (omega arith) in
    (w.0 *ℤ f.den, (w.0 *ℤ f.num) ∷ times f.den w.1, record { positive = mul_pos w.2.positive f0; cols = ap suc (length-times f.den w.1 ∙ w.2.cols); denominators = h; same = λ i l. same_at f r w.0 w.1 w.2 i l })
  where
    first_same : (k d n : ℤ) → (k *ℤ n) *ℤ d ≡ (k *ℤ d) *ℤ n
    first_same k d n = simp ring

    same_at : (f : Ratio) (r : List Ratio) (k : ℤ) (x : Row) → IsTimes k r x → (i : ℕ) → i < length (f ∷ r) → entry ((k *ℤ f.num) ∷ times f.den x) i *ℤ (ratio_at (f ∷ r) i).den ≡ (k *ℤ f.den) *ℤ (ratio_at (f ∷ r) i).num
    same_at f r k x t zero l = first_same k f.den f.num
    same_at f r k x t (suc i) l = ap (λ u. u *ℤ (ratio_at r i).den) (entry-times f.den x i) ∙ more_same k f.den f.num (entry x i) (ratio_at r i).den (ratio_at r i).num (t.same i (omega arith))

-- ---- products of which few terms are not 0
dot_none : (x w : Row) → ((c : ℕ) → entry x c *ℤ entry w c ≡ pos 0) → dot x w ≡ pos 0
dot_none [] w h = refl
dot_none (a ∷ x) [] h = refl
dot_none (a ∷ x) (b ∷ w) h = let p = h 0 in let q = dot_none x w (λ c. h (suc c)) in omega (arith, ints)

dot_one : (x w : Row) (p : ℕ) → ((c : ℕ) → ¬ (c ≡ p) → entry x c *ℤ entry w c ≡ pos 0) → dot x w ≡ entry x p *ℤ entry w p
dot_one [] w p h = sym (none_times (pos 0) (entry w p) (pos 0 *ℤ entry w p) refl refl)
dot_one (a ∷ x) [] p h = sym (times_zero (entry (a ∷ x) p) (pos 0) (entry (a ∷ x) p *ℤ pos 0) refl refl)
dot_one (a ∷ x) (b ∷ w) zero h = let q = dot_none x w (λ c. h (suc c) (λ e. omega arith)) in omega (arith, ints)
dot_one (a ∷ x) (b ∷ w) (suc p) h = let q = dot_one x w p (λ c n. h (suc c) (λ e. n (omega arith))) in let z = h 0 (λ e. omega arith) in omega (arith, ints)

dot_two : (x w : Row) (p q : ℕ) → ¬ (p ≡ q) → ((c : ℕ) → ¬ (c ≡ p) → ¬ (c ≡ q) → entry x c *ℤ entry w c ≡ pos 0) → dot x w ≡ entry x p *ℤ entry w p +ℤ entry x q *ℤ entry w q
dot_two [] w p q n h = let a = none_times (pos 0) (entry w p) (pos 0 *ℤ entry w p) refl refl in let b = none_times (pos 0) (entry w q) (pos 0 *ℤ entry w q) refl refl in omega (arith, ints)
dot_two (a ∷ x) [] p q n h = let u = times_zero (entry (a ∷ x) p) (pos 0) (entry (a ∷ x) p *ℤ pos 0) refl refl in let v = times_zero (entry (a ∷ x) q) (pos 0) (entry (a ∷ x) q *ℤ pos 0) refl refl in omega (arith, ints)
dot_two (a ∷ x) (b ∷ w) zero zero n h = absurd (n refl)
dot_two (a ∷ x) (b ∷ w) zero (suc q) n h = let r = dot_one x w q (λ c m. h (suc c) (λ e. omega arith) (λ e. m (omega arith))) in omega (arith, ints)
dot_two (a ∷ x) (b ∷ w) (suc p) zero n h = let r = dot_one x w p (λ c m. h (suc c) (λ e. m (omega arith)) (λ e. omega arith)) in omega (arith, ints)
dot_two (a ∷ x) (b ∷ w) (suc p) (suc q) n h =
    let r = dot_two x w p q (λ e. n (ap suc e)) (λ c m l. h (suc c) (λ e. m (omega arith)) (λ e. l (omega arith))) in
    let z = h 0 (λ e. omega arith) (λ e. omega arith) in
    omega (arith, ints)

-- ---- what is found
nat_eq_no : (a b : ℕ) → ¬ (a ≡ b) → nat_eq a b ≡ false
nat_eq_no a b h = grind (arith, common_steps)

pub found_at_row : (c k : ℕ) (P : List ℕ) (D : List (List Ratio)) (i : ℕ) → i < length P → length D ≡ length P → ((j : ℕ) → j < i → ¬ (column P j ≡ c)) → column P i ≡ c → row_found c k P D ≡ at D i k
found_at_row c k [] D i l e f q = absurd (omega arith)
found_at_row c k (p ∷ P) [] i l e f q = absurd (omega arith)
found_at_row c k (p ∷ P) (r ∷ D) zero l e f q = let t = eq-eqb p c q in rw t refl
found_at_row c k (p ∷ P) (r ∷ D) (suc i) l e f q = let t = nat_eq_no p c (f 0 (omega arith)) in rw t (found_at_row c k P D i (omega arith) (omega arith) (λ j lj. f (suc j) (omega arith)) q)

pub found_no_row : (c k : ℕ) (P : List ℕ) (D : List (List Ratio)) → length D ≡ length P → ((j : ℕ) → j < length P → ¬ (column P j ≡ c)) → row_found c k P D ≡ ratio_of (pos 0) (pos 1)
found_no_row c k [] D e f = refl
found_no_row c k (p ∷ P) [] e f = refl
found_no_row c k (p ∷ P) (r ∷ D) e f = let t = nat_eq_no p c (f 0 (omega arith)) in rw t (found_no_row c k P D (omega arith) (λ j lj. f (suc j) (omega arith)))

-- the value of another column: that of its row, or 0
pub value_found : (n k : ℕ) (P : List ℕ) (D : List (List Ratio)) (c i : ℕ) → ¬ (c ≡ n) → i < length P → length D ≡ length P → ((j : ℕ) → j < i → ¬ (column P j ≡ c)) → column P i ≡ c → solution_at n k P D c ≡ at D i k
value_found n k P D c i ne li e before own = let t = nat_eq_no c n ne in rw t (found_at_row c k P D i li e before own)

pub value_none : (n k : ℕ) (P : List ℕ) (D : List (List Ratio)) (c : ℕ) → ¬ (c ≡ n) → length D ≡ length P → ((j : ℕ) → j < length P → ¬ (column P j ≡ c)) → solution_at n k P D c ≡ ratio_of (pos 0) (pos 1)
value_none n k P D c ne e none = let t = nat_eq_no c n ne in rw t (found_no_row c k P D e none)

module _ (S : List Row) (P N : List ℕ) (D : List (List Ratio)) (m k : ℕ) (t : IsDictionaryOf S P N D) (count : length D ≡ length P) (ap' : IsApart m P N) (lk : k < length N) (cover : (c : ℕ) → c < m → IsCovered P N c)
    (width : (i c : ℕ) → i < length S → ¬ (c < m) → entry (row_at S i) c ≡ pos 0) where
  wide : (i : ℕ) → i < length P → i < length t.whole
  wide i li = let a = t.tableau.tableau.as_many in omega arith

  different : (i j : ℕ) → i < length P → j < length P → ¬ (i ≡ j) → ¬ (column P i ≡ column P j)
  different i j li lj n e =
      let a = t.tableau.tableau.positive i (wide i li) in
      let b = subst (λ c. entry (row_at t.whole i) c ≡ pos 0) (sym e) (t.tableau.tableau.solved i j (wide i li) (wide j lj) n) in
      omega (arith, ints)

  pub at_own : solution_at (column N k) k P D (column N k) ≡ ratio_of (pos 1) (pos 1)
  at_own = let e = eq-eqb (column N k) (column N k) refl in rw e refl

  pub at_basic : (i : ℕ) → i < length P → solution_at (column N k) k P D (column P i) ≡ at D i k
  at_basic i li =
      let e = nat_eq_no (column P i) (column N k) (ap'.apart i k li lk) in
      rw e (found_at_row (column P i) k P D i li count (λ j lj q. different j i (omega arith) li (λ u. omega arith) q) refl)

  pub at_other : (c : ℕ) → ¬ (c ≡ column N k) → ((j : ℕ) → j < length P → ¬ (column P j ≡ c)) → solution_at (column N k) k P D c ≡ ratio_of (pos 0) (pos 1)
  at_other c n f = let e = nat_eq_no c (column N k) n in rw e (found_no_row c k P D count f)

  pub value_at : (c : ℕ) → c < m → ratio_at (solution (column N k) k P D m) c ≡ solution_at (column N k) k P D c
  value_at c lc = get_or-map (solution_at (column N k) k P D) (upward 0 m) c 0 _ (let l = length_upward 0 m in omega arith) ∙ ap (solution_at (column N k) k P D) (upward_at 0 m c lc ∙ omega arith)

  pub length_is : length (solution (column N k) k P D m) ≡ m
  length_is = length-map (upward 0 m) (solution_at (column N k) k P D) ∙ length_upward 0 m

  -- each column is the own one, a basic one, or holds 0
  pub sorted : (c : ℕ) → (c ≡ column N k) ⊎ (((i : ℕ) × (i < length P) × (column P i ≡ c)) ⊎ (solution_at (column N k) k P D c ≡ ratio_of (pos 0) (pos 1)))
  sorted c = elim (ℕ_discrete c (column N k)) [
    | yes e ↦ inl e
    | no n ↦ elim (first_place c P) [ inl w ↦ inr (inl (w.0, w.1, w.2)) | inr f ↦ inr (inr (at_other c n f)) ]
  ]

  pub positive_at : (c : ℕ) → pos 0 <ℤ (solution_at (column N k) k P D c).den
  positive_at c = elim (sorted c) [
    | inl e ↦ subst (λ u. pos 0 <ℤ (solution_at (column N k) k P D u).den) (sym e) (subst (λ (r : Ratio). pos 0 <ℤ r.den) (sym at_own) (omega (arith, ints)))
    | inr (inl (i, li, e)) ↦ subst (λ u. pos 0 <ℤ (solution_at (column N k) k P D u).den) e (subst (λ (r : Ratio). pos 0 <ℤ r.den) (sym (at_basic i li)) (t.entries i k li lk).reduced.positive)
    | inr (inr z) ↦ subst (λ (r : Ratio). pos 0 <ℤ r.den) (sym z) (omega (arith, ints))
  ]

  denominators : (c : ℕ) → c < length (solution (column N k) k P D m) → pos 0 <ℤ (ratio_at (solution (column N k) k P D m) c).den
  denominators c lc = subst (λ (r : Ratio). pos 0 <ℤ r.den) (sym (value_at c (rw length_is at lc))) (positive_at c)

  module _ (L : ℤ) (w : Row) (h : IsTimes L (solution (column N k) k P D m) w) where
    read : (c : ℕ) → c < m → entry w c *ℤ (solution_at (column N k) k P D c).den ≡ L *ℤ (solution_at (column N k) k P D c).num
    read c lc = subst (λ (r : Ratio). entry w c *ℤ r.den ≡ L *ℤ r.num) (value_at c lc) (h.same c (rw length_is lc))

    past : (x : Row) (i : ℕ) → length x ≤ i → entry x i ≡ pos 0
    past [] i l = refl
    past (a ∷ x) zero l = absurd (omega arith)
    past (a ∷ x) (suc i) l = past x i (omega arith)

    zero_entry : (c : ℕ) → solution_at (column N k) k P D c ≡ ratio_of (pos 0) (pos 1) → entry w c ≡ pos 0
    zero_entry c z = elim (dec_lt c m) [
      | yes l ↦ at_zero (entry w c) L (subst (λ (r : Ratio). entry w c *ℤ r.den ≡ L *ℤ r.num) z (read c l))
      | no n ↦ past w c (let a = h.cols in let b = length_is in omega arith)
    ]
      where
        at_zero : (u L : ℤ) → u *ℤ pos 1 ≡ L *ℤ pos 0 → u ≡ pos 0
        at_zero u L e = let f = simp ring at e in f

    own_entry : entry w (column N k) ≡ L
    own_entry = at_one (entry w (column N k)) L (subst (λ (r : Ratio). entry w (column N k) *ℤ r.den ≡ L *ℤ r.num) at_own (read (column N k) (ap'.other_inside k lk)))
      where
        at_one : (u L : ℤ) → u *ℤ pos 1 ≡ L *ℤ pos 1 → u ≡ L
        at_one u L e = let f = simp ring at e in f

    basic_entry : (i : ℕ) → i < length P → entry w (column P i) *ℤ (at D i k).den ≡ L *ℤ (at D i k).num
    basic_entry i li = subst (λ (r : Ratio). entry w (column P i) *ℤ r.den ≡ L *ℤ r.num) (at_basic i li) (read (column P i) (ap'.basic_inside i li))

    row_zero : (i : ℕ) → i < length P → dot (row_at t.whole i) w ≡ pos 0
    row_zero i li =
        let x = row_at t.whole i in
        let e = t.entries i k li lk in
        dot_two x w (column N k) (column P i) (λ q. ap'.apart i k li lk (sym q)) others
        ∙ cancel (entry x (column N k)) (entry x (column P i)) (entry w (column N k)) (entry w (column P i)) (at D i k).num (at D i k).den e.reduced.positive own_entry (basic_entry i li) e.same
      where
        others : (c : ℕ) → ¬ (c ≡ column N k) → ¬ (c ≡ column P i) → entry (row_at t.whole i) c *ℤ entry w c ≡ pos 0
        others c n q = elim (sorted c) [
          | inl e ↦ absurd (n e)
          | inr (inl (j, lj, e)) ↦ none_times (entry (row_at t.whole i) c) (entry w c) (entry (row_at t.whole i) c *ℤ entry w c) refl
              (subst (λ u. entry (row_at t.whole i) u ≡ pos 0) e (t.tableau.tableau.solved i j (wide i li) (wide j lj) (λ u. q (sym e ∙ ap (column P) (sym u)))))
          | inr (inr z) ↦ times_zero (entry (row_at t.whole i) c) (entry w c) (entry (row_at t.whole i) c *ℤ entry w c) refl (zero_entry c z)
        ]

        cancel : (a b u v n d : ℤ) → pos 0 <ℤ d → u ≡ L → v *ℤ d ≡ L *ℤ n → n *ℤ b ≡ neg_ℤ a *ℤ d → a *ℤ u +ℤ b *ℤ v ≡ pos 0
        cancel a b u v n d hd e f g =
            mul_cancel hd
            (let e1 = simp ring at (ap (λ z. (a *ℤ d) *ℤ z) e) in
            let f1 = simp ring at (ap (λ z. b *ℤ z) f) in
            let g1 = simp ring at (ap (λ z. L *ℤ z) g) in
            simp ring (omega (arith, ints)))

    span_zero : (x : Row) → InSpan t.whole x → dot x w ≡ pos 0
    span_zero x s =
        let l = dot_combination_lines w s.d t.whole (λ g a. let p = place_of a in dot_comm w g ∙ subst (λ r. dot r w ≡ pos 0) p.2 (row_zero p.0 (let q = t.tableau.tableau.as_many in let r = p.1 in omega arith))) in
        let e = dot-same w (times s.m x) _ s.same.at in
        dot_comm x w ∙ mul_cancel s.positive (none s.m (dot w x) (dot w (combination s.d t.whole)) _ (sym (dot-times w s.m x) ∙ e) (dot-plus w _ (combination s.d t.whole)) l)
      where
        none : (m u v s' : ℤ) → m *ℤ u ≡ s' → s' ≡ dot w (combination s.c []) +ℤ v → v ≡ pos 0 → m *ℤ u ≡ m *ℤ pos 0
        none m u v s' e f g = let a = dot_combination_lines w s.c [] (λ g' i. elim i [ ]) in simp ring (omega (arith, ints))

pub column_solves : ColumnSolves
column_solves S P N D m k t count ap' lk cover width =
    let w = whole_multiple (solution (column N k) k P D m) (denominators S P N D m k t count ap' lk cover width) in
    record { k = w.0; whole = w.1; times = w.2; solves = λ i li. span_zero S P N D m k t count ap' lk cover width w.0 w.1 w.2 (row_at S i) (span_from t.tableau.span (span_at i li)) }
