-- A variable that is hindered by no row gives a direction.
use Rattle.pm_vector.proofs.Ring.{ring}
use Rattle.pm_vector.proofs.RowLaws.{dot-times, entry-times, length-times}
use Rattle.pm_vector.proofs.Signs.{mul_cancel, mul_nonneg, nonneg_cancel}
use Rattle.pm_vector.specs.Numbers.{Ratio}
use Rattle.pm_vector.specs.Rows.{Row, dot, entry, ratio_at, times}
use Rattle.pm_vector.specs.Bases.{column, row_at}
use Rattle.pm_fraction.specs.Fractions.{ratio_of}
use Rattle.pm_simplex.proofs.KeyColumns.{length_upward, upward_at}
use Rattle.pm_simplex.proofs.Points.{all_places, append_left, append_right, slack_is_signed}
use Rattle.pm_simplex.proofs.Readings.{objective_reading, residual_reading, slack_reading}
use Rattle.pm_simplex.proofs.Solutions.{at_basic, at_own, column_solves, positive_at, sorted, value_at, length_is}
use Rattle.pm_simplex.specs.Comparisons.{IsApart, direction, rows_of}
use Rattle.pm_programs.specs.Dictionaries.{at}
use Rattle.pm_simplex.specs.ProgramLaws.{IsSystem}
use Rattle.pm_geom.specs.Programs.{HasValue, IsDirection, IsTimes, Solves}
use Rattle.pm_simplex.specs.Running.{IsFreeColumn, IsSlackColumn, IsState, IsUnboundedAt}
use Rattle.pm_simplex.specs.Solutions.{IsSettled, IsSolution, UnboundedGivesDirection, solution, solution_at, turned}
use Rattle.pm_simplex.specs.States.{auxiliary, columns_of, is_signed, objective_column, upward}
use Rattle.pm_simplex.specs.declared.dictionary.Dictionary.{Dictionary}
use Rattle.pm_simplex.specs.declared.entering.Entering.{Entering}
use Rattle.pm_simplex.specs.declared.layout.Layout.{Layout}
use Rattle.std.proofs.Common.{ap, arith, inl, inr, subst, sym, take, ◌∙◌}
use Rattle.std.proofs.lemmas.Int.{by_lt_z, ints}
use Rattle.std.proofs.lemmas.List.{get_or-map, get_or-take, length-append, length-map, length-take-le}
use Rattle.std.specs.Prelude.{Bool, IsTrue, List, [], length, true, ℕ, ◌+◌, ◌++◌, ◌<◌, ◌∷◌, ◌≡◌, ◌≤◌, ◌⊎◌}
use lib.IntN.{pos, ℤ, ◌*ℤ◌, ◌-ℤ◌}
use lib.Signed.{◌<ℤ◌, ◌≤ℤ◌}

later_place : (y : Layout) (c : ℕ) (up : Bool) → (IsFreeColumn y c ⊎ (IsSlackColumn y c × (up ≡ true))) → 0 < c
later_place y c up (inl f) = f.0
later_place y c up (inr s) = let a = s.0.0 in let b = y.some in omega arith

slack_enters_up : (y : Layout) (c : ℕ) (up : Bool) → (IsFreeColumn y c ⊎ (IsSlackColumn y c × (up ≡ true))) → y.cols ≤ c → direction up ≡ pos 1
slack_enters_up y c up (inl f) l = absurd (let a = f.1 in omega arith)
slack_enters_up y c up (inr s) l = ap direction s.1

module _ (y : Layout) (A B : List Row) (c : List Ratio) (C : Row) (k : ℤ) (S : List Row) (d : Dictionary) (z : ℕ) (e : Entering) (tc : IsTimes k c C) (sys : IsSystem y A B C k S) (st : IsState y S d z) (oz : column d.basis.items z ≡ objective_column y) (apart : IsApart (columns_of y) d.basis.items d.others.items) (set : IsSettled y d e.place) (un : IsUnboundedAt y d z e) where
  count : length (rows_of d) ≡ length d.basis.items
  count = length-map d.rows.items (λ r. r.items) ∙ st.shaped.rectangular.count

  width : (i v : ℕ) → i < length S → ¬ (v < columns_of y) → entry (row_at S i) v ≡ pos 0
  width i v li n = sys.end i v (omega arith)

  sol : IsSolution S (solution (column d.others.items e.place) e.place d.basis.items (rows_of d) (columns_of y))
  sol = column_solves S d.basis.items d.others.items (rows_of d) (columns_of y) e.place st.dictionary count apart un.entering.within st.shaped.cover width

  read : (v : ℕ) → v < columns_of y → entry sol.whole v *ℤ (solution_at (column d.others.items e.place) e.place d.basis.items (rows_of d) v).den ≡ sol.k *ℤ (solution_at (column d.others.items e.place) e.place d.basis.items (rows_of d) v).num
  read v lv =
      subst (λ (r : Ratio). entry sol.whole v *ℤ r.den ≡ sol.k *ℤ r.num) (value_at S d.basis.items d.others.items (rows_of d) (columns_of y) e.place st.dictionary count apart un.entering.within st.shaped.cover width v lv)
      (sol.times.same v (rw (length_is S d.basis.items d.others.items (rows_of d) (columns_of y) e.place st.dictionary count apart un.entering.within st.shaped.cover width) lv))

  positive : (v : ℕ) → pos 0 <ℤ (solution_at (column d.others.items e.place) e.place d.basis.items (rows_of d) v).den
  positive v = positive_at S d.basis.items d.others.items (rows_of d) (columns_of y) e.place st.dictionary count apart un.entering.within st.shaped.cover width v

  zero_entry : (v : ℕ) → v < columns_of y → (solution_at (column d.others.items e.place) e.place d.basis.items (rows_of d) v).num ≡ pos 0 → entry sol.whole v ≡ pos 0
  zero_entry v lv q = none (entry sol.whole v) (solution_at (column d.others.items e.place) e.place d.basis.items (rows_of d) v).den (solution_at (column d.others.items e.place) e.place d.basis.items (rows_of d) v).num sol.k (positive v) (read v lv) q
    where
      none : (u m n L : ℤ) → pos 0 <ℤ m → u *ℤ m ≡ L *ℤ n → n ≡ pos 0 → u ≡ pos 0
      none u m n L hm q h = mul_cancel hm (let f = simp (h, ring) at q in simp ring (omega (arith, ints)))

  up_entry : (v : ℕ) → v < columns_of y → pos 0 ≤ℤ (direction e.up *ℤ (solution_at (column d.others.items e.place) e.place d.basis.items (rows_of d) v).num) → pos 0 ≤ℤ (direction e.up *ℤ entry sol.whole v)
  up_entry v lv h = up (direction e.up) (entry sol.whole v) (solution_at (column d.others.items e.place) e.place d.basis.items (rows_of d) v).den (solution_at (column d.others.items e.place) e.place d.basis.items (rows_of d) v).num sol.k (positive v) sol.times.positive (read v lv) h
    where
      up : (s u m n L : ℤ) → pos 0 <ℤ m → pos 0 <ℤ L → u *ℤ m ≡ L *ℤ n → pos 0 ≤ℤ (s *ℤ n) → pos 0 ≤ℤ (s *ℤ u)
      up s u m n L hm hL q h =
          nonneg_cancel hm
          (let l0 : pos 0 ≤ℤ L = omega (arith, ints) in
          let a = simp ring at (mul_nonneg l0 h) in
          let f = simp ring at (ap (λ t. s *ℤ t) q) in
          simp ring (omega (arith, ints)))

  slack_up : (i : ℕ) → i < y.slacks → pos 0 ≤ℤ (direction e.up *ℤ (solution_at (column d.others.items e.place) e.place d.basis.items (rows_of d) (y.cols + i)).num)
  slack_up i li = elim (sorted S d.basis.items d.others.items (rows_of d) (columns_of y) e.place st.dictionary count apart un.entering.within st.shaped.cover width (y.cols + i)) [
    | inl q ↦ own_up (subst (λ u. solution_at (column d.others.items e.place) e.place d.basis.items (rows_of d) u ≡ ratio_of (pos 1) (pos 1)) (sym q) at_own') (slack_enters_up y (column d.others.items e.place) e.up un.entering.may_enter (omega arith))
    | inr (inl (j, lj, q)) ↦ (
        let f = at_basic S d.basis.items d.others.items (rows_of d) (columns_of y) e.place st.dictionary count apart un.entering.within st.shaped.cover width j lj in
        subst (λ u. pos 0 ≤ℤ (direction e.up *ℤ (solution_at (column d.others.items e.place) e.place d.basis.items (rows_of d) u).num)) q
        (subst (λ (r : Ratio). pos 0 ≤ℤ (direction e.up *ℤ r.num)) (sym f)
        (by_lt_z (direction e.up *ℤ (at (rows_of d) j e.place).num) (pos 0)
        (λ n. absurd (un.unhindered j lj (record { signed = subst (λ u. IsTrue (is_signed y u)) (sym q) (slack_is_signed y i li); falls = n })))
        (λ n. n))))
    | inr (inr q) ↦ subst (λ (r : Ratio). pos 0 ≤ℤ (direction e.up *ℤ r.num)) (sym q) (none (direction e.up))
  ]
    where
      at_own' : solution_at (column d.others.items e.place) e.place d.basis.items (rows_of d) (column d.others.items e.place) ≡ ratio_of (pos 1) (pos 1)
      at_own' = at_own S d.basis.items d.others.items (rows_of d) (columns_of y) e.place st.dictionary count apart un.entering.within st.shaped.cover width

      own_up : {r : Ratio} {s : ℤ} → r ≡ ratio_of (pos 1) (pos 1) → s ≡ pos 1 → pos 0 ≤ℤ (s *ℤ r.num)
      own_up {r} {s} q h = subst (λ (r : Ratio). pos 0 ≤ℤ (s *ℤ r.num)) (sym q) (subst (λ s. pos 0 ≤ℤ (s *ℤ pos 1)) (sym h) (omega (arith, ints)))

      none : (s : ℤ) → pos 0 ≤ℤ (s *ℤ pos 0)
      none s = simp ring (omega (arith, ints))

  values : List Ratio
  values = solution (column d.others.items e.place) e.place d.basis.items (rows_of d) y.cols

  len : length (turned (direction e.up) (solution (column d.others.items e.place) e.place d.basis.items (rows_of d) y.cols)) ≡ y.cols
  len = length-map (solution (column d.others.items e.place) e.place d.basis.items (rows_of d) y.cols) (λ (r : Ratio). ratio_of (direction e.up *ℤ r.num) r.den) ∙ length-map (upward 0 y.cols) (solution_at (column d.others.items e.place) e.place d.basis.items (rows_of d)) ∙ length_upward 0 y.cols

  is : (i : ℕ) → i < y.cols → ratio_at (turned (direction e.up) (solution (column d.others.items e.place) e.place d.basis.items (rows_of d) y.cols)) i
      ≡ ratio_of (direction e.up *ℤ (solution_at (column d.others.items e.place) e.place d.basis.items (rows_of d) i).num) (solution_at (column d.others.items e.place) e.place d.basis.items (rows_of d) i).den
  is i li =
      get_or-map (λ (r : Ratio). ratio_of (direction e.up *ℤ r.num) r.den) (solution (column d.others.items e.place) e.place d.basis.items (rows_of d) y.cols) i (ratio_of (pos 0) (pos 1)) _
      (rw length-map (let l = length_upward 0 y.cols in omega arith))
      ∙ ap (λ (r : Ratio). ratio_of (direction e.up *ℤ r.num) r.den)
      (get_or-map (solution_at (column d.others.items e.place) e.place d.basis.items (rows_of d)) (upward 0 y.cols) i 0 _ (let l = length_upward 0 y.cols in omega arith) ∙ ap (solution_at (column d.others.items e.place) e.place d.basis.items (rows_of d)) (upward_at 0 y.cols i li ∙ omega arith))

  direction_times : IsTimes sol.k (turned (direction e.up) (solution (column d.others.items e.place) e.place d.basis.items (rows_of d) y.cols)) (times (direction e.up) (take y.cols sol.whole))
  direction_times =
      let big = length_is S d.basis.items d.others.items (rows_of d) (columns_of y) e.place st.dictionary count apart un.entering.within st.shaped.cover width in
      record {
        positive = sol.times.positive;
        cols = length-times (direction e.up) (take y.cols sol.whole) ∙ length-take-le y.cols sol.whole (let a = sol.times.cols in omega arith) ∙ sym len;
        denominators = λ i li. let l : i < y.cols = rw len at li in subst (λ (r : Ratio). pos 0 <ℤ r.den) (sym (is i l)) (positive i);
        same = λ i li.
            let l : i < y.cols = rw len at li in
            subst (λ u. u *ℤ (ratio_at (turned (direction e.up) (solution (column d.others.items e.place) e.place d.basis.items (rows_of d) y.cols)) i).den ≡ sol.k *ℤ (ratio_at (turned (direction e.up) (solution (column d.others.items e.place) e.place d.basis.items (rows_of d) y.cols)) i).num)
            (sym (entry-times (direction e.up) (take y.cols sol.whole) i ∙ ap (λ t. direction e.up *ℤ t) (get_or-take y.cols sol.whole i (pos 0) l)))
            (subst (λ (r : Ratio). (direction e.up *ℤ entry sol.whole i) *ℤ r.den ≡ sol.k *ℤ r.num) (sym (is i l)) (both_turned (direction e.up) _ _ _ sol.k (read i (omega arith))));
      }
    where
      both_turned : (s u m n L : ℤ) → u *ℤ m ≡ L *ℤ n → (s *ℤ u) *ℤ m ≡ L *ℤ (s *ℤ n)
      both_turned s u m n L q = let f = simp ring at (ap (λ t. s *ℤ t) q) in simp ring (omega (arith, ints))

  solves : Solves A B (times (direction e.up) (take y.cols sol.whole))
  solves = record {
    inequalities = all_places (λ a. pos 0 ≤ℤ dot a (times (direction e.up) (take y.cols sol.whole))) A (λ i li.
        let l : i < y.slacks = (let a = sys.slacks in omega arith) in
        let q = slack_reading y A B C k S sys sol.whole sol.solves i l in
        let u = up_entry (y.cols + i) (omega arith) (slack_up i l) in
        let n = zero_entry (auxiliary y) (omega arith) set.auxiliary_zero in
        let r : row_at ((A ++ B) ++ C ∷ []) i ≡ row_at A i = append_left (A ++ B) (C ∷ []) i (let q = length-append A B in omega arith) ∙ append_left A B i li in
        subst (λ a. pos 0 ≤ℤ dot a (times (direction e.up) (take y.cols sol.whole))) r (subst (λ t. pos 0 ≤ℤ t) (sym (dot-times _ (direction e.up) (take y.cols sol.whole))) (reads (direction e.up) _ _ _ q n u)));
    equations = all_places (λ b. dot b (times (direction e.up) (take y.cols sol.whole)) ≡ pos 0) B (λ j lj.
        let l : j < y.residuals = (let a = sys.residuals in omega arith) in
        let q = residual_reading y A B C k S sys sol.whole sol.solves (y.slacks + j) (omega arith) (omega arith) in
        let n = zero_entry (y.cols + y.slacks + j) (omega arith) (set.residuals_zero j l) in
        let r : row_at ((A ++ B) ++ C ∷ []) (y.slacks + j) ≡ row_at B j =
        append_left (A ++ B) (C ∷ []) (y.slacks + j) (let q = length-append A B in let s = sys.slacks in omega arith) ∙ ap (row_at (A ++ B)) (let s = sys.slacks in omega arith) ∙ append_right A B j in
        subst (λ b. dot b (times (direction e.up) (take y.cols sol.whole)) ≡ pos 0) r (dot-times _ (direction e.up) (take y.cols sol.whole) ∙ ap (λ t. direction e.up *ℤ t) (q ∙ ap (entry sol.whole) (omega arith) ∙ n) ∙ (simp ring)));
  }
    where
      reads : (s t o a : ℤ) → t ≡ o -ℤ a → a ≡ pos 0 → pos 0 ≤ℤ (s *ℤ o) → pos 0 ≤ℤ (s *ℤ t)
      reads s t o a q n u = let f : t ≡ o = omega (arith, ints) in subst (λ x. pos 0 ≤ℤ (s *ℤ x)) (sym f) u

  direction_is : IsDirection A B (turned (direction e.up) (solution (column d.others.items e.place) e.place d.basis.items (rows_of d) y.cols))
  direction_is = record {
    some = rw len y.some;
    first = ap (λ (r : Ratio). r.num) (is 0 y.some) ∙ first_zero;
    k = sol.k;
    whole = times (direction e.up) (take y.cols sol.whole);
    times = direction_times;
    solves = solves;
  }
    where
      first_zero : direction e.up *ℤ (solution_at (column d.others.items e.place) e.place d.basis.items (rows_of d) 0).num ≡ pos 0
      first_zero = elim (sorted S d.basis.items d.others.items (rows_of d) (columns_of y) e.place st.dictionary count apart un.entering.within st.shaped.cover width 0) [
        | inl q ↦ absurd (let l = later_place y (column d.others.items e.place) e.up un.entering.may_enter in omega arith)
        | inr (inl (j, lj, q)) ↦ absurd (let l = st.shaped.variables j lj in omega arith)
        | inr (inr q) ↦ ap (λ (r : Ratio). direction e.up *ℤ r.num) q ∙ (simp ring)
      ]

  value_is : HasValue c (turned (direction e.up) (solution (column d.others.items e.place) e.place d.basis.items (rows_of d) y.cols)) (ratio_of (direction e.up *ℤ (at (rows_of d) z e.place).num) (at (rows_of d) z e.place).den)
  value_is =
      let q = objective_reading y A B C k S sys sol.whole sol.solves in
      let f = at_basic S d.basis.items d.others.items (rows_of d) (columns_of y) e.place st.dictionary count apart un.entering.within st.shaped.cover width z st.within in
      let g = subst (λ (r : Ratio). entry sol.whole (column d.basis.items z) *ℤ r.den ≡ sol.k *ℤ r.num) f (read (column d.basis.items z) (apart.basic_inside z st.within)) in
      let g' = subst (λ v. entry sol.whole v *ℤ (at (rows_of d) z e.place).den ≡ sol.k *ℤ (at (rows_of d) z e.place).num) oz g in
      let r : row_at ((A ++ B) ++ C ∷ []) (y.slacks + y.residuals) ≡ C = ap (row_at ((A ++ B) ++ C ∷ [])) (let q = length-append A B in let s = sys.slacks in let t = sys.residuals in omega arith) ∙ append_right (A ++ B) (C ∷ []) 0 in
      record {
        k = k;
        h = sol.k;
        objective = C;
        point = times (direction e.up) (take y.cols sol.whole);
        objective_times = tc;
        point_times = direction_times;
        positive = (st.dictionary.entries z e.place st.within un.entering.within).reduced.positive;
        value = ap (λ t. t *ℤ (at (rows_of d) z e.place).den) (dot-times C (direction e.up) (take y.cols sol.whole))
            ∙ value_same (direction e.up) (dot C (take y.cols sol.whole)) (entry sol.whole (objective_column y)) (at (rows_of d) z e.place).den (at (rows_of d) z e.place).num sol.k (subst (λ u. dot u (take y.cols sol.whole) ≡ k *ℤ entry sol.whole (objective_column y)) r q) g';
      }
    where
      value_same : (s u w m n L : ℤ) → u ≡ k *ℤ w → w *ℤ m ≡ L *ℤ n → (s *ℤ u) *ℤ m ≡ (k *ℤ L) *ℤ (s *ℤ n)
      value_same s u w m n L q g =
          let a = simp ring at (ap (λ t. (s *ℤ m) *ℤ t) q) in
          let f = simp ring at (ap (λ t. (s *ℤ k) *ℤ t) g) in
          simp ring (omega (arith, ints))

pub unbounded_gives_direction : UnboundedGivesDirection
unbounded_gives_direction y A B c C k S d z e tc sys st oz set un = (direction_is y A B c C k S d z e tc sys st oz st.apart set un, value_is y A B c C k S d z e tc sys st oz st.apart set un, un.entering.improves)
