-- A feasible dictionary gives a point of its value.
use Rattle.pm_vector.proofs.Ring.{ring}
use Rattle.pm_vector.proofs.Signs.{mul_cancel, mul_nonneg, nonneg_cancel}
use Rattle.pm_vector.specs.Numbers.{Ratio}
use Rattle.pm_vector.specs.Rows.{Row, dot, entry, ratio_at}
use Rattle.pm_vector.specs.Bases.{column, row_at}
use Rattle.pm_simplex.proofs.KeyColumns.{length_upward, upward_at}
use Rattle.pm_simplex.proofs.Readings.{objective_reading, residual_reading, slack_reading}
use Rattle.pm_simplex.proofs.Solutions.{at_basic, column_solves, positive_at, sorted, value_at, length_is}
use Rattle.pm_simplex.specs.Comparisons.{IsApart, rows_of}
use Rattle.pm_programs.specs.Dictionaries.{at}
use Rattle.pm_programs.specs.Lex.{IsLexPositive, keys}
use Rattle.pm_simplex.specs.ProgramLaws.{IsSystem}
use Rattle.pm_geom.specs.Programs.{HasValue, IsPoint, IsTimes, Solves}
use Rattle.pm_simplex.specs.Running.{IsState}
use Rattle.pm_simplex.specs.Solutions.{FeasibleGivesPoint, IsSettled, IsSolution, solution, solution_at}
use Rattle.pm_simplex.specs.States.{auxiliary, columns_of, is_signed, objective_column, upward}
use Rattle.pm_simplex.specs.declared.dictionary.Dictionary.{Dictionary}
use Rattle.pm_simplex.specs.declared.layout.Layout.{Layout}
use Rattle.std.proofs.Common.{ap, arith, inl, inr, refl, subst, sym, take, ◌∙◌}
use Rattle.std.proofs.lemmas.Grind.{common_steps}
use Rattle.std.proofs.lemmas.Int.{ints}
use Rattle.std.proofs.lemmas.List.{get_or-map, get_or-take, length-append, length-map, length-take-le}
use Rattle.std.specs.List.{AllByRecursion}
use Rattle.std.specs.Prelude.{IsTrue, List, [], length, suc, zero, ℕ, ◌+◌, ◌++◌, ◌<◌, ◌∷◌, ◌≡◌, ◌≤◌}
use lib.IntN.{neg_ℤ, pos, ℤ, ◌*ℤ◌}
use lib.Signed.{◌<ℤ◌, ◌≤ℤ◌}

pub all_places : (P : Row → Type 0) (X : List Row) → ((i : ℕ) → i < length X → P (row_at X i)) → AllByRecursion P X
all_places P [] f = tt
all_places P (x ∷ X) f = (f 0 (omega arith), all_places P X (λ i l. f (suc i) (omega arith)))

pub append_left : (X Y : List Row) (i : ℕ) → i < length X → row_at (X ++ Y) i ≡ row_at X i
append_left [] Y i l = absurd (omega arith)
append_left (x ∷ X) Y zero l = refl
append_left (x ∷ X) Y (suc i) l = append_left X Y i (omega arith)

pub append_right : (X Y : List Row) (i : ℕ) → row_at (X ++ Y) (length X + i) ≡ row_at Y i
append_right [] Y i = ap (row_at Y) (omega arith)
append_right (x ∷ X) Y i = ap (row_at ((x ∷ X) ++ Y)) (let e : suc (length X) + i ≡ suc (length X + i) = omega arith in e) ∙ append_right X Y i

pub slack_is_signed : (y : Layout) (i : ℕ) → i < y.slacks → IsTrue (is_signed y (y.cols + i))
slack_is_signed y i l = let a : y.cols ≤ y.cols + i = omega arith in let b : y.cols + i < y.cols + y.slacks = omega arith in grind (arith, common_steps)

pub first_up : (K : List ℕ) (x : Row) → IsLexPositive (keys (0 ∷ K) x) → pos 0 ≤ℤ neg_ℤ (entry x 0)
first_up K x (inl h) = omega (arith, ints)
first_up K x (inr h) = let e = h.0 in omega (arith, ints)

module _ (y : Layout) (A B : List Row) (c : List Ratio) (C : Row) (k : ℤ) (S : List Row) (d : Dictionary) (z : ℕ) (tc : IsTimes k c C) (sys : IsSystem y A B C k S) (st : IsState y S d z) (oz : column d.basis.items z ≡ objective_column y) (apart : IsApart (columns_of y) d.basis.items d.others.items) (set : IsSettled y d 0) where
  count : length (rows_of d) ≡ length d.basis.items
  count = length-map d.rows.items (λ r. r.items) ∙ st.shaped.rectangular.count

  width : (i v : ℕ) → i < length S → ¬ (v < columns_of y) → entry (row_at S i) v ≡ pos 0
  width i v li n = sys.end i v (omega arith)

  sol : IsSolution S (solution (column d.others.items 0) 0 d.basis.items (rows_of d) (columns_of y))
  sol = column_solves S d.basis.items d.others.items (rows_of d) (columns_of y) 0 st.dictionary count apart st.some st.shaped.cover width

  F : ℕ → Ratio
  F v = solution_at (column d.others.items 0) 0 d.basis.items (rows_of d) v

  read : (v : ℕ) → v < columns_of y → entry sol.whole v *ℤ (solution_at (column d.others.items 0) 0 d.basis.items (rows_of d) v).den ≡ sol.k *ℤ (solution_at (column d.others.items 0) 0 d.basis.items (rows_of d) v).num
  read v lv =
      subst (λ (r : Ratio). entry sol.whole v *ℤ r.den ≡ sol.k *ℤ r.num) (value_at S d.basis.items d.others.items (rows_of d) (columns_of y) 0 st.dictionary count apart st.some st.shaped.cover width v lv)
      (sol.times.same v (rw (length_is S d.basis.items d.others.items (rows_of d) (columns_of y) 0 st.dictionary count apart st.some st.shaped.cover width) lv))

  positive : (v : ℕ) → pos 0 <ℤ (solution_at (column d.others.items 0) 0 d.basis.items (rows_of d) v).den
  positive v = positive_at S d.basis.items d.others.items (rows_of d) (columns_of y) 0 st.dictionary count apart st.some st.shaped.cover width v

  zero_entry : (v : ℕ) → v < columns_of y → (solution_at (column d.others.items 0) 0 d.basis.items (rows_of d) v).num ≡ pos 0 → entry sol.whole v ≡ pos 0
  zero_entry v lv e = none (entry sol.whole v) (solution_at (column d.others.items 0) 0 d.basis.items (rows_of d) v).den (solution_at (column d.others.items 0) 0 d.basis.items (rows_of d) v).num sol.k (positive v) (read v lv) e
    where
      none : (u m n L : ℤ) → pos 0 <ℤ m → u *ℤ m ≡ L *ℤ n → n ≡ pos 0 → u ≡ pos 0
      none u m n L hm q h = mul_cancel hm (let f = simp (h, ring) at q in simp ring (omega (arith, ints)))

  up_entry : (v : ℕ) → v < columns_of y → pos 0 ≤ℤ (solution_at (column d.others.items 0) 0 d.basis.items (rows_of d) v).num → pos 0 ≤ℤ entry sol.whole v
  up_entry v lv h = up (entry sol.whole v) (solution_at (column d.others.items 0) 0 d.basis.items (rows_of d) v).den (solution_at (column d.others.items 0) 0 d.basis.items (rows_of d) v).num sol.k (positive v) sol.times.positive (read v lv) h
    where
      up : (u m n L : ℤ) → pos 0 <ℤ m → pos 0 <ℤ L → u *ℤ m ≡ L *ℤ n → pos 0 ≤ℤ n → pos 0 ≤ℤ u
      up u m n L hm hL q h = nonneg_cancel hm (let l0 : pos 0 ≤ℤ L = omega (arith, ints) in let a = mul_nonneg l0 h in omega (arith, ints))

  -- the value of a slack
  slack_up : (i : ℕ) → i < y.slacks → pos 0 ≤ℤ (solution_at (column d.others.items 0) 0 d.basis.items (rows_of d) (y.cols + i)).num
  slack_up i li = elim (sorted S d.basis.items d.others.items (rows_of d) (columns_of y) 0 st.dictionary count apart st.some st.shaped.cover width (y.cols + i)) [
    | inl e ↦ absurd (let a = st.constant in let b = y.some in omega arith)
    | inr (inl (j, lj, e)) ↦ (
        let f = at_basic S d.basis.items d.others.items (rows_of d) (columns_of y) 0 st.dictionary count apart st.some st.shaped.cover width j lj in
        let w = st.dictionary.entries j 0 lj st.some in
        let wj : j < length st.dictionary.whole = (let a = st.dictionary.tableau.tableau.as_many in omega arith) in
        let p = first_up (upward y.cols y.slacks) (row_at st.dictionary.whole j) (st.feasible.positive j wj (subst (λ u. IsTrue (is_signed y u)) (sym e) (slack_is_signed y i li))) in
        subst (λ u. pos 0 ≤ℤ (solution_at (column d.others.items 0) 0 d.basis.items (rows_of d) u).num) e
        (subst (λ (r : Ratio). pos 0 ≤ℤ r.num) (sym f)
        (up (at (rows_of d) j 0).num (at (rows_of d) j 0).den (entry (row_at st.dictionary.whole j) 0) (entry (row_at st.dictionary.whole j) (column d.basis.items j)) (st.dictionary.tableau.tableau.positive j wj) w.reduced.positive
        (subst (λ u. (at (rows_of d) j 0).num *ℤ entry (row_at st.dictionary.whole j) (column d.basis.items j) ≡ neg_ℤ (entry (row_at st.dictionary.whole j) u) *ℤ (at (rows_of d) j 0).den) st.constant w.same) p)))
    | inr (inr q) ↦ subst (λ (r : Ratio). pos 0 ≤ℤ r.num) (sym q) (omega (arith, ints))
  ]
    where
      up : (n m x e : ℤ) → pos 0 <ℤ e → pos 0 <ℤ m → n *ℤ e ≡ neg_ℤ x *ℤ m → pos 0 ≤ℤ neg_ℤ x → pos 0 ≤ℤ n
      up n m x e he hm q h = nonneg_cancel he (let m0 : pos 0 ≤ℤ m = omega (arith, ints) in let a = mul_nonneg h m0 in omega (arith, ints))

  point_times : IsTimes sol.k (solution 0 0 d.basis.items (rows_of d) y.cols) (take y.cols sol.whole)
  point_times =
      let big = length_is S d.basis.items d.others.items (rows_of d) (columns_of y) 0 st.dictionary count apart st.some st.shaped.cover width in
      let len : length (solution 0 0 d.basis.items (rows_of d) y.cols) ≡ y.cols = length-map (upward 0 y.cols) (solution_at 0 0 d.basis.items (rows_of d)) ∙ length_upward 0 y.cols in
      let is : (i : ℕ) → i < y.cols → ratio_at (solution 0 0 d.basis.items (rows_of d) y.cols) i ≡ solution_at (column d.others.items 0) 0 d.basis.items (rows_of d) i =
      (λ i li. get_or-map (solution_at 0 0 d.basis.items (rows_of d)) (upward 0 y.cols) i 0 _ (let l = length_upward 0 y.cols in omega arith) ∙ ap (solution_at 0 0 d.basis.items (rows_of d)) (upward_at 0 y.cols i li ∙ omega arith)
      ∙ ap (λ n. solution_at n 0 d.basis.items (rows_of d) i) (sym st.constant)) in
      record {
        positive = sol.times.positive;
        cols = length-take-le y.cols sol.whole (let a = sol.times.cols in omega arith) ∙ sym len;
        denominators = λ i li. let l : i < y.cols = rw len at li in subst (λ (r : Ratio). pos 0 <ℤ r.den) (sym (is i l)) (positive i);
        same = λ i li.
            let l : i < y.cols = rw len at li in
            subst (λ u. u *ℤ (ratio_at (solution 0 0 d.basis.items (rows_of d) y.cols) i).den ≡ sol.k *ℤ (ratio_at (solution 0 0 d.basis.items (rows_of d) y.cols) i).num) (sym (get_or-take y.cols sol.whole i (pos 0) l))
            (subst (λ (r : Ratio). entry sol.whole i *ℤ r.den ≡ sol.k *ℤ r.num) (sym (is i l)) (read i (omega arith)));
      }

  solves : Solves A B (take y.cols sol.whole)
  solves = record {
    inequalities = all_places (λ a. pos 0 ≤ℤ dot a (take y.cols sol.whole)) A (λ i li.
        let l : i < y.slacks = (let a = sys.slacks in omega arith) in
        let e = slack_reading y A B C k S sys sol.whole sol.solves i l in
        let u = up_entry (y.cols + i) (omega arith) (slack_up i l) in
        let n = zero_entry (auxiliary y) (omega arith) set.auxiliary_zero in
        let r : row_at ((A ++ B) ++ C ∷ []) i ≡ row_at A i = append_left (A ++ B) (C ∷ []) i (let q = length-append A B in omega arith) ∙ append_left A B i li in
        subst (λ a. pos 0 ≤ℤ dot a (take y.cols sol.whole)) r (subst (λ t. pos 0 ≤ℤ t) (sym e) (omega (arith, ints))));
    equations = all_places (λ b. dot b (take y.cols sol.whole) ≡ pos 0) B (λ j lj.
        let l : j < y.residuals = (let a = sys.residuals in omega arith) in
        let e = residual_reading y A B C k S sys sol.whole sol.solves (y.slacks + j) (omega arith) (omega arith) in
        let n = zero_entry (y.cols + y.slacks + j) (omega arith) (set.residuals_zero j l) in
        let r : row_at ((A ++ B) ++ C ∷ []) (y.slacks + j) ≡ row_at B j =
        append_left (A ++ B) (C ∷ []) (y.slacks + j) (let q = length-append A B in let s = sys.slacks in omega arith) ∙ ap (row_at (A ++ B)) (let s = sys.slacks in omega arith) ∙ append_right A B j in
        subst (λ b. dot b (take y.cols sol.whole) ≡ pos 0) r (e ∙ ap (entry sol.whole) (omega arith) ∙ n));
  }

  point_is : IsPoint A B (solution 0 0 d.basis.items (rows_of d) y.cols)
  point_is = record {
    some = rw length-map (let a = length_upward 0 y.cols in let b = y.some in omega arith);
    first = first_is y.cols y.some;
    k = sol.k;
    whole = take y.cols sol.whole;
    times = point_times;
    solves = solves;
  }
    where
      first_is : (n : ℕ) → 0 < n → (ratio_at (solution 0 0 d.basis.items (rows_of d) n) 0).num ≡ (ratio_at (solution 0 0 d.basis.items (rows_of d) n) 0).den
      first_is zero h = absurd (omega arith)
      first_is (suc n) h = refl

  value_is : HasValue c (solution 0 0 d.basis.items (rows_of d) y.cols) (at (rows_of d) z 0)
  value_is =
      let e = objective_reading y A B C k S sys sol.whole sol.solves in
      let f = at_basic S d.basis.items d.others.items (rows_of d) (columns_of y) 0 st.dictionary count apart st.some st.shaped.cover width z st.within in
      let g = subst (λ (r : Ratio). entry sol.whole (column d.basis.items z) *ℤ r.den ≡ sol.k *ℤ r.num) f (read (column d.basis.items z) (apart.basic_inside z st.within)) in
      let g' = subst (λ v. entry sol.whole v *ℤ (at (rows_of d) z 0).den ≡ sol.k *ℤ (at (rows_of d) z 0).num) oz g in
      let r : row_at ((A ++ B) ++ C ∷ []) (y.slacks + y.residuals) ≡ C = ap (row_at ((A ++ B) ++ C ∷ [])) (let q = length-append A B in let s = sys.slacks in let t = sys.residuals in omega arith) ∙ append_right (A ++ B) (C ∷ []) 0 in
      record {
        k = k;
        h = sol.k;
        objective = C;
        point = take y.cols sol.whole;
        objective_times = tc;
        point_times = point_times;
        positive = (st.dictionary.entries z 0 st.within st.some).reduced.positive;
        value = value_same (dot C (take y.cols sol.whole)) (entry sol.whole (objective_column y)) (at (rows_of d) z 0).den (at (rows_of d) z 0).num sol.k (subst (λ u. dot u (take y.cols sol.whole) ≡ k *ℤ entry sol.whole (objective_column y)) r e) g';
      }
    where
      value_same : (u w m n L : ℤ) → u ≡ k *ℤ w → w *ℤ m ≡ L *ℤ n → u *ℤ m ≡ (k *ℤ L) *ℤ n
      value_same u w m n L e g = ap (λ t. t *ℤ m) e ∙ (let f = simp ring at (ap (λ t. k *ℤ t) g) in simp ring (omega (arith, ints)))

  pub both : IsPoint A B (solution 0 0 d.basis.items (rows_of d) y.cols) × HasValue c (solution 0 0 d.basis.items (rows_of d) y.cols) (at (rows_of d) z 0)
  both = (point_is, value_is)

pub feasible_gives_point : FeasibleGivesPoint
feasible_gives_point y A B c C k S d z tc sys st oz set = both y A B c C k S d z tc sys st oz st.apart set
