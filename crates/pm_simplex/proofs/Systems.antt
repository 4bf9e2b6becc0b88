-- The equations of a program as rows over all columns.
use Rattle.pm_vector.specs.Rows.{Row, entry}
use Rattle.pm_vector.specs.Bases.{row_at}
use Rattle.pm_simplex.proofs.KeyColumns.{length_upward, nat_eq_no, upward_at}
use Rattle.pm_simplex.specs.Phases.{IsPhaseSystem}
use Rattle.pm_simplex.specs.ProgramLaws.{IsSystem}
use Rattle.pm_simplex.specs.Starts.{help_of, own_column}
use Rattle.pm_simplex.specs.Systems.{scale_of, system_entry, system_of}
use Rattle.pm_simplex.specs.States.{auxiliary, columns_of, objective_column, phase_column, upward}
use Rattle.pm_simplex.specs.declared.layout.Layout.{Layout}
use Rattle.std.proofs.Common.{ap, arith, eq-eqb, refl, subst, sym, ◌∙◌}
use Rattle.std.proofs.lemmas.Bool.{le-ltb, lt-ltb}
use Rattle.std.proofs.lemmas.Int.{ints}
use Rattle.std.proofs.lemmas.List.{get_or-map, length-append, length-map}
use Rattle.std.specs.Prelude.{List, [], length, map, suc, zero, ℕ, ◌+◌, ◌++◌, ◌<◌, ◌∷◌, ◌≡◌, ◌≤◌}
use lib.IntN.{neg_ℤ, negsuc, pos, ℤ}
use lib.Signed.{◌<ℤ◌}
use native.Mathlib.Decide.{dec_lt, ℕ_discrete}

-- ---- own columns and the numbers of the auxiliary variable
pub own_low : (y : Layout) (i : ℕ) → i < y.slacks + y.residuals → own_column y i ≡ y.cols + i
own_low y i l = let t = lt-ltb i (y.slacks + y.residuals) l in rw t refl

pub own_high : (y : Layout) (i : ℕ) → y.slacks + y.residuals ≤ i → own_column y i ≡ y.cols + i + 1
own_high y i l = let t = le-ltb i (y.slacks + y.residuals) l in rw t refl

pub own_later : (y : Layout) (i : ℕ) → y.cols ≤ own_column y i
own_later y i = elim (dec_lt i (y.slacks + y.residuals)) [ yes l ↦ (let e = own_low y i l in omega arith) | no n ↦ (let e = own_high y i (omega arith) in omega arith) ]

pub own_apart : (y : Layout) (i : ℕ) → ¬ (own_column y i ≡ auxiliary y)
own_apart y i q = elim (dec_lt i (y.slacks + y.residuals)) [ yes l ↦ (let e = own_low y i l in omega arith) | no n ↦ (let e = own_high y i (omega arith) in omega arith) ]

pub own_inside : (y : Layout) (i : ℕ) → i < y.slacks + y.residuals + 2 → own_column y i < columns_of y
own_inside y i h = elim (dec_lt i (y.slacks + y.residuals)) [ yes l ↦ (let e = own_low y i l in omega arith) | no n ↦ (let e = own_high y i (omega arith) in omega arith) ]

pub own_once : (y : Layout) (i j : ℕ) → own_column y i ≡ own_column y j → i ≡ j
own_once y i j q = elim (dec_lt i (y.slacks + y.residuals)) [
  | yes l ↦ elim (dec_lt j (y.slacks + y.residuals)) [
    | yes m ↦ (let e = own_low y i l in let f = own_low y j m in omega arith)
    | no m ↦ (let e = own_low y i l in let f = own_high y j (omega arith) in omega arith)
  ]
  | no l ↦ elim (dec_lt j (y.slacks + y.residuals)) [
    | yes m ↦ (let e = own_high y i (omega arith) in let f = own_low y j m in omega arith)
    | no m ↦ (let e = own_high y i (omega arith) in let f = own_high y j (omega arith) in omega arith)
  ]
]

pub help_slack : (y : Layout) (i : ℕ) → i < y.slacks → help_of y i ≡ pos 1
help_slack y i l = let t = lt-ltb i y.slacks l in rw t refl

pub help_none : (y : Layout) (i : ℕ) → y.slacks ≤ i → ¬ (i ≡ y.slacks + y.residuals + 1) → help_of y i ≡ pos 0
help_none y i l n = let t = le-ltb i y.slacks l in let u = nat_eq_no i (y.slacks + y.residuals + 1) n in rw (t, u) refl

pub help_phase : (y : Layout) → help_of y (y.slacks + y.residuals + 1) ≡ negsuc 0
help_phase y = let t = le-ltb (y.slacks + y.residuals + 1) y.slacks (omega arith) in let u = eq-eqb (y.slacks + y.residuals + 1) (y.slacks + y.residuals + 1) refl in rw (t, u) refl

-- ---- the entries
pub scale_objective : (y : Layout) (k : ℤ) → scale_of y k (y.slacks + y.residuals) ≡ k
unfolding scale_of
scale_objective y k = let t = eq-eqb (y.slacks + y.residuals) (y.slacks + y.residuals) refl in rw t refl

pub scale_other : (y : Layout) (k : ℤ) (i : ℕ) → ¬ (i ≡ y.slacks + y.residuals) → scale_of y k i ≡ pos 1
unfolding scale_of
scale_other y k i n = let t = nat_eq_no i (y.slacks + y.residuals) n in rw t refl

pub scale_positive : (y : Layout) (k : ℤ) (i : ℕ) → pos 0 <ℤ k → pos 0 <ℤ scale_of y k i
scale_positive y k i h = elim (ℕ_discrete i (y.slacks + y.residuals)) [
  | yes e ↦ subst (λ j. pos 0 <ℤ scale_of y k j) (sym e) (subst (λ z. pos 0 <ℤ z) (sym (scale_objective y k)) h)
  | no n ↦ subst (λ z. pos 0 <ℤ z) (sym (scale_other y k i n)) (omega (arith, ints))
]

module _ (y : Layout) (A B : List Row) (C : Row) (k : ℤ) where
  low : (i v : ℕ) → v < y.cols → system_entry y A B C k i v ≡ entry (row_at ((A ++ B) ++ C ∷ []) i) v
  unfolding system_entry
  low i v l = let t = lt-ltb v y.cols l in rw t refl

  at_own : (i v : ℕ) → v ≡ own_column y i → system_entry y A B C k i v ≡ neg_ℤ (scale_of y k i)
  unfolding system_entry
  at_own i v e = let t = le-ltb v y.cols (let a = own_later y i in omega arith) in let u = eq-eqb v (own_column y i) e in rw (t, u) refl

  at_help : (i v : ℕ) → v ≡ auxiliary y → system_entry y A B C k i v ≡ help_of y i
  unfolding system_entry
  at_help i v e =
      let t = le-ltb v y.cols (omega arith) in
      let u = nat_eq_no v (own_column y i) (λ q. own_apart y i (sym q ∙ e)) in
      let w = eq-eqb v (auxiliary y) e in
      rw (t, u, w) refl

  at_none : (i v : ℕ) → y.cols ≤ v → ¬ (v ≡ own_column y i) → ¬ (v ≡ auxiliary y) → system_entry y A B C k i v ≡ pos 0
  unfolding system_entry
  at_none i v l n m =
      let t = le-ltb v y.cols l in
      let u = nat_eq_no v (own_column y i) n in
      let w = nat_eq_no v (auxiliary y) m in
      rw (t, u, w) refl

  pub count_system : length (system_of y A B C k) ≡ y.slacks + y.residuals + 2
  unfolding system_of
  count_system = length-map (upward 0 (y.slacks + y.residuals + 2)) (λ i. map (system_entry y A B C k i) (upward 0 (columns_of y))) ∙ length_upward 0 (y.slacks + y.residuals + 2)

  row_is : (i : ℕ) → i < y.slacks + y.residuals + 2 → row_at (system_of y A B C k) i ≡ map (system_entry y A B C k i) (upward 0 (columns_of y))
  unfolding system_of
  row_is i l = get_or-map (λ i. map (system_entry y A B C k i) (upward 0 (columns_of y))) (upward 0 (y.slacks + y.residuals + 2)) i 0 [] (let n = length_upward 0 (y.slacks + y.residuals + 2) in omega arith)
      ∙ ap (λ j. map (system_entry y A B C k j) (upward 0 (columns_of y))) (upward_at 0 (y.slacks + y.residuals + 2) i l ∙ omega arith)

  entry_is : (i v : ℕ) → i < y.slacks + y.residuals + 2 → v < columns_of y → entry (row_at (system_of y A B C k) i) v ≡ system_entry y A B C k i v
  entry_is i v l m = ap (λ x. entry x v) (row_is i l) ∙ get_or-map (system_entry y A B C k i) (upward 0 (columns_of y)) v 0 (pos 0) (let n = length_upward 0 (columns_of y) in omega arith)
      ∙ ap (system_entry y A B C k i) (upward_at 0 (columns_of y) v m ∙ omega arith)

  past : (x : Row) (v : ℕ) → length x ≤ v → entry x v ≡ pos 0
  past [] v l = refl
  past (a ∷ x) zero l = absurd (omega arith)
  past (a ∷ x) (suc v) l = past x v (omega arith)

  past_rows : (X : List Row) (i : ℕ) → length X ≤ i → row_at X i ≡ []
  past_rows [] i l = refl
  past_rows (x ∷ X) zero l = absurd (omega arith)
  past_rows (x ∷ X) (suc i) l = past_rows X i (omega arith)

  -- in a column of the program
  pub entry_low : (i v : ℕ) → i < y.slacks + y.residuals + 2 → v < y.cols → entry (row_at (system_of y A B C k) i) v ≡ entry (row_at ((A ++ B) ++ C ∷ []) i) v
  entry_low i v l m = entry_is i v l (omega arith) ∙ low i v m

  pub entry_own : (i v : ℕ) → i < y.slacks + y.residuals + 2 → v ≡ own_column y i → entry (row_at (system_of y A B C k) i) v ≡ neg_ℤ (scale_of y k i)
  entry_own i v l e = entry_is i v l (let a = own_inside y i l in omega arith) ∙ at_own i v e

  pub entry_help : (i : ℕ) → i < y.slacks + y.residuals + 2 → entry (row_at (system_of y A B C k) i) (auxiliary y) ≡ help_of y i
  entry_help i l = entry_is i (auxiliary y) l (omega arith) ∙ at_help i (auxiliary y) refl

  pub entry_none : (i v : ℕ) → i < y.slacks + y.residuals + 2 → y.cols ≤ v → ¬ (v ≡ own_column y i) → ¬ (v ≡ auxiliary y) → entry (row_at (system_of y A B C k) i) v ≡ pos 0
  entry_none i v l m n h = elim (dec_lt v (columns_of y)) [
    | yes lt ↦ entry_is i v l lt ∙ at_none i v m n h
    | no ge ↦ past (row_at (system_of y A B C k) i) v (let e = ap length (row_is i l) ∙ length-map (upward 0 (columns_of y)) (system_entry y A B C k i) ∙ length_upward 0 (columns_of y) in omega arith)
  ]

  module _ (na : length A ≡ y.slacks) (nb : length B ≡ y.residuals) where
    count_program : length ((A ++ B) ++ C ∷ []) ≡ y.slacks + y.residuals + 1
    count_program = let e = length-append A B in let f = length-append (A ++ B) (C ∷ []) in omega arith

    pub entry_further : (i v : ℕ) → y.slacks + y.residuals < i → v < y.cols → i < y.slacks + y.residuals + 2 → entry (row_at (system_of y A B C k) i) v ≡ pos 0
    entry_further i v u m l = entry_low i v l m ∙ ap (λ x. entry x v) (past_rows ((A ++ B) ++ C ∷ []) i (let e = count_program in omega arith))

    pub is_system : (widths : (i v : ℕ) → i < y.slacks + y.residuals + 1 → y.cols ≤ v → entry (row_at ((A ++ B) ++ C ∷ []) i) v ≡ pos 0) → pos 0 <ℤ k → IsSystem y A B C k (system_of y A B C k)
    is_system widths kp = record {
      slacks = na;
      residuals = nb;
      count = (let e = count_system in omega arith);
      positive = kp;
      body = λ i v l m. entry_low i v (omega arith) m;
      further = λ i v u l m. entry_further i v u m (let e = count_system in omega arith);
      width = widths;
      own = λ i l. entry_own i (y.cols + i) (omega arith) (sym (own_low y i l)) ∙ ap neg_ℤ (scale_other y k i (λ e. omega arith));
      own_objective = entry_own (y.slacks + y.residuals) (objective_column y) (omega arith) (let e = own_high y (y.slacks + y.residuals) (omega arith) in omega arith) ∙ ap neg_ℤ (scale_objective y k);
      zero = λ i j li lj n. entry_none i (y.cols + j) (let e = count_system in omega arith) (omega arith) (λ q. n (own_once y i j (sym q ∙ sym (own_low y j lj)))) (λ q. omega arith);
      zero_objective = λ i li n. entry_none i (objective_column y) (let e = count_system in omega arith) (omega arith) (λ q. n (own_once y i (y.slacks + y.residuals) (sym q ∙ (let e = own_high y (y.slacks + y.residuals) (omega arith) in omega arith)))) (λ q. omega arith);
      helped = λ i l. entry_help i (omega arith) ∙ help_slack y i l;
      not_helped = λ i l m. entry_help i (omega arith) ∙ help_none y i m (λ e. omega arith);
      past = λ i v l u. entry_none i v (omega arith) (omega arith) (λ q. not_past i v l u q) (λ q. omega arith);
      end = λ i v u. beyond i v u;
    }
      where
        not_past : (i v : ℕ) → i < y.slacks + y.residuals + 1 → objective_column y < v → ¬ (v ≡ own_column y i)
        not_past i v l u q = elim (dec_lt i (y.slacks + y.residuals)) [ yes m ↦ (let e = own_low y i m in omega arith) | no n ↦ (let e = own_high y i (omega arith) in omega arith) ]

        beyond : (i v : ℕ) → columns_of y ≤ v → entry (row_at (system_of y A B C k) i) v ≡ pos 0
        beyond i v u = elim (dec_lt i (y.slacks + y.residuals + 2)) [
          | yes l ↦ entry_none i v l (omega arith) (λ q. (let e = own_inside y i l in omega arith)) (λ q. omega arith)
          | no n ↦ ap (λ x. entry x v) (past_rows (system_of y A B C k) i (let e = count_system in omega arith))
        ]

    pub is_phase_system : IsPhaseSystem y (system_of y A B C k)
    is_phase_system = record {
      place = y.slacks + y.residuals + 1;
      within = (let e = count_system in omega arith);
      auxiliary_entry = entry_help (y.slacks + y.residuals + 1) (omega arith) ∙ help_phase y;
      phase_entry = entry_own (y.slacks + y.residuals + 1) (phase_column y) (omega arith) (let e = own_high y (y.slacks + y.residuals + 1) (omega arith) in omega arith) ∙ ap neg_ℤ (scale_other y k (y.slacks + y.residuals + 1) (λ e. omega arith));
      zero = λ v n m. elim (dec_lt v y.cols) [
        | yes l ↦ entry_further (y.slacks + y.residuals + 1) v (omega arith) l (omega arith)
        | no g ↦ entry_none (y.slacks + y.residuals + 1) v (omega arith) (omega arith) (λ q. (let e = own_high y (y.slacks + y.residuals + 1) (omega arith) in omega arith)) n
      ];
    }
