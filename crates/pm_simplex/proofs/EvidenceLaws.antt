-- A pivot by the lexicographic rule is lawful, and evidence of a lawful pivot is shown.
use Rattle.pm_vector.proofs.Signs.{mul_nonneg, nonneg_cancel}
use Rattle.pm_vector.specs.Numbers.{Ratio}
use Rattle.pm_vector.specs.Rows.{Row, entry}
use Rattle.pm_vector.specs.Bases.{column, row_at}
use Rattle.pm_simplex.proofs.KeyColumns.{found_at, in_other}
use Rattle.pm_simplex.proofs.Least.{direction_sign, hinders_sign, not_zero_num}
use Rattle.pm_simplex.proofs.RowOrder.{below_is, opposite}
use Rattle.pm_simplex.specs.Comparisons.{HindersAt, IsKeyBelow, IsRowBelow, direction, key_of, rows_of}
use Rattle.pm_programs.specs.Dictionaries.{at, row_of}
use Rattle.pm_simplex.specs.Evidence.{HasObjectives, IsLawful, IsShownBy, IsWidePivot, PivotsHavePlaces, StepIsLawful}
use Rattle.pm_geom.specs.declared.evidence.Evidence.{Evidence}
use Rattle.pm_programs.specs.Lex.{IsLexPositive, key, keys}
use Rattle.pm_simplex.specs.Fails.{IfWide}
use Rattle.pm_simplex.specs.Running.{IsAbsorbing, IsArranged, IsFreeColumn, IsLaidOut, IsSlackColumn, IsState}
use Rattle.pm_simplex.specs.declared.fails.LpFail.{LpFail}
use Rattle.pm_simplex.specs.declared.fails.LpFail.TheVariants.{Memory, Wide}
use Rattle.pm_simplex.specs.Sizes.{IsQuotientBelow}
use Rattle.pm_simplex.specs.States.{auxiliary, is_signed, key_columns, objective_column}
use Rattle.pm_programs.specs.Tableaux.{pivot_row}
use Rattle.pm_simplex.specs.declared.dictionary.Dictionary.{Dictionary}
use Rattle.pm_simplex.specs.declared.layout.Layout.{Layout}
use Rattle.std.proofs.Common.{arith, inl, inr, refl, subst, sym, ◌∙◌}
use Rattle.std.proofs.lemmas.Int.{ints}
use Rattle.std.proofs.lemmas.List.{length-map}
use Rattle.std.specs.Prelude.{Bool, IsTrue, List, length, true, ℕ, ◌+◌, ◌<◌, ◌≡◌, ◌⊎◌}
use lib.IntN.{neg_ℤ, pos, ℤ, ◌*ℤ◌}
use lib.Signed.{◌<ℤ◌, ◌≤ℤ◌}
use native.Mathlib.Decide.{ℕ_discrete}

head_up : (y : Layout) (x : Row) → IsLexPositive (keys (key_columns y) x) → pos 0 ≤ℤ key x 0
head_up y x (inl h) = omega (arith, ints)
head_up y x (inr h) = let e = h.0 in omega (arith, ints)

module _ (y : Layout) (S : List Row) (d : Dictionary) (st : IsLaidOut y S d) where
  wide : (i : ℕ) → i < length d.basis.items → i < length st.dictionary.whole
  wide i li = let a = st.dictionary.tableau.tableau.as_many in omega arith

  -- the first key is the constant
  constant_key : (i : ℕ) → i < length d.basis.items → key_of d i 0 ≡ at (rows_of d) i 0
  constant_key i li =
      let shape : length (row_of (rows_of d) i) ≡ length d.others.items = st.shaped.rectangular.places.each i (rw length-map (let a = st.shaped.rectangular.count in omega arith)) in
      in_other (column d.basis.items i) d.others.items (row_of (rows_of d) i) 0 (λ e. let v = st.shaped.variables i li in omega arith)
      ∙ found_at 0 d.others.items (row_of (rows_of d) i) 0 st.some (rw shape st.some) (λ u lu q. omega arith) st.constant

  pub not_below : (i l j : ℕ) (up : Bool) → i < length d.basis.items → l < length d.basis.items → j < length d.others.items → HindersAt y d j up i → HindersAt y d j up l → IsRowBelow y d l i j
      → ¬ (IsQuotientBelow (at (rows_of d) i 0) (at (rows_of d) i j) (at (rows_of d) l 0) (at (rows_of d) l j))
  not_below i l j up li ll lj hi hl b q =
      let si = hinders_sign y d j up i li lj hi S st.dictionary in
      let sl = hinders_sign y d j up l ll lj hl S st.dictionary in
      let k : IsKeyBelow d i l j 0 = subst (λ u. IsQuotientBelow u (at (rows_of d) i j) (key_of d l 0) (at (rows_of d) l j)) (sym (constant_key i li)) (subst (λ u. IsQuotientBelow (at (rows_of d) i 0) (at (rows_of d) i j) u (at (rows_of d) l j)) (sym (constant_key l ll)) q) in
      let p = (below_is y d st.shaped j lj S st.dictionary (direction up) (direction_sign up) i l 0 li ll (omega arith) si sl).0 k in
      let h = head_up y (pivot_row (direction up) (row_at st.dictionary.whole l) (column d.others.items j) (row_at st.dictionary.whole i)) (b.stays S st.dictionary (direction up) (direction_sign up) sl si) in
      let o = opposite y d st.shaped j lj S st.dictionary (direction up) (direction_sign up) (row_at st.dictionary.whole l) (row_at st.dictionary.whole i) 0 in
      omega (arith, ints)

pub feasible : (y : Layout) (S : List Row) (d : Dictionary) (z : ℕ) (st : IsState y S d z) → (i : ℕ) → i < length d.basis.items → IsTrue (is_signed y (column d.basis.items i)) → pos 0 ≤ℤ (at (rows_of d) i 0).num
feasible y S d z st i li si =
    let w = st.dictionary.entries i 0 li st.some in
    let wi : i < length st.dictionary.whole = (let a = st.dictionary.tableau.tableau.as_many in omega arith) in
    let p = head_up y (row_at st.dictionary.whole i) (st.feasible.positive i wi si) in
    up (at (rows_of d) i 0).num (at (rows_of d) i 0).den (entry (row_at st.dictionary.whole i) 0) (entry (row_at st.dictionary.whole i) (column d.basis.items i)) (st.dictionary.tableau.tableau.positive i wi) w.reduced.positive
    (subst (λ u. (at (rows_of d) i 0).num *ℤ entry (row_at st.dictionary.whole i) (column d.basis.items i) ≡ neg_ℤ (entry (row_at st.dictionary.whole i) u) *ℤ (at (rows_of d) i 0).den) st.constant w.same) p
  where
    up : (n m x e : ℤ) → pos 0 <ℤ e → pos 0 <ℤ m → n *ℤ e ≡ neg_ℤ x *ℤ m → pos 0 ≤ℤ neg_ℤ x → pos 0 ≤ℤ n
    up n m x e he hm q h = nonneg_cancel he (let m0 : pos 0 ≤ℤ m = omega (arith, ints) in let a = mul_nonneg h m0 in omega (arith, ints))

pub laid_out : (y : Layout) (S : List Row) (d : Dictionary) (z : ℕ) → IsState y S d z → IsLaidOut y S d
laid_out y S d z st = record { shaped = st.shaped; apart = st.apart; dictionary = st.dictionary; fits = st.fits; some = st.some; constant = st.constant }

pub step_is_lawful : StepIsLawful
step_is_lawful y S d z l e st en least = record {
  not_zero = not_zero_num y d e.place e.up l least.hinders;
  kind = inr (inr (inr (
    z,
    st.within,
    record {
      feasible = feasible y S d z st;
      objective = st.objective;
      up = e.up;
      improves = en.improves;
      may_enter = en.may_enter;
      leaves = least.hinders.signed;
      falls = least.hinders.falls;
      least = λ i li si fi. elim (ℕ_discrete i l) [
        | yes q ↦ (λ b. same_below (at (rows_of d) l 0) (at (rows_of d) l e.place) (subst (λ m. IsQuotientBelow (at (rows_of d) m 0) (at (rows_of d) m e.place) (at (rows_of d) l 0) (at (rows_of d) l e.place)) q b))
        | no n ↦ not_below y S d (laid_out y S d z st) i l e.place e.up li least.within en.within (record { signed = si; falls = fi }) least.hinders (least.least i li n (record { signed = si; falls = fi }))
      ];
    },
  )));
}
  where
    same_below : (a f : Ratio) → IsQuotientBelow a f a f → ⊥
    same_below a f h = let q = h.below in omega (arith, ints)

-- evidence of a lawful pivot
pub lawful_is_shown : (y : Layout) (S : List Row) (d : Dictionary) (l j : ℕ) (e : Evidence) → IsLaidOut y S d → l < length d.basis.items → j < length d.others.items
    → (0 < column d.others.items j) × (column d.others.items j < objective_column y) → column d.basis.items l < objective_column y → HasObjectives y d.basis.items → IsLawful y d.basis.items d.others.items (rows_of d) l j → IsWidePivot d l j e → IsShownBy y S e
lawful_is_shown y S d l j e h ll lj enters leaves objectives law w =
    subst (λ z. IsShownBy y S z) (sym w.is)
    (record {
      others = d.others.items;
      fractions = rows_of d;
      dictionary = h.dictionary;
      constant = h.constant;
      l = l;
      j = j;
      i = w.i;
      k = w.k;
      l_within = ll;
      j_within = lj;
      i_within = w.row;
      k_within = w.place;
      leave_is = refl;
      enter_is = refl;
      row_is = refl;
      place_is = refl;
      enters = enters;
      leaves = leaves;
      objectives = objectives;
      lawful = law;
      wide = w.wide;
    })

-- where the two objectives have the last rows
pub arranged_objectives : (y : Layout) (d : Dictionary) → IsArranged y d → HasObjectives y d.basis.items
arranged_objectives y d a = record { objective = (y.slacks + y.residuals, (let e = a.count in omega arith), a.objective); phase = (y.slacks + y.residuals + 1, (let e = a.count in omega arith), a.phase) }

pub absorbing_objectives : (y : Layout) (S : List Row) (d : Dictionary) (n : ℕ) → IsAbsorbing y S d n → HasObjectives y d.basis.items
absorbing_objectives y S d n a = record { objective = (y.slacks + y.residuals, (let e = a.count in omega arith), a.objective); phase = (y.slacks + y.residuals + 1, (let e = a.count in omega arith), a.phase) }

-- a variable that may enter is no constant and no objective
pub entering_inside : (y : Layout) (c : ℕ) (up : Bool) → (IsFreeColumn y c ⊎ (IsSlackColumn y c × (up ≡ true))) → (0 < c) × (c < objective_column y)
entering_inside y c up (inl f) = (f.0, (let a = f.1 in omega arith))
entering_inside y c up (inr s) = ((let a = s.0.0 in let b = y.some in omega arith), (let a = s.0.1 in omega arith))

-- what is so of the evidence of a failure
pub wide_as : (f : LpFail) (P Q : Evidence → Type 0) → ((e : Evidence) → P e → Q e) → IfWide f P → IfWide f Q
wide_as (Wide e) P Q h p = h e p
wide_as Memory P Q h p = tt

-- what is no evidence
pub pivots_have_places : PivotsHavePlaces
pivots_have_places = record {
  no_constant = λ y S P leave row place h. let a = h.enters.0 in omega arith;
  no_objective_enters = λ y S P leave row place h. let a = h.enters.1 in omega arith;
  no_objective_leaves = λ y S P enter row place h. let a = h.leaves in omega arith;
  none_without = λ y S enter leave row place h. let a = h.objectives.objective.1 in omega arith;
}
