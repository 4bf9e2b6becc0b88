-- Where no residual is left to leave, the dictionary is feasible, or the auxiliary variable makes it so.
use Rattle.pm_vector.proofs.Ring.{ring}
use Rattle.pm_vector.proofs.Signs.{mul_nonneg, mul_pos, nonneg_cancel, pos_cancel}
use Rattle.pm_vector.specs.Numbers.{Ratio}
use Rattle.pm_vector.specs.Rows.{Row, entry}
use Rattle.pm_vector.specs.Bases.{column, row_at}
use Rattle.pm_geom.specs.declared.evidence.Evidence.{Evidence}
use Rattle.pm_programs.proofs.Dictionaries.{PivotedAs, pivoted_as}
use Rattle.pm_programs.proofs.Pivots.{pivot_begins_feasible}
use Rattle.pm_programs.specs.Dictionaries.{IsDictionaryOf, at}
use Rattle.pm_programs.specs.Lex.{IsLexPositive, key, keys}
use Rattle.pm_programs.specs.Pivots.{IsLexFeasible, IsRatioTest}
use Rattle.pm_programs.specs.Tableaux.{pivot_rows}
use Rattle.pm_simplex.proofs.Arranged.{arranged_next}
use Rattle.pm_simplex.proofs.Compare.{lex_at}
use Rattle.pm_simplex.proofs.EvidenceLaws.{arranged_objectives, lawful_is_shown, not_below}
use Rattle.pm_simplex.proofs.KeyColumns.{length_upward, upward_at}
use Rattle.pm_simplex.proofs.Layouts.{laid_out_next}
use Rattle.pm_simplex.proofs.Least.{direction_sign, hinders_sign, not_zero_num}
use Rattle.pm_simplex.proofs.Limbs.{signs_below}
use Rattle.pm_simplex.proofs.RowOrder.{signed_is}
use Rattle.pm_simplex.specs.Comparisons.{HindersAt, IsLeastOf, rows_of}
use Rattle.pm_simplex.specs.Evidence.{IsShownBy, IsWidePivot}
use Rattle.pm_simplex.proofs.Steps.{signed_inside}
use Rattle.pm_simplex.specs.Running.{IsAbsorbing, IsArranged, IsLaidOut, IsPivotOf, IsState, IsWithoutHelp}
use Rattle.pm_simplex.specs.States.{is_signed, key_columns, upward}
use Rattle.pm_simplex.specs.declared.dictionary.Dictionary.{Dictionary}
use Rattle.pm_simplex.specs.declared.layout.Layout.{Layout}
use Rattle.std.proofs.Common.{ap, arith, inl, inr, refl, subst, sym, ◌∙◌}
use Rattle.std.proofs.lemmas.Grind.{common_steps}
use Rattle.std.proofs.lemmas.Int.{by_lt_z, ints}
use Rattle.std.specs.Prelude.{Bool, IsTrue, List, false, length, slice_set, suc, true, zero, ℕ, ◌+◌, ◌<◌, ◌≡◌, ◌≤◌, ◌↔◌}
use lib.IntN.{neg_ℤ, negsuc, pos, ℤ, ◌*ℤ◌}
use lib.Signed.{◌<ℤ◌, ◌≤ℤ◌}
use native.Mathlib.Decide.{dec_lt, ℕ_discrete}

slack_is_signed : (y : Layout) (i : ℕ) → i < y.slacks → IsTrue (is_signed y (y.cols + i))
slack_is_signed y i l = let a : y.cols ≤ y.cols + i = omega arith in let b : y.cols + i < y.cols + y.slacks = omega arith in grind (arith, common_steps)

module _ (y : Layout) (S : List Row) (d : Dictionary) (h : IsAbsorbing y S d (y.slacks + y.residuals)) where
  wide : (i : ℕ) → i < length d.basis.items → i < length h.laid_out.dictionary.whole
  wide i li = let a = h.laid_out.dictionary.tableau.tableau.as_many in omega arith

  in_basis : (i : ℕ) → i < y.slacks → i < length d.basis.items
  in_basis i l = let a = h.count in omega arith

  help_in : y.cols < length d.others.items
  help_in = let a = h.cols in omega arith

  -- only slacks may not be negative
  signed_row : (i : ℕ) → i < length d.basis.items → IsTrue (is_signed y (column d.basis.items i)) → i < y.slacks
  signed_row i li si = elim (dec_lt i y.slacks) [
    | yes l ↦ l
    | no n ↦ absurd (elim (signed_is y (column d.basis.items i) si) [
      | inr e ↦ h.laid_out.apart.apart i y.cols li help_in (e ∙ sym h.help)
      | inl w ↦ elim (dec_lt i (y.slacks + y.residuals)) [
        | yes m ↦ elim (h.done i (omega arith) m) [ inl f ↦ (let a = f.1 in let b = w.0 in omega arith) | inr r ↦ (let a = r.0.0 in let b = w.1 in omega arith) ]
        | no m ↦ elim (ℕ_discrete i (y.slacks + y.residuals)) [
          | yes q ↦ (let e = ap (column d.basis.items) q in let f = h.objective in let b = w.1 in omega arith)
          | no nq ↦ (let q : i ≡ y.slacks + y.residuals + 1 = (let a = h.count in omega arith) in let e = ap (column d.basis.items) q in let f = h.phase in let b = w.1 in omega arith)
        ]
      ]
    ])
  ]

  all_help : (i : ℕ) → i < y.slacks → HindersAt y d y.cols false i
  all_help i l = record { signed = subst (λ c. IsTrue (is_signed y c)) (sym (h.slacks i l)) (slack_is_signed y i l); falls = (let a = h.helped i l in omega (arith, ints)) }

  pub arranged : IsArranged y d
  arranged = record {
    count = h.count;
    objective = h.objective;
    phase = h.phase;
    settled = λ i li r. elim (dec_lt i y.slacks) [
      | yes l ↦ absurd (let e = h.slacks i l in let a = r.0 in omega arith)
      | no n ↦ elim (dec_lt i (y.slacks + y.residuals)) [
        | yes m ↦ elim (h.done i (omega arith) m) [ inl f ↦ absurd (let a = f.1 in let b = r.0 in omega arith) | inr w ↦ w.1 ]
        | no m ↦ absurd (elim (ℕ_discrete i (y.slacks + y.residuals)) [
          | yes q ↦ (let e = ap (column d.basis.items) q in let f = h.objective in let b = r.1 in omega arith)
          | no nq ↦ (let q : i ≡ y.slacks + y.residuals + 1 = (let a = h.count in omega arith) in let e = ap (column d.basis.items) q in let f = h.phase in let b = r.1 in omega arith)
        ])
      ]
    ];
  }

  pub without : IsWithoutHelp y d
  without = record { absent = λ i li e. h.laid_out.apart.apart i y.cols li help_in (e ∙ sym h.help) }

  -- ---- no slack is negative
  module _ (ups : (i : ℕ) → i < y.slacks → pos 0 ≤ℤ (at (rows_of d) i 0).num) where
    constant_key : (i : ℕ) → i < y.slacks → (at (rows_of d) i 0).num *ℤ entry (row_at h.laid_out.dictionary.whole i) (column d.basis.items i) ≡ key (row_at h.laid_out.dictionary.whole i) 0 *ℤ (at (rows_of d) i 0).den
    constant_key i l =
        let w = h.laid_out.dictionary.entries i 0 (in_basis i l) h.laid_out.some in
        subst (λ u. (at (rows_of d) i 0).num *ℤ entry (row_at h.laid_out.dictionary.whole i) (column d.basis.items i) ≡ neg_ℤ (entry (row_at h.laid_out.dictionary.whole i) u) *ℤ (at (rows_of d) i 0).den) h.laid_out.constant w.same

    first_key : (i : ℕ) → i < y.slacks → pos 0 ≤ℤ key (row_at h.laid_out.dictionary.whole i) 0
    first_key i l =
        let w = h.laid_out.dictionary.entries i 0 (in_basis i l) h.laid_out.some in
        up (at (rows_of d) i 0).num (entry (row_at h.laid_out.dictionary.whole i) (column d.basis.items i)) (key (row_at h.laid_out.dictionary.whole i) 0) (at (rows_of d) i 0).den (constant_key i l) (ups i l)
        (h.laid_out.dictionary.tableau.tableau.positive i (wide i (in_basis i l))) w.reduced.positive
      where
        up : (n e k m : ℤ) → n *ℤ e ≡ k *ℤ m → pos 0 ≤ℤ n → pos 0 <ℤ e → pos 0 <ℤ m → pos 0 ≤ℤ k
        up n e k m q hn he hm = nonneg_cancel hm (let e0 : pos 0 ≤ℤ e = omega (arith, ints) in let a = mul_nonneg hn e0 in omega (arith, ints))

    -- the slacks before the own one are 0 in its row, which is 1 there
    row_up : (i : ℕ) → i < y.slacks → IsLexPositive (keys (key_columns y) (row_at h.laid_out.dictionary.whole i))
    row_up i l = by_lt_z (pos 0) (key (row_at h.laid_out.dictionary.whole i) 0)
        (λ p. inl p)
        (λ p. let z : key (row_at h.laid_out.dictionary.whole i) 0 ≡ pos 0 = (let q = first_key i l in omega (arith, ints)) in
        inr (z, lex_at (upward y.cols y.slacks) (key (row_at h.laid_out.dictionary.whole i)) i (let n = length_upward y.cols y.slacks in omega arith) (λ k lk. before k lk) own))
      where
        key_is : (x : Row) (v : ℕ) → 0 < v → key x v ≡ entry x v
        key_is x zero u = absurd (omega arith)
        key_is x (suc v) u = refl

        before : (k : ℕ) → k < i → key (row_at h.laid_out.dictionary.whole i) (column (upward y.cols y.slacks) k) ≡ pos 0
        before k lk =
            ap (key (row_at h.laid_out.dictionary.whole i)) (upward_at y.cols y.slacks k (omega arith)) ∙ key_is (row_at h.laid_out.dictionary.whole i) (y.cols + k) (let p = y.some in omega arith)
            ∙ ap (entry (row_at h.laid_out.dictionary.whole i)) (sym (h.slacks k (omega arith)))
            ∙ h.laid_out.dictionary.tableau.tableau.solved i k (wide i (in_basis i l)) (wide k (in_basis k (omega arith))) (λ q. omega arith)

        own : pos 0 <ℤ key (row_at h.laid_out.dictionary.whole i) (column (upward y.cols y.slacks) i)
        own = subst (λ z. pos 0 <ℤ z) (sym (ap (key (row_at h.laid_out.dictionary.whole i)) (upward_at y.cols y.slacks i l) ∙ key_is (row_at h.laid_out.dictionary.whole i) (y.cols + i) (let p = y.some in omega arith) ∙ ap (entry (row_at h.laid_out.dictionary.whole i)) (sym (h.slacks i l))))
            (h.laid_out.dictionary.tableau.tableau.positive i (wide i (in_basis i l)))

    pub plain_state : IsState y S d (y.slacks + y.residuals + 1)
    plain_state = record {
      shaped = h.laid_out.shaped;
      apart = h.laid_out.apart;
      dictionary = h.laid_out.dictionary;
      feasible = record { positive = λ i li' si. (let li : i < length d.basis.items = (let a = h.laid_out.dictionary.tableau.tableau.as_many in omega arith) in row_up i (signed_row i li si)) };
      fits = h.laid_out.fits;
      some = h.laid_out.some;
      constant = h.laid_out.constant;
      within = (let a = h.count in omega arith);
      objective = (let a = h.phase in omega arith);
    }

  pub none_state : ((i : ℕ) → i < length d.basis.items → HindersAt y d y.cols false i → ⊥) → IsState y S d (y.slacks + y.residuals + 1)
  none_state f = plain_state (λ i l. absurd (f i (in_basis i l) (all_help i l)))

  -- where the least slack is not negative, none is
  pub least_state : (l : ℕ) → IsLeastOf y d y.cols false (length d.basis.items) l → pos 0 ≤ℤ (at (rows_of d) l 0).num → IsState y S d (y.slacks + y.residuals + 1)
  least_state l least up = plain_state (λ i li. elim (ℕ_discrete i l) [
    | yes q ↦ subst (λ m. pos 0 ≤ℤ (at (rows_of d) m 0).num) (sym q) up
    | no n ↦ by_lt_z (at (rows_of d) i 0).num (pos 0)
        (λ neg. absurd (not_below y S d h.laid_out i l y.cols false (in_basis i li) least.within help_in (all_help i li) least.hinders (least.least i (in_basis i li) n (all_help i li))
        (signs_below (at (rows_of d) i 0) (at (rows_of d) i y.cols) (at (rows_of d) l 0) (at (rows_of d) l y.cols) (den i 0 (in_basis i li) h.laid_out.some) (den i y.cols (in_basis i li) help_in) (den l 0 least.within h.laid_out.some) (den l y.cols least.within help_in)
        (not_zero_num y d y.cols false i (all_help i li)) (not_zero_num y d y.cols false l least.hinders) neg up)))
        (λ p. p)
  ])
    where
      den : (i k : ℕ) → i < length d.basis.items → k < length d.others.items → pos 0 <ℤ (at (rows_of d) i k).den
      den i k li lk = (h.laid_out.dictionary.entries i k li lk).reduced.positive

  -- ---- the least slack is negative
  module _ (d' : Dictionary) (l : ℕ) (least : IsLeastOf y d y.cols false (length d.basis.items) l) (down : (at (rows_of d) l 0).num <ℤ pos 0) where
    nz : ¬ ((at (rows_of d) l y.cols).num ≡ pos 0)
    nz = not_zero_num y d y.cols false l least.hinders

    later : 0 < column d.others.items y.cols
    later = let e = h.help in let p = y.some in omega arith

    pub begin_is_shown : (e : Evidence) → IsWidePivot d l y.cols e → IsShownBy y S e
    begin_is_shown e w = lawful_is_shown y S d l y.cols e h.laid_out least.within help_in (later, (let a = h.help in omega arith)) (signed_inside y (column d.basis.items l) least.hinders.signed) (arranged_objectives y d arranged)
        (record { not_zero = nz; kind = inr (inr (inl (h.help, λ f. (let q = f l least.within least.hinders.signed in omega (arith, ints))))) }) w

    module _ (pv : IsPivotOf d l y.cols d') where
      up_sign : (i : ℕ) → i < y.slacks → pos 0 <ℤ (negsuc 0 *ℤ entry (row_at h.laid_out.dictionary.whole i) (column d.others.items y.cols))
      up_sign i li = hinders_sign y d y.cols false i (in_basis i li) help_in (all_help i li) S h.laid_out.dictionary

      slack_l : l < y.slacks
      slack_l = signed_row l least.within least.hinders.signed

      next : PivotedAs S (slice_set d.basis.items l (column d.others.items y.cols)) (slice_set d.others.items y.cols (column d.basis.items l)) (rows_of d') (pivot_rows (negsuc 0) l (column d.others.items y.cols) h.laid_out.dictionary.whole)
      next = pivoted_as S d.basis.items d.others.items (rows_of d) (rows_of d') l y.cols h.laid_out.dictionary least.within help_in pv.pivoted (negsuc 0) (direction_sign false) (up_sign l slack_l)

      ratio : IsRatioTest (key_columns y) (is_signed y) d.basis.items h.laid_out.dictionary.whole (negsuc 0) l (column d.others.items y.cols)
      ratio = record {
        leaves = least.hinders.signed;
        bounded = up_sign l slack_l;
        least = λ i li' ni si pi.
            let li : i < length d.basis.items = (let a = h.laid_out.dictionary.tableau.tableau.as_many in omega arith) in
            (least.least i li ni (all_help i (signed_row i li si))).stays S h.laid_out.dictionary (negsuc 0) (direction_sign false) (up_sign l slack_l) pi;
      }

      constant_down : pos 0 <ℤ entry (row_at h.laid_out.dictionary.whole l) 0
      constant_down =
          let w = h.laid_out.dictionary.entries l 0 least.within h.laid_out.some in
          below (at (rows_of d) l 0).num (entry (row_at h.laid_out.dictionary.whole l) (column d.basis.items l)) (entry (row_at h.laid_out.dictionary.whole l) 0) (at (rows_of d) l 0).den
          (subst (λ u. (at (rows_of d) l 0).num *ℤ entry (row_at h.laid_out.dictionary.whole l) (column d.basis.items l) ≡ neg_ℤ (entry (row_at h.laid_out.dictionary.whole l) u) *ℤ (at (rows_of d) l 0).den) h.laid_out.constant w.same) down
          (h.laid_out.dictionary.tableau.tableau.positive l (wide l least.within)) w.reduced.positive
        where
          below : (n e x m : ℤ) → n *ℤ e ≡ neg_ℤ x *ℤ m → n <ℤ pos 0 → pos 0 <ℤ e → pos 0 <ℤ m → pos 0 <ℤ x
          below n e x m q hn he hm =
              let n1 : pos 0 <ℤ neg_ℤ n = omega (arith, ints) in
              let p = simp ring at (mul_pos n1 he) in
              pos_cancel hm (let q' = simp ring at q in simp ring (omega (arith, ints)))

      feasible_next : IsLexFeasible (key_columns y) (is_signed y) (slice_set d.basis.items l (column d.others.items y.cols)) (pivot_rows (negsuc 0) l (column d.others.items y.cols) h.laid_out.dictionary.whole)
      feasible_next = pivot_begins_feasible (upward y.cols y.slacks) (is_signed y) d.basis.items h.laid_out.dictionary.whole l (column d.others.items y.cols) h.laid_out.dictionary.tableau.tableau (wide l least.within) ratio constant_down
          (λ i li' si. let li : i < length d.basis.items = (let a = h.laid_out.dictionary.tableau.tableau.as_many in omega arith) in let p = up_sign i (signed_row i li si) in omega (arith, ints))

      in_memory : (P N : List ℕ) → P ≡ slice_set d.basis.items l (column d.others.items y.cols) → N ≡ slice_set d.others.items y.cols (column d.basis.items l)
          → (t : IsDictionaryOf S P N (rows_of d')) × IsLexFeasible (key_columns y) (is_signed y) P t.whole
      in_memory P N ep eN =
          subst (λ X. (t : IsDictionaryOf S X N (rows_of d')) × IsLexFeasible (key_columns y) (is_signed y) X t.whole) (sym ep)
          (subst (λ X. (t : IsDictionaryOf S (slice_set d.basis.items l (column d.others.items y.cols)) X (rows_of d')) × IsLexFeasible (key_columns y) (is_signed y) (slice_set d.basis.items l (column d.others.items y.cols)) t.whole) (sym eN)
          (next.dictionary, subst (λ R. IsLexFeasible (key_columns y) (is_signed y) (slice_set d.basis.items l (column d.others.items y.cols)) R) (sym next.whole_is) feasible_next))

      laid : IsLaidOut y S d'
      laid = laid_out_next y S d d' l y.cols h.laid_out least.within help_in nz later pv

      pub begun_arranged : IsArranged y d'
      begun_arranged = arranged_next y S d d' l y.cols h.laid_out least.within help_in nz later pv least.hinders.signed (λ r. (let e = h.help in let b = r.1 in omega arith)) arranged

      pub begun_state : IsState y S d' (y.slacks + y.residuals + 1)
      begun_state =
          let m = in_memory d'.basis.items d'.others.items pv.basis pv.others in
          record {
            shaped = laid.shaped;
            apart = laid.apart;
            dictionary = m.0;
            feasible = m.1;
            fits = laid.fits;
            some = laid.some;
            constant = laid.constant;
            within = (let a = begun_arranged.count in omega arith);
            objective = (let a = begun_arranged.phase in omega arith);
          }

-- what the test of a fraction says
pub up_num : (b : Bool) (r x : Ratio) → b ≡ false → (IsTrue b ↔ (r.num <ℤ pos 0)) → r ≡ x → pos 0 ≤ℤ x.num
up_num true r x e h q = absurd (no e)
  where
    no : true ≡ false → ⊥
    no e = cc
up_num false r x e h q = subst (λ (z : Ratio). pos 0 ≤ℤ z.num) q (by_lt_z r.num (pos 0) (λ n. absurd (no (h.1 n))) (λ p. p))
  where
    no : false ≡ true → ⊥
    no e = cc

pub down_num : (b : Bool) (r x : Ratio) → b ≡ true → (IsTrue b ↔ (r.num <ℤ pos 0)) → r ≡ x → x.num <ℤ pos 0
down_num true r x e h q = subst (λ (z : Ratio). z.num <ℤ pos 0) q (h.0 refl)
down_num false r x e h q = absurd (no e)
  where
    no : false ≡ true → ⊥
    no e = cc
