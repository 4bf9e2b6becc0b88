-- Residuals leave for free coordinates: what each pivot keeps, and what is left where there is none.
use Rattle.pm_vector.proofs.Ring.{ring}
use Rattle.pm_vector.proofs.Signs.{mul_cancel, mul_pos, pos_cancel}
use Rattle.pm_vector.specs.Numbers.{Ratio}
use Rattle.pm_vector.specs.Rows.{Row}
use Rattle.pm_vector.specs.Bases.{column}
use Rattle.pm_geom.specs.declared.evidence.Evidence.{Evidence}
use Rattle.pm_programs.specs.Dictionaries.{at, row_of}
use Rattle.pm_simplex.proofs.EvidenceLaws.{absorbing_objectives, lawful_is_shown}
use Rattle.pm_simplex.proofs.Layouts.{basis_other, basis_own, count_N, count_P, here_zero, laid_out_next, others_other, settled_next, sum_kept}
use Rattle.pm_simplex.specs.Comparisons.{rows_of}
use Rattle.pm_simplex.specs.Evidence.{IsShownBy, IsWidePivot}
use Rattle.pm_simplex.specs.Running.{IsAbsorbing, IsFreeColumn, IsLaidOut, IsPivotOf, IsResidualColumn, IsSettledRow, IsSmall}
use Rattle.pm_simplex.specs.States.{auxiliary, columns_of, objective_column, phase_column}
use Rattle.pm_simplex.specs.declared.dictionary.Dictionary.{Dictionary}
use Rattle.pm_simplex.specs.declared.layout.Layout.{Layout}
use Rattle.std.proofs.Common.{ap, arith, inl, inr, refl, subst, sym, ◌∙◌}
use Rattle.std.proofs.lemmas.Int.{ints}
use Rattle.std.specs.Prelude.{Bool, IsTrue, List, false, length, not, true, ℕ, ◌+◌, ◌-◌, ◌<◌, ◌≡◌, ◌≤◌, ◌⊎◌, ◌↔◌}
use lib.IntN.{pos, ℤ, ◌*ℤ◌}
use lib.Signed.{◌<ℤ◌}
use native.Mathlib.Decide.{dec_lt, ℕ_discrete}

pub small : (y : Layout) (S : List Row) (d : Dictionary) → IsLaidOut y S d → IsSmall d
small y S d h = record {
  basis = λ i li. (let a = h.apart.basic_inside i li in let b = y.small in omega arith);
  others = λ k lk. (let a = h.apart.other_inside k lk in let b = y.small in omega arith);
}

free_is_later : (y : Layout) (c : ℕ) → IsFreeColumn y c → 0 < c
free_is_later y c f = f.0

free_is_no_residual : (y : Layout) (c : ℕ) → IsFreeColumn y c → ¬ (IsResidualColumn y c)
free_is_no_residual y c f r = let a = f.1 in let b = r.0 in omega arith

-- a column outside of the basis, while residuals leave, is that of the constants, of a free coordinate, of a residual or of the auxiliary variable
pub other_kinds : (y : Layout) (S : List Row) (d : Dictionary) (n : ℕ) (h : IsAbsorbing y S d n) (k : ℕ) → k < length d.others.items
    → (k ≡ 0) ⊎ (IsFreeColumn y (column d.others.items k) ⊎ (IsResidualColumn y (column d.others.items k) ⊎ (k ≡ y.cols)))
other_kinds y S d n h k lk = elim (ℕ_discrete k 0) [
  | yes e ↦ inl e
  | no nk ↦ inr (elim (dec_lt (column d.others.items k) y.cols) [
    | yes l ↦ inl (later nk, l)
    | no m ↦ inr (elim (dec_lt (column d.others.items k) (y.cols + y.slacks)) [
      | yes l ↦ absurd (slack_is_basic l m)
      | no p ↦ elim (dec_lt (column d.others.items k) (y.cols + y.slacks + y.residuals)) [
        | yes l ↦ inl (omega arith, l)
        | no q ↦ inr (last q)
      ]
    ])
  ])
]
  where
    later : ¬ (k ≡ 0) → 0 < column d.others.items k
    later nk = elim (ℕ_discrete (column d.others.items k) 0) [
      | yes e ↦ absurd (h.laid_out.apart.different k 0 lk h.laid_out.some nk (e ∙ sym h.laid_out.constant))
      | no ne ↦ omega arith
    ]

    slack_is_basic : column d.others.items k < y.cols + y.slacks → ¬ (column d.others.items k < y.cols) → ⊥
    slack_is_basic l m = by_place (place (column d.others.items k) l m)
      where
        place : (c : ℕ) → c < y.cols + y.slacks → ¬ (c < y.cols) → (i : ℕ) × (i < y.slacks) × (c ≡ y.cols + i)
        place c l m = between y.cols c (omega arith)
          where
            between : (n c' : ℕ) → n ≤ c' → (i : ℕ) × (i < y.slacks) × (c ≡ y.cols + i)
            between n c' u = (c - y.cols, omega arith, omega arith)

        by_place : (i : ℕ) × (i < y.slacks) × (column d.others.items k ≡ y.cols + i) → ⊥
        by_place (i, li, e) = h.laid_out.apart.apart i k (let a = h.count in omega arith) lk (h.slacks i li ∙ sym e)

    last : ¬ (column d.others.items k < y.cols + y.slacks + y.residuals) → k ≡ y.cols
    last q = elim (ℕ_discrete k y.cols) [
      | yes e ↦ e
      | no ne ↦ absurd (past (column d.others.items k) (h.laid_out.apart.other_inside k lk) q
          (λ e. h.laid_out.apart.different k y.cols lk (let a = h.cols in omega arith) ne (e ∙ sym h.help))
          (λ e. h.laid_out.apart.apart (y.slacks + y.residuals) k (let a = h.count in omega arith) lk (h.objective ∙ sym e))
          (λ e. h.laid_out.apart.apart (y.slacks + y.residuals + 1) k (let a = h.count in omega arith) lk (h.phase ∙ sym e)))
    ]
      where
        past : (c : ℕ) → c < columns_of y → ¬ (c < y.cols + y.slacks + y.residuals) → ¬ (c ≡ auxiliary y) → ¬ (c ≡ objective_column y) → ¬ (c ≡ phase_column y) → ⊥
        past c l q a o p = omega arith

-- ---- a pivot
module _ (y : Layout) (S : List Row) (d d' : Dictionary) (n j : ℕ) (h : IsAbsorbing y S d n) (from : y.slacks ≤ n) (within : n < y.slacks + y.residuals) (lj : j < length d.others.items) (free : IsFreeColumn y (column d.others.items j)) (nz : ¬ ((at (rows_of d) n j).num ≡ pos 0)) (pv : IsPivotOf d n j d') where
  ln : n < length d.basis.items
  ln = let a = h.count in omega arith

  b_other : (i : ℕ) → ¬ (i ≡ n) → column d'.basis.items i ≡ column d.basis.items i
  b_other i ne = basis_other y S d d' n j h.laid_out ln lj nz free.0 pv i ne

  n_count : length d'.others.items ≡ length d.others.items
  n_count = count_N y S d d' n j h.laid_out ln lj nz free.0 pv

  not_help : ¬ (y.cols ≡ j)
  not_help q = let a = free.1 in let e = h.help in let f = ap (column d.others.items) q in omega arith

  help_in : y.cols < length d.others.items
  help_in = let a = h.cols in omega arith

  new_help : (at (rows_of d') n y.cols).num ≡ pos 0
  new_help = here_zero (row_of (rows_of d) n) j y.cols (at (rows_of d') n y.cols) (pv.pivoted.here y.cols help_in) not_help (h.not_helped n from within)

  kept : (i : ℕ) → i < length d.basis.items → ¬ (i ≡ n) → (at (rows_of d') i y.cols).num *ℤ (at (rows_of d) i y.cols).den ≡ (at (rows_of d) i y.cols).num *ℤ (at (rows_of d') i y.cols).den
  kept i li ni = sum_kept (at (rows_of d) i y.cols) (at (rows_of d) i j) (at (rows_of d') n y.cols) (at (rows_of d') i y.cols) ((pv.pivoted.elsewhere i y.cols li ni help_in).rest not_help) new_help

  next_laid_out : IsLaidOut y S d'
  next_laid_out = laid_out_next y S d d' n j h.laid_out ln lj nz free.0 pv

  pub absorbing_next : IsAbsorbing y S d' (n + 1)
  absorbing_next = record {
    laid_out = next_laid_out;
    cols = n_count ∙ h.cols;
    help = others_other y S d d' n j h.laid_out ln lj nz free.0 pv y.cols not_help ∙ h.help;
    count = count_P y S d d' n j h.laid_out ln lj nz free.0 pv ∙ h.count;
    objective = b_other (y.slacks + y.residuals) (λ e. omega arith) ∙ h.objective;
    phase = b_other (y.slacks + y.residuals + 1) (λ e. omega arith) ∙ h.phase;
    slacks = λ i li. b_other i (λ e. omega arith) ∙ h.slacks i li;
    residuals = λ i u li. b_other i (λ e. omega arith) ∙ h.residuals i (omega arith) li;
    done = λ i u li. elim (ℕ_discrete i n) [
      | yes q ↦ inl (subst (λ m. IsFreeColumn y (column d'.basis.items m)) (sym q) (subst (λ c. IsFreeColumn y c) (sym (basis_own y S d d' n j h.laid_out ln lj nz free.0 pv)) free))
      | no ni ↦ elim (h.done i u (omega arith)) [
        | inl f ↦ inl (subst (λ c. IsFreeColumn y c) (sym (b_other i ni)) f)
        | inr (r, s) ↦ inr (subst (λ c. IsResidualColumn y c) (sym (b_other i ni)) r, settled_next y S d d' n j h.laid_out ln lj nz free.0 pv i (let a = h.count in omega arith) ni (free_is_no_residual y (column d.others.items j) free) s)
      ]
    ];
    helped = λ i li.
        let l : i < length d.basis.items = (let a = h.count in omega arith) in
        let l' : i < length d'.basis.items = (let a = count_P y S d d' n j h.laid_out ln lj nz free.0 pv in omega arith) in
        up (at (rows_of d') i y.cols).num (at (rows_of d') i y.cols).den (at (rows_of d) i y.cols).num (at (rows_of d) i y.cols).den
        (next_laid_out.dictionary.entries i y.cols l' (let a = n_count in let b = help_in in omega arith)).reduced.positive (h.laid_out.dictionary.entries i y.cols l help_in).reduced.positive (kept i l (λ e. omega arith)) (h.helped i li);
    not_helped = λ i u li. elim (ℕ_discrete i n) [
      | yes q ↦ subst (λ m. (at (rows_of d') m y.cols).num ≡ pos 0) (sym q) new_help
      | no ni ↦
          let l : i < length d.basis.items = (let a = h.count in omega arith) in
          none (at (rows_of d') i y.cols).num (at (rows_of d') i y.cols).den (at (rows_of d) i y.cols).num (at (rows_of d) i y.cols).den
          (h.laid_out.dictionary.entries i y.cols l help_in).reduced.positive (kept i l ni) (h.not_helped i u li)
    ];
  }
    where
      up : (r rd e ed : ℤ) → pos 0 <ℤ rd → pos 0 <ℤ ed → r *ℤ ed ≡ e *ℤ rd → pos 0 <ℤ e → pos 0 <ℤ r
      up r rd e ed hr he q h = pos_cancel he (let a = mul_pos h hr in omega (arith, ints))

      none : (r rd e ed : ℤ) → pos 0 <ℤ ed → r *ℤ ed ≡ e *ℤ rd → e ≡ pos 0 → r ≡ pos 0
      none r rd e ed he q h = mul_cancel he (let f = ap (λ z. z *ℤ rd) h in let z : pos 0 *ℤ rd ≡ pos 0 = simp ring in let w : ed *ℤ pos 0 ≡ pos 0 = simp ring in omega (arith, ints))

  pub absorb_is_shown : (e : Evidence) → IsWidePivot d n j e → IsShownBy y S e
  absorb_is_shown e w = lawful_is_shown y S d n j e h.laid_out ln lj (free.0, (let a = free.1 in omega arith)) (let a = h.residuals n (omega arith) within in omega arith) (absorbing_objectives y S d n h) (record { not_zero = nz; kind = inl free }) w

-- ---- no pivot
pub absorbing_skip : (y : Layout) (S : List Row) (d : Dictionary) (n : ℕ) → IsAbsorbing y S d n → y.slacks ≤ n → n < y.slacks + y.residuals
    → ((k : ℕ) → k < length d.others.items → IsFreeColumn y (column d.others.items k) → (at (rows_of d) n k).num ≡ pos 0) → (at (rows_of d) n 0).num ≡ pos 0 → IsAbsorbing y S d (n + 1)
absorbing_skip y S d n h from within free constant = record {
  laid_out = h.laid_out;
  cols = h.cols;
  help = h.help;
  count = h.count;
  objective = h.objective;
  phase = h.phase;
  slacks = h.slacks;
  residuals = λ i u li. h.residuals i (omega arith) li;
  done = λ i u li. elim (ℕ_discrete i n) [
    | yes q ↦ subst (λ m. IsFreeColumn y (column d.basis.items m) ⊎ (IsResidualColumn y (column d.basis.items m) × IsSettledRow y d m)) (sym q) (inr (own_residual, settled))
    | no ni ↦ h.done i u (omega arith)
  ];
  helped = h.helped;
  not_helped = h.not_helped;
}
  where
    own_residual : IsResidualColumn y (column d.basis.items n)
    own_residual = subst (λ c. IsResidualColumn y c) (sym (h.residuals n (omega arith) within)) (omega arith, omega arith)

    settled : IsSettledRow y d n
    settled = record {
      zero = λ k lk nr. elim (other_kinds y S d n h k lk) [
        | inl e ↦ subst (λ m. (at (rows_of d) n m).num ≡ pos 0) (sym e) constant
        | inr (inl f) ↦ free k lk f
        | inr (inr (inl r)) ↦ absurd (nr r)
        | inr (inr (inr e)) ↦ subst (λ m. (at (rows_of d) n m).num ≡ pos 0) (sym e) (h.not_helped n from within)
      ];
    }

pub zero_num : (b : Bool) (r x : Ratio) → not b ≡ false → (IsTrue b ↔ (r.num ≡ pos 0)) → r ≡ x → x.num ≡ pos 0
zero_num true r x e h q = subst (λ (z : Ratio). z.num ≡ pos 0) q (h.0 refl)
zero_num false r x e h q = cc
