-- The least row of a ratio test, found one row after another.
use Rattle.pm_vector.proofs.Ring.{ring}
use Rattle.pm_vector.proofs.Signs.{mul_pos, pos_cancel}
use Rattle.pm_vector.specs.Rows.{Row, entry}
use Rattle.pm_vector.specs.Bases.{column, row_at}
use Rattle.pm_programs.proofs.LexRows.{ratio_trans}
use Rattle.pm_programs.proofs.Pivots.{key-difference}
use Rattle.pm_simplex.specs.Comparisons.{HindersAt, IsLeastOf, IsRowBelow, direction, rows_of}
use Rattle.pm_programs.specs.Dictionaries.{IsDictionaryOf, at}
use Rattle.pm_programs.specs.Lex.{key}
use Rattle.pm_simplex.specs.States.{key_columns}
use Rattle.pm_programs.specs.Tableaux.{IsSign, pivot_row}
use Rattle.pm_simplex.specs.declared.dictionary.Dictionary.{Dictionary}
use Rattle.pm_simplex.specs.declared.layout.Layout.{Layout}
use Rattle.std.proofs.Common.{ap, arith, inl, inr, refl, subst, sym, ◌∙◌}
use Rattle.std.proofs.lemmas.Int.{ints}
use Rattle.std.specs.Prelude.{Bool, List, false, length, true, ℕ, ◌+◌, ◌<◌, ◌≡◌}
use lib.IntN.{neg_ℤ, pos, ℤ, ◌*ℤ◌}
use lib.Signed.{◌<ℤ◌}
use native.Mathlib.Decide.{ℕ_discrete}

pub direction_sign : (up : Bool) → IsSign (direction up)
direction_sign true = inl refl
direction_sign false = inr refl

-- the entry of a row that hinders has the sign of the direction
entry_sign : (s n m R d : ℤ) → pos 0 <ℤ m → n *ℤ d ≡ neg_ℤ R *ℤ m → pos 0 <ℤ d → (s *ℤ n) <ℤ pos 0 → pos 0 <ℤ (s *ℤ R)
entry_sign s n m R d hm e hd h =
    let p : pos 0 <ℤ neg_ℤ (s *ℤ n) = omega (arith, ints) in
    let q = mul_pos hd p in
    let f = simp ring at (ap (λ z. s *ℤ z) e) in
    pos_cancel hm (let q' = simp ring at q in simp ring (omega (arith, ints)))

pub hinders_sign : (y : Layout) (d : Dictionary) (j : ℕ) (up : Bool) (i : ℕ) → i < length d.basis.items → j < length d.others.items → HindersAt y d j up i
    → (S : List Row) (t : IsDictionaryOf S d.basis.items d.others.items (rows_of d)) → pos 0 <ℤ (direction up *ℤ entry (row_at t.whole i) (column d.others.items j))
hinders_sign y d j up i li lj h S t =
    let w = t.entries i j li lj in
    entry_sign (direction up) (at (rows_of d) i j).num (at (rows_of d) i j).den (entry (row_at t.whole i) (column d.others.items j)) (entry (row_at t.whole i) (column d.basis.items i)) w.reduced.positive w.same
    (t.tableau.tableau.positive i (let a = t.tableau.tableau.as_many in omega arith)) h.falls

-- a sign under which one entry is positive
same_sign : (s r x z : ℤ) → IsSign s → IsSign r → pos 0 <ℤ (s *ℤ x) → pos 0 <ℤ (r *ℤ x) → pos 0 <ℤ (r *ℤ z) → pos 0 <ℤ (s *ℤ z)
same_sign s r x z (inl e) (inl f) hs hr hz = let g : r ≡ s = f ∙ sym e in subst (λ u. pos 0 <ℤ (u *ℤ z)) g hz
same_sign s r x z (inr e) (inr f) hs hr hz = let g : r ≡ s = f ∙ sym e in subst (λ u. pos 0 <ℤ (u *ℤ z)) g hz
same_sign s r x z (inl e) (inr f) hs hr hz =
    let a = subst (λ u. pos 0 <ℤ (u *ℤ x)) e hs in
    let b = subst (λ u. pos 0 <ℤ (u *ℤ x)) f hr in
    absurd (omega (arith, ints))
same_sign s r x z (inr e) (inl f) hs hr hz =
    let a = subst (λ u. pos 0 <ℤ (u *ℤ x)) e hs in
    let b = subst (λ u. pos 0 <ℤ (u *ℤ x)) f hr in
    absurd (omega (arith, ints))

below_trans : (y : Layout) (d : Dictionary) (j : ℕ) (up : Bool) (i l k : ℕ) → i < length d.basis.items → l < length d.basis.items → j < length d.others.items → HindersAt y d j up i → HindersAt y d j up l
    → IsRowBelow y d i l j → IsRowBelow y d l k j → IsRowBelow y d i k j
below_trans y d j up i l k li ll lj hi hl b c = record {
  stays = λ S t s sg pi pk.
      let e = column d.others.items j in
      let pl = same_sign s (direction up) (entry (row_at t.whole i) e) (entry (row_at t.whole l) e) sg (direction_sign up) pi (hinders_sign y d j up i li lj hi S t) (hinders_sign y d j up l ll lj hl S t) in
      ratio_trans (key_columns y) (key (row_at t.whole i)) (key (row_at t.whole l)) (key (row_at t.whole k))
      (key (pivot_row s (row_at t.whole i) e (row_at t.whole l))) (key (pivot_row s (row_at t.whole l) e (row_at t.whole k))) (key (pivot_row s (row_at t.whole i) e (row_at t.whole k)))
      (s *ℤ entry (row_at t.whole i) e) (s *ℤ entry (row_at t.whole l) e) (s *ℤ entry (row_at t.whole k) e) pi pl pk
      (λ v. key-difference (s *ℤ entry (row_at t.whole i) e) (row_at t.whole l) (s *ℤ entry (row_at t.whole l) e) (row_at t.whole i) v)
      (λ v. key-difference (s *ℤ entry (row_at t.whole l) e) (row_at t.whole k) (s *ℤ entry (row_at t.whole k) e) (row_at t.whole l) v)
      (λ v. key-difference (s *ℤ entry (row_at t.whole i) e) (row_at t.whole k) (s *ℤ entry (row_at t.whole k) e) (row_at t.whole i) v)
      (b.stays S t s sg pi pl) (c.stays S t s sg pl pk);
}

module _ (y : Layout) (d : Dictionary) (j : ℕ) (up : Bool) (n l : ℕ) (h : IsLeastOf y d j up n l) where
  pub least_passed : ¬ (HindersAt y d j up n) → IsLeastOf y d j up (n + 1) l
  least_passed f = record {
    within = (let a = h.within in omega arith);
    hinders = h.hinders;
    least = λ i li ne hi. elim (ℕ_discrete i n) [ yes q ↦ absurd (f (subst (λ m. HindersAt y d j up m) q hi)) | no nq ↦ h.least i (omega arith) ne hi ];
  }

  pub least_kept : IsRowBelow y d l n j → IsLeastOf y d j up (n + 1) l
  least_kept b = record {
    within = (let a = h.within in omega arith);
    hinders = h.hinders;
    least = λ i li ne hi. elim (ℕ_discrete i n) [ yes q ↦ subst (λ m. IsRowBelow y d l m j) (sym q) b | no nq ↦ h.least i (omega arith) ne hi ];
  }

  pub least_replaced : n < length d.basis.items → j < length d.others.items → HindersAt y d j up n → IsRowBelow y d n l j → IsLeastOf y d j up (n + 1) n
  least_replaced ln lj hn b = record {
    within = omega arith;
    hinders = hn;
    least = λ i li ne hi. elim (ℕ_discrete i l) [
      | yes q ↦ subst (λ m. IsRowBelow y d n m j) (sym q) b
      | no nq ↦ below_trans y d j up n l i ln (let a = h.within in omega arith) lj hn h.hinders b (h.least i (omega arith) nq hi)
    ];
  }

pub not_zero_num : (y : Layout) (d : Dictionary) (j : ℕ) (up : Bool) (i : ℕ) → HindersAt y d j up i → ¬ ((at (rows_of d) i j).num ≡ pos 0)
not_zero_num y d j up i h e = none (direction up) (at (rows_of d) i j).num e h.falls
  where
    none : (s n : ℤ) → n ≡ pos 0 → (s *ℤ n) <ℤ pos 0 → ⊥
    none s n e h = let f = simp (e, ring) at h in omega (arith, ints)
