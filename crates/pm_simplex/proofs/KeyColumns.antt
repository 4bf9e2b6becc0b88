-- The columns of the lexicographic order, and what a row of a dictionary says of them.
use Rattle.pm_vector.proofs.Ring.{ring}
use Rattle.pm_vector.specs.Numbers.{Ratio}
use Rattle.pm_vector.specs.Rows.{Row, entry, ratio_at}
use Rattle.pm_vector.specs.Bases.{column, row_at}
use Rattle.pm_fraction.specs.Arithmetic.{opposite_of}
use Rattle.pm_fraction.specs.Fractions.{ratio_of}
use Rattle.pm_programs.specs.Dictionaries.{IsDictionaryOf, at, row_of}
use Rattle.pm_programs.specs.Lex.{key}
use Rattle.pm_simplex.specs.States.{key_found, key_in, key_sign, upward}
use Rattle.std.proofs.Common.{ap, arith, inl, inr, eq-eqb, refl, subst, sym, ◌∙◌}
use Rattle.std.proofs.lemmas.Int.{ints}
use Rattle.std.proofs.lemmas.Grind.{common_steps}
use Rattle.std.specs.Prelude.{List, [], false, length, nat_eq, suc, zero, ℕ, ◌+◌, ◌-◌, ◌<◌, ◌∷◌, ◌≡◌, ◌⊎◌}
use lib.IntN.{neg_ℤ, pos, ℤ, ◌*ℤ◌}
use lib.Signed.{◌<ℤ◌}
use native.Mathlib.Decide.{ℕ_discrete}

pub upward_at : (n m k : ℕ) → k < m → column (upward n m) k ≡ n + k
upward_at n zero k l = absurd (omega arith)
upward_at n (suc m) zero l = omega arith
upward_at n (suc m) (suc k) l = upward_at (n + 1) m k (omega arith) ∙ omega arith

pub length_upward : (n m : ℕ) → length (upward n m) ≡ m
length_upward n zero = refl
length_upward n (suc m) = ap suc (length_upward (n + 1) m)

pub key_at : (n m k : ℕ) → ¬ (k ≡ 0) → k < m + 1 → n + k - 1 ≡ column (0 ∷ upward n m) k
key_at n m zero h l = absurd (h refl)
key_at n m (suc k) h l = let e = upward_at n m k (omega arith) in omega arith

-- ---- what is found
pub nat_eq_no : (a b : ℕ) → ¬ (a ≡ b) → nat_eq a b ≡ false
nat_eq_no a b h = grind (arith, common_steps)

pub found_at : (c : ℕ) (N : List ℕ) (x : List Ratio) (k : ℕ) → k < length N → k < length x → ((i : ℕ) → i < k → ¬ (column N i ≡ c)) → column N k ≡ c → key_found c N x ≡ key_sign c (ratio_at x k)
found_at c [] x k l m f e = absurd (omega arith)
found_at c (n ∷ N) [] k l m f e = absurd (omega arith)
found_at c (n ∷ N) (r ∷ x) zero l m f e = let t = eq-eqb n c e in rw t refl
found_at c (n ∷ N) (r ∷ x) (suc k) l m f e = let t = nat_eq_no n c (f 0 (omega arith)) in rw t (found_at c N x k (omega arith) (omega arith) (λ i li. f (suc i) (omega arith)) e)

pub found_none : (c : ℕ) (N : List ℕ) (x : List Ratio) → length N ≡ length x → ((i : ℕ) → i < length N → ¬ (column N i ≡ c)) → key_found c N x ≡ ratio_of (pos 0) (pos 1)
found_none c [] x l f = refl
found_none c (n ∷ N) [] l f = refl
found_none c (n ∷ N) (r ∷ x) l f = let t = nat_eq_no n c (f 0 (omega arith)) in rw t (found_none c N x (omega arith) (λ i li. f (suc i) (omega arith)))

-- the first place of a column
later : (c n : ℕ) (N : List ℕ) (k : ℕ) → ¬ (n ≡ c) → ((i : ℕ) → i < k → ¬ (column N i ≡ c)) → (i : ℕ) → i < suc k → ¬ (column (n ∷ N) i ≡ c)
later c n N k ne f zero l = ne
later c n N k ne f (suc i) l = f i (omega arith)

pub first_place : (c : ℕ) (N : List ℕ) → ((k : ℕ) × (k < length N) × (column N k ≡ c) × ((i : ℕ) → i < k → ¬ (column N i ≡ c))) ⊎ ((i : ℕ) → i < length N → ¬ (column N i ≡ c))
first_place c [] = inr (λ i l e. omega arith)
first_place c (n ∷ N) = elim (ℕ_discrete n c) [
  | yes e ↦ inl (0, omega arith, e, λ i l q. omega arith)
  | no ne ↦ elim (first_place c N) [
    | inl w ↦ inl (suc w.0, (let l = w.1 in omega arith), w.2, later c n N w.0 ne w.3)
    | inr f ↦ inr (λ i l. later c n N (length N) ne f i l)
  ]
]

-- ---- what a key stands for
opposite_key : (n d x r : ℤ) → n *ℤ d ≡ neg_ℤ x *ℤ r → neg_ℤ n *ℤ d ≡ x *ℤ r
opposite_key n d x r e = let f = simp ring at e in simp ring (omega (arith, ints))

sign_stands : (c : ℕ) (x : Row) (d : ℤ) (r : Ratio) → r.num *ℤ d ≡ neg_ℤ (entry x c) *ℤ r.den → (key_sign c r).num *ℤ d ≡ key x c *ℤ (key_sign c r).den
sign_stands zero x d r e = e
sign_stands (suc c) x d r e = opposite_key r.num d (entry x (suc c)) r.den e

sign_positive : (c : ℕ) (r : Ratio) → pos 0 <ℤ r.den → pos 0 <ℤ (key_sign c r).den
sign_positive zero r h = h
sign_positive (suc c) r h = h

zero_key : (c : ℕ) (x : Row) (d : ℤ) → entry x c ≡ pos 0 → pos 0 *ℤ d ≡ key x c *ℤ pos 1
zero_key zero x d e = simp (e, ring)
zero_key (suc c) x d e = simp (e, ring)

own_key : (c : ℕ) (x : Row) → ¬ (c ≡ 0) → pos 1 *ℤ entry x c ≡ key x c *ℤ pos 1
own_key zero x h = absurd (h refl)
own_key (suc c) x h = simp ring

pub record StandsFor (r : Ratio) (n d : ℤ) : Type 0 where
  pub positive : pos 0 <ℤ r.den
  pub value : r.num *ℤ d ≡ n *ℤ r.den

module _ (S : List Row) (P N : List ℕ) (D : List (List Ratio)) (t : IsDictionaryOf S P N D) (i c : ℕ) (li : i < length P) (shape : length (row_of D i) ≡ length N)
    (cover : ((j : ℕ) × (j < length P) × (column P j ≡ c)) ⊎ ((k : ℕ) × (k < length N) × (column N k ≡ c))) where
  ri : i < length t.whole
  ri = let a = t.tableau.tableau.as_many in omega arith

  other_stands : ¬ (c ≡ column P i) → StandsFor (key_found c N (row_of D i)) (key (row_at t.whole i) c) (entry (row_at t.whole i) (column P i))
  other_stands nc = elim (first_place c N) [
    | inl w ↦ (
        let h = t.entries i w.0 li w.1 in
        let e = w.2 in
        let g = found_at c N (row_of D i) w.0 w.1 (rw shape w.1) w.3 w.2 in
        subst (λ r. StandsFor r (key (row_at t.whole i) c) (entry (row_at t.whole i) (column P i))) (sym g)
        (record {
          positive = sign_positive c (at D i w.0) h.reduced.positive;
          value = sign_stands c (row_at t.whole i) (entry (row_at t.whole i) (column P i)) (at D i w.0) (subst (λ m. (at D i w.0).num *ℤ entry (row_at t.whole i) (column P i) ≡ neg_ℤ (entry (row_at t.whole i) m) *ℤ (at D i w.0).den) e h.same);
        }))
    | inr f ↦ elim cover [
      | inl w ↦ (
          let g = found_none c N (row_of D i) (sym shape) f in
          let wj : w.0 < length t.whole = (let a = t.tableau.tableau.as_many in let b = w.1 in omega arith) in
          let z : entry (row_at t.whole i) c ≡ pos 0 = subst (λ m. entry (row_at t.whole i) m ≡ pos 0) w.2 (t.tableau.tableau.solved i w.0 ri wj (λ q. nc (sym w.2 ∙ ap (column P) (sym q)))) in
          subst (λ r. StandsFor r (key (row_at t.whole i) c) (entry (row_at t.whole i) (column P i))) (sym g)
          (record { positive = omega (arith, ints); value = zero_key c (row_at t.whole i) (entry (row_at t.whole i) (column P i)) z }))
      | inr w ↦ absurd (f w.0 w.1 w.2)
    ]
  ]

  pub key_stands : ¬ (column P i ≡ 0) → StandsFor (key_in (column P i) N (row_of D i) c) (key (row_at t.whole i) c) (entry (row_at t.whole i) (column P i))
  key_stands np = elim (ℕ_discrete c (column P i)) [
    | yes e ↦ (
        let t1 = eq-eqb c (column P i) e in
        rw t1 (record { positive = omega (arith, ints); value = subst (λ m. pos 1 *ℤ entry (row_at t.whole i) m ≡ key (row_at t.whole i) c *ℤ pos 1) e (own_key c (row_at t.whole i) (λ q. np (sym e ∙ q))) }))
    | no ne ↦ (let t1 = nat_eq_no c (column P i) ne in rw t1 (other_stands ne))
  ]

  pub vector_stands : ¬ (c ≡ column P i) → StandsFor (key_found c N (row_of D i)) (key (row_at t.whole i) c) (entry (row_at t.whole i) (column P i))
  vector_stands = other_stands

pub in_other : (p : ℕ) (N : List ℕ) (x : List Ratio) (c : ℕ) → ¬ (c ≡ p) → key_in p N x c ≡ key_found c N x
in_other p N x c h = let t = nat_eq_no c p h in rw t refl

pub sign_zero : (c : ℕ) (r : Ratio) → c ≡ 0 → key_sign c r ≡ r
sign_zero zero r e = refl
sign_zero (suc c) r e = absurd (omega arith)

pub sign_other : (c : ℕ) (r : Ratio) → ¬ (c ≡ 0) → key_sign c r ≡ opposite_of r
sign_other zero r h = absurd (h refl)
sign_other (suc c) r h = refl
