-- A pivot by the lexicographic rule keeps a basis feasible, and raises the objective.
use Rattle.pm_vector.proofs.Ring.{ring}
use Rattle.pm_vector.proofs.RowLaws.{entry-difference, entry-times}
use Rattle.pm_vector.specs.Rows.{Row, difference, entry, ratio_at, times}
use Rattle.pm_vector.specs.Bases.{column, row_at}
use Rattle.pm_programs.proofs.Lex.{lex_rise}
use Rattle.pm_programs.proofs.LexRows.{lex_sum, lex_times, value_rises}
use Rattle.pm_programs.proofs.Tableaux.{column_other, column_set, entry_other, length_pivot, pivot_at, pivot_other}
use Rattle.pm_programs.specs.Lex.{IsLexPositive, Rises, key, keys}
use Rattle.pm_programs.specs.PivotLaws.{PivotBeginsFeasible, PivotKeepsFeasible, PivotRaises}
use Rattle.pm_programs.specs.Pivots.{IsLexFeasible}
use Rattle.pm_programs.specs.Tableaux.{IsTableau, pivot_row, pivot_rows}
use Rattle.std.proofs.Common.{ap, arith, inl, refl, subst, sym, ◌∙◌}
use Rattle.std.proofs.lemmas.Int.{by_lt_z, ints}
use Rattle.std.proofs.lemmas.List.{length-map}
use Rattle.std.specs.Prelude.{Bool, IsTrue, List, [], length, slice_set, suc, zero, ℕ, ◌<◌, ◌∷◌, ◌≡◌}
use lib.IntN.{neg_ℤ, negsuc, pos, ℤ, ◌*ℤ◌, ◌+ℤ◌, ◌-ℤ◌}
use lib.Signed.{◌<ℤ◌, ◌≤ℤ◌}
use native.Mathlib.Decide.{ℕ_discrete}

neg_out : (k x a y : ℤ) → neg_ℤ (k *ℤ x -ℤ a *ℤ y) ≡ k *ℤ neg_ℤ x -ℤ a *ℤ neg_ℤ y
neg_out k x a y = simp ring (omega (arith, ints))

neg_in : (k x : ℤ) → neg_ℤ (k *ℤ x) ≡ k *ℤ neg_ℤ x
neg_in k x = simp ring (omega (arith, ints))

pub key-difference : (p : ℤ) (x : Row) (q : ℤ) (y : Row) (c : ℕ) → key (difference p x q y) c ≡ p *ℤ key x c -ℤ q *ℤ key y c
key-difference p x q y zero = ap neg_ℤ (entry-difference p x q y 0) ∙ neg_out p (entry x 0) q (entry y 0)
key-difference p x q y (suc c) = entry-difference p x q y (suc c)

pub key-times : (k : ℤ) (x : Row) (c : ℕ) → key (times k x) c ≡ k *ℤ key x c
key-times k x zero = ap neg_ℤ (entry-times k x 0) ∙ neg_in k (entry x 0)
key-times k x (suc c) = entry-times k x (suc c)

-- an entry that does not hinder
lex_free : (K : List ℕ) (x y : Row) (s : ℤ) (e : ℕ) → pos 0 <ℤ (s *ℤ entry x e) → (s *ℤ entry y e) ≤ℤ pos 0 → IsLexPositive (keys K x) → IsLexPositive (keys K y) → IsLexPositive (keys K (pivot_row s x e y))
lex_free K x y s e hx hy px py =
    lex_sum K (key y) (key x) (key (pivot_row s x e y)) (pos 1) (s *ℤ entry x e) (neg_ℤ (s *ℤ entry y e)) (omega (arith, ints)) hx (omega (arith, ints))
    (λ c. joined (key (pivot_row s x e y) c) (s *ℤ entry x e) (key y c) (s *ℤ entry y e) (key x c) (key-difference (s *ℤ entry x e) y (s *ℤ entry y e) x c)) py px
  where
    joined : (w p a q b : ℤ) → w ≡ p *ℤ a -ℤ q *ℤ b → pos 1 *ℤ w ≡ p *ℤ a +ℤ neg_ℤ q *ℤ b
    joined w p a q b h = simp ring (omega (arith, ints))

module _ (K : List ℕ) (signed : ℕ → Bool) (P : List ℕ) (R : List Row) (s : ℤ) (l e : ℕ) (t : IsTableau P R) (ll : l < length R) where
  lp : l < length P
  lp = let a = t.as_many in omega arith

  -- from each row to the list
  pub feasible_from : (IsTrue (signed e) → IsLexPositive (keys K (times s (row_at R l)))) → ((i : ℕ) → i < length R → ¬ (i ≡ l) → IsTrue (signed (column P i)) → IsLexPositive (keys K (pivot_row s (row_at R l) e (row_at R i))))
      → IsLexFeasible K signed (slice_set P l e) (pivot_rows s l e R)
  feasible_from f g = record { positive = at }
    where
      at : (i : ℕ) → i < length (pivot_rows s l e R) → IsTrue (signed (column (slice_set P l e) i)) → IsLexPositive (keys K (row_at (pivot_rows s l e R) i))
      at i li' si =
          let li : i < length R = rw (length_pivot s l e R ll) at li' in
          elim (ℕ_discrete i l) [
            | yes q ↦ subst (λ m. IsLexPositive (keys K (row_at (pivot_rows s l e R) m))) (sym q)
                (subst (λ x. IsLexPositive (keys K x)) (sym (pivot_at s l e R ll))
                (f (subst (λ c. IsTrue (signed c)) (ap (column (slice_set P l e)) q ∙ column_set P l e lp) si)))
            | no ne ↦ subst (λ x. IsLexPositive (keys K x)) (sym (pivot_other s l e R ll i li ne)) (g i li ne (subst (λ c. IsTrue (signed c)) (column_other P l e i ne) si))
          ]

pub pivot_keeps_feasible : PivotKeepsFeasible
pivot_keeps_feasible K signed P R s l e t g ll h r up =
    feasible_from K signed P R s l e t ll
    (λ se. lex_times K (key (row_at R l)) (key (times s (row_at R l))) s (let q = up se in omega (arith, ints)) (λ c. key-times s (row_at R l) c) (h.positive l ll r.leaves))
    (λ i li ne si. by_lt_z (pos 0) (s *ℤ entry (row_at R i) e) (λ p. r.least i li ne si p) (λ p. lex_free K (row_at R l) (row_at R i) s e r.bounded p (h.positive l ll r.leaves) (h.positive i li si)))

pub pivot_begins_feasible : PivotBeginsFeasible
pivot_begins_feasible K signed P R l e t ll r below all =
    feasible_from (0 ∷ K) signed P R (negsuc 0) l e t ll
    (λ se. inl (let q = key-times (negsuc 0) (row_at R l) 0 in omega (arith, ints)))
    (λ i li ne si. r.least i li ne si (let q = all i li si in omega (arith, ints)))

pub pivot_raises : PivotRaises
pivot_raises K signed P R s l e z v w t g ll lz ne h r better a b =
    lex_rise (keys K (row_at R l)) v w (length-map K (key (row_at R l)) ∙ sym a.as_many) (a.as_many ∙ sym b.as_many)
    (λ i li. let lk : i < length K = rw length-map at li in subst (λ u. Rises (ratio_at v i) (ratio_at w i) u) (sym (entry_keys K i lk)) (rises i lk))
    (h.positive l ll r.leaves)
  where
    entry_keys : (K : List ℕ) (i : ℕ) → i < length K → entry (keys K (row_at R l)) i ≡ key (row_at R l) (column K i)
    entry_keys [] i li = absurd (omega arith)
    entry_keys (c ∷ K) zero li = refl
    entry_keys (c ∷ K) (suc i) li = entry_keys K i (omega arith)

    own : entry (row_at (pivot_rows s l e R) z) (column P z) ≡ (s *ℤ entry (row_at R l) e) *ℤ entry (row_at R z) (column P z)
    own = let f = t.solved l z ll lz (λ q. ne (sym q)) in entry_other s l e R ll z lz ne (column P z) ∙ (simp (f, ring) (omega (arith, ints)))

    turned : (k n q u : ℤ) → k *ℤ n -ℤ q *ℤ u ≡ k *ℤ n +ℤ neg_ℤ q *ℤ u
    turned k n q u = simp ring

    rises : (i : ℕ) → i < length K → Rises (ratio_at v i) (ratio_at w i) (key (row_at R l) (column K i))
    rises i lk =
        value_rises (ratio_at v i) (ratio_at w i) (key (row_at R z) (column K i)) (entry (row_at R z) (column P z)) (s *ℤ entry (row_at R l) e) (neg_ℤ (s *ℤ entry (row_at R z) e))
        (key (row_at R l) (column K i)) (key (row_at (pivot_rows s l e R) z) (column K i)) (entry (row_at (pivot_rows s l e R) z) (column P z))
        (t.positive z lz) r.bounded (let q = better in omega (arith, ints)) (a.positive i lk) (b.positive i lk) (a.value i lk) (b.value i lk)
        (ap (λ x. key x (column K i)) (pivot_other s l e R ll z lz ne) ∙ key-difference (s *ℤ entry (row_at R l) e) (row_at R z) (s *ℤ entry (row_at R z) e) (row_at R l) (column K i)
        ∙ turned (s *ℤ entry (row_at R l) e) (key (row_at R z) (column K i)) (s *ℤ entry (row_at R z) e) (key (row_at R l) (column K i)))
        own
