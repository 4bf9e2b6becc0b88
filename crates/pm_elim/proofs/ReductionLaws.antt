-- The reduction of a row by the rows of a basis, in turn: it is determined, and what it does to the row.
use Rattle.pm_vector.proofs.ConeLaws.{in_line, in_plus, in_same, in_zero}
use Rattle.pm_vector.proofs.Lists.{Among, here, there}
use Rattle.pm_vector.proofs.Ring.{ring}
use Rattle.pm_vector.proofs.RowLaws.{entry-difference, entry-plus, entry-times}
use Rattle.pm_vector.proofs.Signs.{mul_pos, times_both}
use Rattle.pm_vector.specs.Cones.{InSpan}
use Rattle.pm_vector.specs.Rows.{HasCols, Row, entry}
use Rattle.pm_vector.proofs.Spans.{span_times}
use Rattle.pm_vector.specs.Bases.{column, row_at}
use Rattle.pm_elim.proofs.StepLaws.{p_positive as factor_positive, reduced_once_unique, step_entry, step_keeps_zero, step_length, step_multiple, step_zero}
use Rattle.pm_vector.specs.Steps.{IsReducedOnce, IsStep, ReducedBy, SameDirectionModulo}
use Rattle.std.proofs.Common.{arith, inl, inr, refl, subst, sym, ◌∙◌}
use Rattle.std.proofs.lemmas.Int.{ints}
use Rattle.std.specs.Prelude.{List, [], length, suc, take, zero, ℕ, ◌<◌, ◌∷◌, ◌≡◌}
use lib.IntN.{pos, ℤ, ◌*ℤ◌, ◌+ℤ◌, ◌-ℤ◌}
use lib.Signed.{lt_z_yes}

-- ---- one row
module _ {r b : Row} {c : ℕ} {m : Row} (s : IsReducedOnce r b c m) where
  pub once_zero : entry m c ≡ pos 0
  once_zero = elim s [ inl h ↦ subst (λ (x : Row). entry x c ≡ pos 0) (sym h.1) h.0 | inr t ↦ step_zero t ]

  pub once_keeps_zero : (i : ℕ) → entry r i ≡ pos 0 → entry b i ≡ pos 0 → entry m i ≡ pos 0
  once_keeps_zero i h k = elim s [ inl e ↦ subst (λ (x : Row). entry x i ≡ pos 0) (sym e.1) h | inr t ↦ step_keeps_zero t i h k ]

  pub once_length : (n : ℕ) → length r ≡ n → length b ≡ n → length m ≡ n
  once_length n lr lb = elim s [ inl e ↦ subst (λ (x : Row). length x ≡ n) (sym e.1) lr | inr t ↦ step_length t n lr lb ]

-- ---- the rows in turn
pub reduced_unique : (B : List Row) (P : List ℕ) (r m m' : Row) → ReducedBy B P r m → ReducedBy B P r m' → m ≡ m'
reduced_unique [] P r m m' h k = h ∙ sym k
reduced_unique (b ∷ B) [] r m m' h k = absurd h
reduced_unique (b ∷ B) (c ∷ P) r m m' (x, s, h) (y, t, k) =
    let e : x ≡ y = reduced_once_unique s t in
    reduced_unique B P y m m' (subst (λ (z : Row). ReducedBy B P z m) e h) k

pub reduced_length : (n : ℕ) (B : List Row) (P : List ℕ) (r m : Row) → HasCols n B → length r ≡ n → ReducedBy B P r m → length m ≡ n
reduced_length n [] P r m a l h = subst (λ (x : Row). length x ≡ n) (sym h) l
reduced_length n (b ∷ B) [] r m a l h = absurd h
reduced_length n (b ∷ B) (c ∷ P) r m a l (k, s, h) = reduced_length n B P k m a.1 (once_length s n l a.0) h

pub reduced_keeps_zero : (B : List Row) (P : List ℕ) (r m : Row) (d : ℕ) → ((i : ℕ) → i < length B → entry (row_at B i) d ≡ pos 0) → entry r d ≡ pos 0 → ReducedBy B P r m → entry m d ≡ pos 0
reduced_keeps_zero [] P r m d f z h = subst (λ (x : Row). entry x d ≡ pos 0) (sym h) z
reduced_keeps_zero (b ∷ B) [] r m d f z h = absurd h
reduced_keeps_zero (b ∷ B) (c ∷ P) r m d f z (k, s, h) = reduced_keeps_zero B P k m d (λ i l. f (suc i) (omega arith)) (once_keeps_zero s d z (f 0 (omega arith))) h

-- a row that is reduced by a reduced basis is 0 at the columns
pub reduced_zero : (B : List Row) (P : List ℕ) (r m : Row) → ((i j : ℕ) → i < length B → j < length B → ¬ (i ≡ j) → entry (row_at B i) (column P j) ≡ pos 0) → ReducedBy B P r m → (j : ℕ) → j < length B → entry m (column P j) ≡ pos 0
reduced_zero [] P r m f h j l = absurd (omega arith)
reduced_zero (b ∷ B) [] r m f h j l = absurd h
reduced_zero (b ∷ B) (c ∷ P) r m f (k, s, h) zero l = reduced_keeps_zero B P k m c (λ i li. f (suc i) 0 (omega arith) (omega arith) (λ e. omega arith)) (once_zero s) h
reduced_zero (b ∷ B) (c ∷ P) r m f (k, s, h) (suc j) l = reduced_zero B P k m (λ i j' li lj ne. f (suc i) (suc j') (omega arith) (omega arith) (λ e. ne (omega arith))) h j (omega arith)

-- one row more
pub reduced_more : (B : List Row) (P : List ℕ) (r m k : Row) (i : ℕ) → length P ≡ length B → i < length B → ReducedBy (take i B) (take i P) r m → IsReducedOnce m (row_at B i) (column P i) k → ReducedBy (take (suc i) B) (take (suc i) P) r k
reduced_more [] P r m k i e l h s = absurd (omega arith)
reduced_more (b ∷ B) [] r m k i e l h s = absurd (omega arith)
reduced_more (b ∷ B) (c ∷ P) r m k zero e l h s = (k, subst (λ (x : Row). IsReducedOnce x b c k) h s, refl)
reduced_more (b ∷ B) (c ∷ P) r m k (suc i) e l (x, t, h) s = (x, t, reduced_more B P x m k i (omega arith) (omega arith) h s)

-- a row that is 0 at the columns stays as it is
pub reduced_same : (B : List Row) (P : List ℕ) (r : Row) → length P ≡ length B → ((i : ℕ) → i < length B → entry r (column P i) ≡ pos 0) → ReducedBy B P r r
reduced_same [] P r e z = refl
reduced_same (b ∷ B) [] r e z = absurd (omega arith)
reduced_same (b ∷ B) (c ∷ P) r e z = (r, inl (z 0 (omega arith), refl), reduced_same B P r (omega arith) (λ i l. z (suc i) (omega arith)))

-- ---- the direction modulo the span
module _ (B : List Row) where
  pub modulo_refl : (r : Row) → SameDirectionModulo B r r
  modulo_refl r = record {
    p = pos 1;
    g = pos 1;
    p_positive = lt_z_yes tt;
    g_positive = lt_z_yes tt;
    inside = in_zero (λ i. simp (entry-difference, ring) (omega (arith, ints)));
  }

  -- g k = p r - q b is known, and p' k - g' m lies in the span
  after_step : {r b : Row} {c : ℕ} {k m : Row} → IsStep r b c k → InSpan B b → SameDirectionModulo B k m → SameDirectionModulo B r m
  after_step {r} {b} {c} {k} {m} s h t =
      let u = step_multiple s in
      record {
        p = t.p *ℤ s.p;
        g = u.g *ℤ t.g;
        p_positive = mul_pos t.p_positive (factor_positive s.factors);
        g_positive = mul_pos u.positive t.g_positive;
        inside = in_same (record { at = λ i. let e = step_entry s i in simp (entry-plus, entry-times, entry-difference) (joined t.p s.p u.g t.g s.q (entry r i) (entry b i) (entry k i) (entry m i) e) }) (in_plus (span_times u.g t.inside) (span_times (t.p *ℤ s.q) h));
      }
    where
      joined : (a p g d q r b k m : ℤ) → g *ℤ k ≡ p *ℤ r -ℤ q *ℤ b → g *ℤ (a *ℤ k -ℤ d *ℤ m) +ℤ (a *ℤ q) *ℤ b ≡ (a *ℤ p) *ℤ r -ℤ (g *ℤ d) *ℤ m
      joined a p g d q r b k m e = let f = simp ring at (times_both a e) in simp ring (omega (arith, ints))

  reduced_modulo_part : (X : List Row) (P : List ℕ) (r m : Row) → ((b : Row) → Among b X → InSpan B b) → ReducedBy X P r m → SameDirectionModulo B r m
  reduced_modulo_part [] P r m f h = subst (λ (x : Row). SameDirectionModulo B r x) (sym h) (modulo_refl r)
  reduced_modulo_part (b ∷ X) [] r m f h = absurd h
  reduced_modulo_part (b ∷ X) (c ∷ P) r m f (k, s, h) =
      let more = reduced_modulo_part X P k m (λ x i. f x (there i)) h in
      elim s [ inl e ↦ subst (λ (x : Row). SameDirectionModulo B x m) e.1 more | inr t ↦ after_step t (f b here) more ]

pub reduced_modulo : (B : List Row) (P : List ℕ) (r m : Row) → ReducedBy B P r m → SameDirectionModulo B r m
reduced_modulo B P r m h = reduced_modulo_part B B P r m (λ b i. in_line i) h

pub reduced_same_first : (B : List Row) (P : List ℕ) (r : Row) (k : ℕ) → length P ≡ length B → ((i : ℕ) → i < length B → entry r (column P i) ≡ pos 0) → ReducedBy (take k B) (take k P) r r
reduced_same_first B P r zero e z = refl
reduced_same_first [] P r (suc k) e z = refl
reduced_same_first (b ∷ B) [] r (suc k) e z = absurd (omega arith)
reduced_same_first (b ∷ B) (c ∷ P) r (suc k) e z = (r, inl (z 0 (omega arith), refl), reduced_same_first B P r k (omega arith) (λ i l. z (suc i) (omega arith)))
