-- The first rows of a basis, reduced by a new row.
use Rattle.pm_vector.specs.Rows.{Row}
use Rattle.pm_vector.specs.Bases.{row_at}
use Rattle.pm_vector.specs.Rounds.{AllReducedOnce}
use Rattle.pm_vector.specs.Steps.{IsReducedOnce, StepStays}
use Rattle.std.proofs.Common.{arith, below_more, get_or, refl, set, ◌≢◌, ◌∙◌}
use Rattle.std.proofs.lemmas.List.{get_or-set_other, get_or-set_same, get_or_default}
use Rattle.std.specs.Prelude.{List, [], length, ℕ, ◌+◌, ◌<◌, ◌≡◌, ◌≤◌}

-- the steps of the first rows stay in the range
abbrev pub FirstStay : List Row → Row → ℕ → ℕ → Type 0
FirstStay B x c n = (i : ℕ) → i < n → StepStays (row_at B i) x c

-- the first n rows are reduced, and the others as they were
pub record FirstReduced (B : List Row) (x : Row) (c n : ℕ) (B' : List Row) : Type 0 where
  pub reduced : (i : ℕ) → i < n → IsReducedOnce (row_at B i) x c (row_at B' i)
  pub left : (i : ℕ) → n ≤ i → row_at B' i ≡ row_at B i

pub FirstReduced-more : (B : List Row) (x : Row) (c i : ℕ) (B' : List Row) (m : Row) → i < length B' → FirstReduced B x c i B' → IsReducedOnce (row_at B i) x c m → FirstReduced B x c (i + 1) (set B' i m)
FirstReduced-more B x c i B' m within s h = record {
  reduced = below_more _ i
      (λ k below. let other : k ≢ i = omega arith in rw get_or-set_other (s.reduced k below))
      (rw get_or-set_same h);
  left = λ k above. let other : k ≢ i = omega arith in rw get_or-set_other (s.left k (omega arith));
}

module _ (B : List Row) (x : Row) (c i : ℕ) (B' : List Row) (s : FirstReduced B x c i B') where
  -- the row whose turn it is was left as it was
  pub row_in_turn : (d : Row) → i < length B' → get_or B' i d ≡ row_at B i
  row_in_turn d within = get_or_default B' i d [] within ∙ s.left i (omega arith)

  pub FirstReduced-all : length B' ≡ length B → i ≡ length B → AllReducedOnce B x c B'
  FirstReduced-all same all = record { as_many = same; rows = λ k within. s.reduced k (omega arith) }

pub FirstReduced-none : (B : List Row) (x : Row) (c : ℕ) → FirstReduced B x c 0 B
FirstReduced-none B x c = record { reduced = λ i l. absurd (omega arith); left = λ i l. refl }
