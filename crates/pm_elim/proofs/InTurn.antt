-- A row, reduced by the first rows of a basis.
use Rattle.pm_vector.specs.Rows.{Row, entry}
use Rattle.pm_vector.proofs.Columns.{row_cols}
use Rattle.pm_vector.specs.Bases.{IsReducedBasis, column, row_at}
use Rattle.pm_elim.proofs.ReductionLaws.{reduced_more, reduced_unique}
use Rattle.pm_vector.specs.Steps.{IsReducedOnce, ReducedBy, StepStays}
use Rattle.std.proofs.Common.{add-one, arith, inl, inr, refl, ◌∙◌}
use Rattle.std.proofs.lemmas.Bool.{cases_eq, cases_lt}
use Rattle.std.proofs.lemmas.Int.{ints}
use Rattle.std.proofs.lemmas.List.{get_or_past, take_all}
use Rattle.std.specs.Prelude.{List, length, take, ℕ, ◌+◌, ◌<◌, ◌≡◌}
use lib.IntN.{pos}

-- ---- a pivot column is one of the columns
pub pivot_below : (n : ℕ) (B : List Row) (P : List ℕ) → IsReducedBasis n B P → (i : ℕ) → i < length B → column P i < n
pivot_below n B P e i l = elim (cases_lt (column P i) n) [
  | inl below ↦ below
  | inr past ↦ absurd (
      let c = row_cols n B P e i l in
      let z : entry (row_at B i) (column P i) ≡ pos 0 = get_or_past (row_at B i) (column P i) (pos 0) (omega arith) in
      let p = e.positive i l in
      omega (arith, ints))
]

pub record InTurn (B : List Row) (P : List ℕ) (r : Row) (i : ℕ) (m : Row) : Type 0 where
  pub reduced : ReducedBy (take i B) (take i P) r m
  pub stays : (k : ℕ) (x : Row) → k < i → ReducedBy (take k B) (take k P) r x → StepStays x (row_at B k) (column P k)
  pub cols : length m ≡ length r

module _ (B : List Row) (P : List ℕ) (r : Row) where
  pub InTurn-none : InTurn B P r 0 r
  InTurn-none = record { reduced = refl; stays = λ k x l h. absurd (omega arith); cols = refl }

  pub InTurn-more : (i : ℕ) (m k : Row) → length P ≡ length B → i < length B → length k ≡ length m → InTurn B P r i m → IsReducedOnce m (row_at B i) (column P i) k → StepStays m (row_at B i) (column P i) → InTurn B P r (i + 1) k
  InTurn-more i m k e l lk t s stays = record {
    reduced = rw add-one (reduced_more B P r m k i e l t.reduced s);
    stays = λ j x lj h. elim (cases_eq j i) [
      | inl same ↦
          let h' = rw same at h in
          let q : x ≡ m = reduced_unique (take i B) (take i P) r x m h' t.reduced in
          rw (q, same) stays
      | inr other ↦ t.stays j x (omega arith) h
    ];
    cols = lk ∙ t.cols;
  }

  pub InTurn-all : (i : ℕ) (m : Row) → length P ≡ length B → i ≡ length B → InTurn B P r i m → ReducedBy B P r m
  InTurn-all i m e l t = rw (take_all i B (omega arith), take_all i P (omega arith)) at t.reduced
