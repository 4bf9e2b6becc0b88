-- Rank and nullity: how many rows the echelon basis of a null space has.
use Rattle.pm_vector.specs.Cones.{InSpan, IsIndependent}
use Rattle.pm_vector.specs.Rows.{HasCols, Row}
use Rattle.pm_vector.proofs.Columns.{basis_is_independent, column_found}
use Rattle.pm_vector.proofs.Rank.{independent_are_few}
use Rattle.pm_vector.proofs.Spans.{span_at, span_from, span_to}
use Rattle.pm_vector.proofs.Unique.{at_most}
use Rattle.pm_vector.specs.Bases.{IsEchelonBasis, column, row_at}
use Rattle.pm_elim.proofs.ExtendedLaws.{combination_last, first_entry}
use Rattle.pm_elim.proofs.InTurn.{pivot_below}
use Rattle.pm_elim.proofs.PrefixLaws.{pivot_at_least}
use Rattle.pm_elim.proofs.TailLaws.{late}
use Rattle.pm_vector.specs.Evidence.{IsBasisOf, IsExtended}
use Rattle.pm_elim.specs.ExtendedLists.{AreTails, IsExtendedBasis}
use Rattle.std.proofs.Common.{ap, arith, inl, inr, sym, ◌∙◌}
use Rattle.std.proofs.lemmas.Bool.{cases_eq, cases_lt}
use Rattle.std.proofs.lemmas.List.{length-drop, length-map}
use Rattle.std.specs.Prelude.{List, length, ℕ, ◌+◌, ◌-◌, ◌<◌, ◌≡◌, ◌≤◌}

-- ---- the extended list
module _ (n : ℕ) (B X E : List Row) (Q : List ℕ) (cols : HasCols n B) (x : IsExtended n B X) (b : IsBasisOf (length B + n) X E Q) where
  extended_independent : IsIndependent X
  extended_independent d z i l = let a = x.as_many in sym (combination_last n B X cols x d i (omega arith)) ∙ z (length B + i)

  whole_count : length E ≡ n
  whole_count =
      let few = independent_are_few E X (basis_is_independent (length B + n) E Q b.echelon.basis) (λ i l. span_to b.span (span_at i l)) in
      let many = independent_are_few X E extended_independent (λ i l. span_from b.span (span_at i l)) in
      let a = x.as_many in
      omega arith

  -- the tails are as many as the columns less the rows, or more
  pub tails_at_least : (T : List Row) (R : List ℕ) → AreTails (length B) E Q T R → n ≤ length T + length B
  tails_at_least T R t =
      let whole = whole_count in
      let within = t.within in
      let many = ap length t.rows in
      let counted : length T ≡ length E - t.h = many ∙ (simp (length-map, length-drop)) in
      elim (cases_lt 0 t.h) [
        | inl some ↦
            let p = pivot_at_least (length B + n) E Q b.echelon (t.h - 1) (omega arith) in
            let q = t.before (t.h - 1) (omega arith) in
            omega arith
        | inr none ↦ omega arith
      ]

module _ (n : ℕ) (B : List Row) (P : List ℕ) (X E : List Row) (Q : List ℕ) (e : IsEchelonBasis n B P) (x : IsExtended n B X) (b : IsBasisOf (length B + n) X E Q) where
  -- each of the first columns is a pivot
  first_pivot : (l : ℕ) → l < length B → (i : ℕ) × (i < length E) × (column Q i ≡ l)
  first_pivot l ll =
      let c = pivot_below n B P e.basis l ll in
      let a = x.as_many in
      let inside : InSpan E (row_at X (column P l)) = span_from b.span (span_at (column P l) (omega arith)) in
      column_found (length B + n) E Q b.echelon (row_at X (column P l)) inside l
      (λ d ld. first_entry n B X e.cols x (column P l) d c (omega arith) ∙ e.reduced d l (omega arith) ll (λ s. omega arith))
      (rw (first_entry n B X e.cols x (column P l) l c ll) (e.positive l ll))

  module _ (h : ℕ) (hl : h ≤ length E) (lower : (i : ℕ) → i < h → column Q i < length B) (upper : h < length Q → length B ≤ column Q h) where
    at_front : (l : ℕ) → l < length B → (j : ℕ) × (j < h) × (column Q j ≡ l)
    at_front l ll =
        let p = first_pivot l ll in
        elim (cases_lt p.0 h) [
          | inl less ↦ (p.0, less, p.2)
          | inr more ↦ absurd (let u = late (length B) n h E Q b.echelon hl lower upper p.0 more p.1 in let same = p.2 in omega arith)
        ]

    front_count : h ≡ length B
    front_count =
        let many = at_most (λ l. l) (column Q) (length B) h (λ i j l lj. l) (λ i j l lj. b.echelon.ascending i j l (omega arith)) at_front in
        elim (cases_eq h 0) [
          | inl none ↦ omega arith
          | inr some ↦
              let p = pivot_at_least (length B + n) E Q b.echelon (h - 1) (omega arith) in
              let q = lower (h - 1) (omega arith) in
              omega arith
        ]

pub null_count : (n : ℕ) (B : List Row) (P : List ℕ) (E T : List Row) (Q R : List ℕ) → IsEchelonBasis n B P → IsExtendedBasis n B E Q → AreTails (length B) E Q T R → length T + length B ≡ n
null_count n B P E T Q R e x t =
    let whole = whole_count n B x.listed E Q e.cols x.extended x.basis in
    let front = front_count n B P x.listed E Q e x.extended x.basis t.h t.within t.before t.first in
    let many = ap length t.rows in
    let within = t.within in
    let counted : length T ≡ length E - t.h = many ∙ (simp (length-map, length-drop)) in
    omega arith
