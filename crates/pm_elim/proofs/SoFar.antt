-- Elimination without evidence: what holds so far.
use Rattle.pm_vector.specs.Rows.{Row}
use Rattle.pm_vector.proofs.Spans.{same_span_refl, same_span_trans}
use Rattle.pm_vector.specs.Bases.{IsEchelonBasis, SameSpan, column, row_at}
use Rattle.pm_elim.proofs.BasisLaws.{empty_basis}
use Rattle.pm_elim.proofs.ReductionLaws.{reduced_more}
use Rattle.pm_elim.proofs.RoundLaws.{span_with_row}
use Rattle.pm_vector.specs.Evidence.{IsBasisOf}
use Rattle.pm_vector.specs.Rounds.{AllReducedOnce}
use Rattle.pm_vector.specs.Steps.{IsReducedOnce, ReducedBy}
use Rattle.std.proofs.Common.{add-one, ap, arith, below_more, refl, ◌∙◌}
use Rattle.std.proofs.Math.Seq.{take-length}
use Rattle.std.proofs.lemmas.List.{get_or_append_left, get_or_push, length_push, take_all, take_more}
use Rattle.std.specs.Prelude.{List, [], length, take, ℕ, ◌++◌, ◌+◌, ◌<◌, ◌∷◌, ◌≡◌}

-- m is r reduced by the first i rows
pub record ReducedSoFar (B : List Row) (P : List ℕ) (r : Row) (i : ℕ) (m : Row) : Type 0 where
  pub reduced : ReducedBy (take i B) (take i P) r m
  pub cols : length m ≡ length r

module _ (B : List Row) (P : List ℕ) (r : Row) where
  pub ReducedSoFar-none : (m : Row) → m ≡ r → ReducedSoFar B P r 0 m
  ReducedSoFar-none m e = record { reduced = e; cols = rw e refl }

  pub ReducedSoFar-more : (i : ℕ) (m k : Row) → length P ≡ length B → i < length B → length k ≡ length m → ReducedSoFar B P r i m → IsReducedOnce m (row_at B i) (column P i) k → ReducedSoFar B P r (i + 1) k
  ReducedSoFar-more i m k e l lk t s = record { reduced = rw add-one (reduced_more B P r m k i e l t.reduced s); cols = lk ∙ t.cols }

  pub ReducedSoFar-all : (i : ℕ) (m : Row) → length P ≡ length B → i ≡ length B → ReducedSoFar B P r i m → ReducedBy B P r m
  ReducedSoFar-all i m e l t = rw (take_all i B (omega arith), take_all i P (omega arith)) at t.reduced

-- the first i rows are reduced
pub record OlderSoFar (B : List Row) (x : Row) (c i : ℕ) (B' : List Row) : Type 0 where
  pub as_many : length B' ≡ i
  pub rows : (k : ℕ) → k < i → IsReducedOnce (row_at B k) x c (row_at B' k)

pub OlderSoFar-none : (B : List Row) (x : Row) (c : ℕ) (B' : List Row) → B' ≡ [] → OlderSoFar B x c 0 B'
OlderSoFar-none B x c B' e = record { as_many = rw e refl; rows = λ k l. absurd (omega arith) }

pub OlderSoFar-more : (B : List Row) (x : Row) (c i : ℕ) (B' : List Row) (m : Row) → OlderSoFar B x c i B' → IsReducedOnce (row_at B i) x c m → OlderSoFar B x c (i + 1) (B' ++ m ∷ [])
OlderSoFar-more B x c i B' m s h = record {
  as_many = length_push B' m ∙ ap (λ (k : ℕ). k + 1) s.as_many;
  rows = below_more (λ (k : ℕ). IsReducedOnce (row_at B k) x c (row_at (B' ++ m ∷ []) k)) i
      (λ k l. let n = s.as_many in rw (get_or_append_left B' (m ∷ []) [] k (omega arith)) (s.rows k l))
      (rw (get_or_push B' m [] i s.as_many) h);
}

pub OlderSoFar-all : (B : List Row) (x : Row) (c i : ℕ) (B' : List Row) → i ≡ length B → OlderSoFar B x c i B' → AllReducedOnce B x c B'
OlderSoFar-all B x c i B' all s = record { as_many = s.as_many ∙ all; rows = λ k l. s.rows k (omega arith) }

-- ---- the basis of the first rows
pub basis_none : (n : ℕ) (X B : List Row) (P : List ℕ) → B ≡ [] → P ≡ [] → IsBasisOf n (take 0 X) B P
basis_none n X B P e f = rw (e, f) (record { echelon = empty_basis n; span = same_span_refl [] })

pub basis_more : (n : ℕ) (X : List Row) (i : ℕ) (B B' : List Row) (P P' : List ℕ) → i < length X → IsBasisOf n (take i X) B P → IsEchelonBasis n B' P' → SameSpan B' (B ++ row_at X i ∷ []) → IsBasisOf n (take (i + 1) X) B' P'
basis_more n X i B B' P P' within so_far e s =
    record { echelon = e; span = rw (take_more X i [] within) (same_span_trans s (span_with_row B (take i X) (row_at X i) so_far.span)) }

pub basis_all : (n : ℕ) (X : List Row) (i : ℕ) (B : List Row) (P : List ℕ) → i ≡ length X → IsBasisOf n (take i X) B P → IsBasisOf n X B P
basis_all n X i B P all s = rw (all, take-length) at s
