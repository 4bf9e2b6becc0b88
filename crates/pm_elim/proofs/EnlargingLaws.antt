-- The mark of the next row.
use Rattle.pm_vector.specs.Cones.{InSpan}
use Rattle.pm_vector.specs.Rows.{Row}
use Rattle.pm_vector.proofs.Rank.{basis_gives_rank, rank_is_determined}
use Rattle.pm_vector.proofs.Spans.{same_span_appended, same_span_sym, same_span_trans, span_from, span_to}
use Rattle.pm_vector.specs.Bases.{IsEchelonBasis, SameSpan, row_at}
use Rattle.pm_vector.specs.Evidence.{IsBasisOf}
use Rattle.std.proofs.Common.{ap, arith, inl, inr, subst, sym, ◌∙◌}
use Rattle.std.proofs.lemmas.Bool.{cases_lt}
use Rattle.std.proofs.lemmas.List.{get_or_append_left, get_or_push, length_push}
use Rattle.std.specs.Prelude.{Bool, IsTrue, List, [], false, length, slice_index_or, take, ℕ, ◌++◌, ◌+◌, ◌<◌, ◌∷◌, ◌≡◌, ◌≤◌, ◌↔◌}

-- the marks of the first i rows
pub record MarkSoFar (X : List Row) (i : ℕ) (marks : List Bool) : Type 0 where
  pub as_many : length marks ≡ i
  pub exact : (k : ℕ) → k < i → IsTrue (slice_index_or marks k false) ↔ ¬ (InSpan (take k X) (row_at X k))

-- a row that is in the span leaves the number of basis rows as it was
same_count : (n : ℕ) (T B B' : List Row) (P P' : List ℕ) (x : Row) → IsBasisOf n T B P → IsEchelonBasis n B' P' → SameSpan B' (B ++ x ∷ []) → InSpan T x → length B' ≡ length B
same_count n T B B' P P' x b e s h = rank_is_determined B (length B') (length B)
    (basis_gives_rank n B' P' B e.basis (same_span_trans s (same_span_sym (same_span_appended B x (span_from b.span h)))))
    (basis_gives_rank n B P B b.echelon.basis (record { same = λ x. (λ h. h, λ h. h) }))

pub mark_is_right : (n : ℕ) (T B B' : List Row) (P P' : List ℕ) (x : Row) → IsBasisOf n T B P → IsEchelonBasis n B' P' → SameSpan B' (B ++ x ∷ []) → (length B' ≤ length B → InSpan B x) → (m : Bool) → (IsTrue m ↔ (length B < length B')) → IsTrue m ↔ ¬ (InSpan T x)
mark_is_right n T B B' P P' x b e s inside m t = (
  λ h i. let l = t.0 h in let q = same_count n T B B' P P' x b e s i in omega arith,
  λ out. elim (cases_lt (length B) (length B')) [ inl l ↦ t.1 l | inr l ↦ absurd (out (span_to b.span (inside l))) ],
)

pub MarkSoFar-more : (X : List Row) (i : ℕ) (marks : List Bool) (m : Bool) → MarkSoFar X i marks → IsTrue m ↔ ¬ (InSpan (take i X) (row_at X i)) → MarkSoFar X (i + 1) (marks ++ m ∷ [])
MarkSoFar-more X i marks m s t = record {
  as_many = length_push marks m ∙ ap (λ (k : ℕ). k + 1) s.as_many;
  exact = λ k l. elim (cases_lt k i) [
    | inl less ↦ let q = s.as_many in subst (λ (b : Bool). IsTrue b ↔ ¬ (InSpan (take k X) (row_at X k))) (sym (get_or_append_left marks (m ∷ []) false k (omega arith))) (s.exact k less)
    | inr more ↦ let here : k ≡ i = omega arith in rw here (let e : slice_index_or (marks ++ m ∷ []) i false ≡ m = get_or_push marks m false i s.as_many in rw e t)
  ];
}
