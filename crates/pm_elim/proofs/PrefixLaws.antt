-- The first rows of an echelon basis are one, and no step is left among them.
use Rattle.pm_vector.proofs.Lists.{all_from}
use Rattle.pm_vector.specs.Rows.{Row, entry}
use Rattle.pm_vector.proofs.Columns.{row_cols}
use Rattle.pm_vector.proofs.Spans.{place_of, same_span_refl}
use Rattle.pm_vector.specs.Bases.{IsEchelonBasis, column, row_at}
use Rattle.pm_elim.proofs.BasisLaws.{basis_unique}
use Rattle.pm_elim.proofs.EvidenceLaws.{evidence_on_rows, step_on_rows}
use Rattle.pm_elim.proofs.InTurn.{pivot_below}
use Rattle.pm_elim.proofs.ReductionLaws.{reduced_same, reduced_same_first, reduced_unique}
use Rattle.pm_elim.specs.Refusals.{IfWide, IfWideStep, IsReductionFail, TellsOf}
use Rattle.pm_vector.specs.Evidence.{IsEvidence, IsWideOnNext, IsWideOnOlder, IsWideStep}
use Rattle.pm_vector.specs.Steps.{IsPivotRow, ReductionStays}
use Rattle.pm_vector.specs.EliminationSteps.{EliminationStep}
use Rattle.pm_elim.specs.declared.evidence.ElimFail.{ElimFail}
use Rattle.pm_elim.specs.declared.evidence.ElimFail.TheVariants.{Memory, Wide}
use Rattle.pm_vector.specs.declared.evidence.ElimList.TheVariants.{Rows}
use Rattle.pm_elim.specs.declared.refusal.Refusal.{Refusal}
use Rattle.pm_elim.specs.declared.refusal.Refusal.TheVariants.{Memory as StepMemory, Wide as StepWide}
use Rattle.pm_elim.specs.declared.refusal.WideStep.{WideStep}
use Rattle.std.proofs.Common.{ap, arith, inl, inr, refl, subst, ◌∙◌}
use Rattle.std.proofs.lemmas.Bool.{cases_lt}
use Rattle.std.proofs.lemmas.Int.{ints}
use Rattle.std.proofs.lemmas.List.{get_or-take, get_or_append_left, get_or_push, length-take-le, length_push, take-append-le, take_at}
use Rattle.std.specs.Prelude.{List, [], length, suc, take, zero, ℕ, ◌++◌, ◌<◌, ◌∷◌, ◌≡◌, ◌≤◌, ◌^◌}
use lib.IntN.{pos}

-- ---- there are at most as many rows as columns
module _ (n : ℕ) (B : List Row) (P : List ℕ) (e : IsEchelonBasis n B P) where
  pub pivot_at_least : (i : ℕ) → i < length B → i ≤ column P i
  pivot_at_least zero l = omega arith
  pivot_at_least (suc i) l = let h = pivot_at_least i (omega arith) in let a = e.ascending i (suc i) (omega arith) l in omega arith

  pub at_most_columns : length B ≤ n
  at_most_columns = elim (cases_lt n (length B)) [
    | inl more ↦ absurd (let h = pivot_at_least n more in let b = pivot_below n B P e.basis n more in omega arith)
    | inr less ↦ less
  ]

  -- ---- the first k rows
  module _ (k : ℕ) (kl : k ≤ length B) where
    first_count : length (take k B) ≡ k
    first_count = length-take-le k B kl

    first_row : (i : ℕ) → i < length (take k B) → row_at (take k B) i ≡ row_at B i
    first_row i l = let c = first_count in get_or-take k B i [] (omega arith)

    first_column : (i : ℕ) → i < length (take k B) → column (take k P) i ≡ column P i
    first_column i l = let c = first_count in get_or-take k P i 0 (omega arith)

    inside : (i : ℕ) → i < length (take k B) → i < length B
    inside i l = let c = first_count in omega arith

    pub first_basis : IsEchelonBasis n (take k B) (take k P)
    first_basis = record {
      basis = record {
        cols = all_from (λ (r : Row). length r ≡ n) (take k B) (λ r i. let p = place_of i in subst (λ (z : Row). length z ≡ n) p.2 (ap length (first_row p.0 p.1) ∙ row_cols n B P e.basis p.0 (inside p.0 p.1)));
        as_many = (let a = e.as_many in let c = first_count in let d = length-take-le k P (omega arith) in omega arith);
        positive = λ i l. rw (first_row i l, first_column i l) (e.positive i (inside i l));
        reduced = λ i j li lj ne. rw (first_row i li, first_column j lj) (e.reduced i j (inside i li) (inside j lj) ne);
        primitive = λ i l. rw (first_row i l) (e.primitive i (inside i l));
      };
      ascending = λ i j l lj. rw (first_column i (omega arith), first_column j lj) (e.ascending i j l (inside j lj));
      before = λ i c l lc. rw (first_row i l) (e.before i c (inside i l) (rw (first_column i l) at lc));
    }

    -- the row after them is 0 at their columns
    next_zero : k < length B → (i : ℕ) → i < length (take k B) → entry (row_at B k) (column (take k P) i) ≡ pos 0
    next_zero l i li = rw (first_column i li) (e.reduced k i l (inside i li) (λ s. let c = first_count in omega arith))

    next_pivot : k < length B → (c : ℕ) (x : Row) → IsPivotRow (row_at B k) c x → c ≡ column P k
    next_pivot l c x p = elim (cases_lt c (column P k)) [
      | inl less ↦ absurd (p.not_zero (e.before k c l less))
      | inr more ↦ elim (cases_lt (column P k) c) [
        | inl less ↦ absurd (let z = p.before (column P k) less in let up = e.positive k l in omega (arith, ints))
        | inr same ↦ omega arith
      ]
    ]

    first_not_on_next : k < length B → (part : Row) (by i : ℕ) → IsWideOnNext (take k B) (take k P) (row_at B k) part by i → ⊥
    first_not_on_next l part by i w =
        let same = reduced_unique (take by (take k B)) (take by (take k P)) (row_at B k) part (row_at B k) w.reduced (reduced_same_first (take k B) (take k P) (row_at B k) by first_basis.as_many (next_zero l)) in
        w.wide.not_zero (rw same (next_zero l by w.within))

    first_not_on_older : k < length B → (part : Row) (by i : ℕ) → IsWideOnOlder (take k B) (take k P) (row_at B k) part by i → ⊥
    first_not_on_older l part by i w =
        let same = reduced_unique (take k B) (take k P) (row_at B k) w.rest (row_at B k) w.reduced (reduced_same (take k B) (take k P) (row_at B k) first_basis.as_many (next_zero l)) in
        let c = next_pivot l w.new_column w.new (rw same at w.pivot) in
        let place = w.wide.within in
        let count = first_count in
        w.wide.wide.not_zero (rw (w.wide.older, c, first_row w.wide.place place) (e.reduced w.wide.place k (inside w.wide.place place) l (λ s. omega arith)))

  -- ---- the basis rows and then a row
  module _ (row : Row) where
    at_end : row_at (B ++ row ∷ []) (length B) ≡ row
    at_end = get_or_push B row [] (length B) refl

    all_rows : take (length B) (B ++ row ∷ []) ≡ B
    all_rows = take_at B (row ∷ []) (length B) refl

    pub end_is_wide : (v : EliminationStep) → v.front ≡ length B → v.basis ≡ B → IsWideOnNext B P row v.part v.by v.column → IsWideStep n (B ++ row ∷ []) v
    end_is_wide v f b w = record {
      pivots = P;
      within = rw (f, length_push) (omega arith);
      basis = rw (f, b, all_rows) (record { echelon = e; span = same_span_refl B });
      step = rw (f, b, at_end) (inl w);
    }

    at_front : (v : EliminationStep) → v.front < length B → IsWideStep n (B ++ row ∷ []) v → ⊥
    at_front v l w =
        let prefix : take v.front (B ++ row ∷ []) ≡ take v.front B = take-append-le v.front B (row ∷ []) (omega arith) in
        let b = first_basis v.front (omega arith) in
        let (rows, columns) = basis_unique n (take v.front B) v.basis (take v.front B) w.pivots (take v.front P) (rw prefix at w.basis) (record { echelon = b; span = same_span_refl (take v.front B) }) in
        let next : row_at (B ++ row ∷ []) v.front ≡ row_at B v.front = get_or_append_left B (row ∷ []) [] v.front l in
        elim (rw (rows, columns, next) at w.step) [
          | inl s ↦ first_not_on_next v.front (omega arith) l v.part v.by v.column s
          | inr s ↦ first_not_on_older v.front (omega arith) l v.part v.by v.column s
        ]

    at_row : ReductionStays B P row → (v : EliminationStep) → v.front ≡ length B → v.by < length B → IsWideStep n (B ++ row ∷ []) v → ⊥
    at_row stays v f by w =
        let (rows, columns) = basis_unique n B v.basis B w.pivots P (rw (f, all_rows) at w.basis) (record { echelon = e; span = same_span_refl B }) in
        elim (rw (rows, columns, f, at_end) at w.step) [
          | inl s ↦ stays v.by v.part s.within s.reduced v.column s.wide
          | inr s ↦ absurd (let last = s.wide.last in omega arith)
        ]

    pub never_at_end : ReductionStays B P row → (v : EliminationStep) → v.list ≡ Rows → v.by < length B → IsEvidence n (B ++ row ∷ []) v → ⊥
    never_at_end stays v on by evidence =
        let w = step_on_rows n (B ++ row ∷ []) v on evidence in
        let within = rw length_push at w.within in
        elim (cases_lt v.front (length B)) [ inl l ↦ at_front v l w | inr l ↦ at_row stays v (omega arith) by w ]

    told_is_wide : (s : WideStep) (v : EliminationStep) → IsWideOnNext B P row s.part s.by s.column → TellsOf s Rows (length B) B v → IsEvidence n (B ++ row ∷ []) v
    told_is_wide s v w t = evidence_on_rows n (B ++ row ∷ []) v (end_is_wide v t.front_is t.basis (rw (t.part, t.by_is, t.column_is) w)) t.list_is

    pub fail_is_evidence : (r : Refusal) (f : ElimFail) → IfWideStep r (λ s. IsWideOnNext B P row s.part s.by s.column) → IsReductionFail r B f → IfWide f (λ v. IsEvidence n (B ++ row ∷ []) v)
    fail_is_evidence (StepWide s) (Wide v) w t = told_is_wide s v w t
    fail_is_evidence (StepWide s) Memory w t = tt
    fail_is_evidence StepMemory (Wide v) w t = absurd t
    fail_is_evidence StepMemory Memory w t = tt

    pub small_reduction : (r : Refusal) → n < 2 ^ 32 → IfWideStep r (λ s. IsWideOnNext B P row s.part s.by s.column) → IfWideStep r (λ s. s.column < n) → IfWideStep r (λ s. (s.by < 2 ^ 32) × (s.column < 2 ^ 32))
    small_reduction (StepWide s) few w l = (let k = w.within in let m = at_most_columns in omega arith, omega arith)
    small_reduction StepMemory few w l = tt
