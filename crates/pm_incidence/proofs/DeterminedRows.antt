-- Each row that is found is 0, or spans the null space of the rows that determine the row of its set.
use Rattle.pm_vector.proofs.ConeLaws.{in_line_opposite, in_same}
use Rattle.pm_vector.proofs.Lists.{Among, here, there}
use Rattle.pm_vector.proofs.RowLaws.{entry-opposite}
use Rattle.pm_vector.specs.Cones.{InSpan}
use Rattle.pm_vector.specs.Rows.{IsZero, Row, opposite}
use Rattle.pm_vector.proofs.Spans.{same_span, span_from, span_to}
use Rattle.pm_vector.specs.Bases.{SameSpan, row_at}
use Rattle.pm_dd.specs.Fronts.{HalfSpaces}
use Rattle.pm_vector.specs.NullSpaces.{IsNull, IsNullBasis}
use Rattle.pm_incidence.proofs.Determined.{AreFound, lineality_basis, one_lineality}
use Rattle.pm_incidence.specs.FromSets.{AreDetermined, determining}
use Rattle.pm_incidence.specs.SetRows.{IsTurned}
use Rattle.std.proofs.Common.{arith, inl, inr, refl, subst}
use Rattle.std.proofs.lemmas.Int.{ints}
use Rattle.std.specs.List.{slice_index_or}
use Rattle.std.specs.Prelude.{List, [], length, replicate, suc, zero, ℕ, ◌++◌, ◌<◌, ◌∷◌, ◌≡◌, ◌↔◌, ◌⊎◌}
use lib.IntN.{pos}

zeros_zero : (n : ℕ) → IsZero (replicate n (pos 0))
zeros_zero zero i = refl
zeros_zero (suc n) zero = refl
zeros_zero (suc n) (suc i) = zeros_zero n i

-- the multiples of u are the rows of n entries on which all rows of X vanish
abbrev IsNullLine : ℕ → List Row → Row → Type 0
IsNullLine n X u = (x : Row) → length x ≡ n → InSpan (u ∷ []) x ↔ IsNull X x

opposite_span : (x : Row) → SameSpan (opposite x ∷ []) (x ∷ [])
opposite_span x = same_span (opposite x ∷ []) (x ∷ []) (λ r i. to i) (λ r i. from i)
  where
    to : {r : Row} → Among r (opposite x ∷ []) → InSpan (x ∷ []) r
    to here = in_line_opposite here
    to (there i) = elim i [ ]

    from : {r : Row} → Among r (x ∷ []) → InSpan (opposite x ∷ []) r
    from here = in_same (record { at = λ i. simp entry-opposite (omega (arith, ints)) }) (in_line_opposite {l = opposite x} here)
    from (there i) = elim i [ ]

turned_line : (n : ℕ) (A X : List Row) (x u : Row) (Q : List ℕ) → IsNullBasis n X (x ∷ []) Q → IsTurned A x u → IsNullLine n X u
turned_line n A X x u Q b (inl t) = rw t.1 (λ y ly. (λ h. (b.null y ly).0 (span_to (opposite_span x) h), λ z. span_from (opposite_span x) ((b.null y ly).1 z)))
turned_line n A X x u Q b (inr t) = rw t.1 b.null

line_or_zero : (n : ℕ) (A X : List Row) (u : Row) (N : List Row) (Q : List ℕ) → IsNullBasis n X N Q → ((x : Row) → N ≡ x ∷ [] → IsTurned A x u) → (¬ (length N ≡ 1) → u ≡ replicate n (pos 0)) → IsZero u ⊎ IsNullLine n X u
line_or_zero n A X u [] Q b one none = inl (rw (none (λ e. omega arith)) (zeros_zero n))
line_or_zero n A X u (x ∷ []) Q b one none = inr (turned_line n A X x u Q b (one x refl))
line_or_zero n A X u (x ∷ w ∷ N) Q b one none = inl (rw (none (λ e. omega arith)) (zeros_zero n))

found_lines : (n : ℕ) (E A : List Row) (P : List ℕ) (sets : List (List ℕ)) (U : List Row) → AreFound n E A P sets U → (j : ℕ) → j < length sets → IsZero (row_at U j) ⊎ IsNullLine n (determining n E A (slice_index_or sets j []) P) (row_at U j)
found_lines n E A P [] U h j l = absurd (omega arith)
found_lines n E A P (set ∷ sets) [] h j l = absurd h
found_lines n E A P (set ∷ sets) (u ∷ U) h zero l = let f = h.0 in line_or_zero n A (determining n E A set P) u f.null f.columns f.basis f.one f.none
found_lines n E A P (set ∷ sets) (u ∷ U) h (suc j) l = found_lines n E A P sets U h.1 j (omega arith)

pub found_determined : (n : ℕ) (E A K : List Row) (P : List ℕ) → IsNullBasis n (E ++ A) K P → (sets : List (List ℕ)) (U : List Row) → AreFound n E A P sets U → AreDetermined n E A sets U
found_determined n E A K P b sets U h = record {
  each = λ lines Q d j l.
      let same : P ≡ Q = one_lineality n (HalfSpaces E A) K lines P Q (lineality_basis n E A K P b) (lineality_basis n E A lines Q d) in
      subst (λ (R : List ℕ). IsZero (row_at U j) ⊎ IsNullLine n (determining n E A (slice_index_or sets j []) R) (row_at U j)) same (found_lines n E A P sets U h j l);
}
