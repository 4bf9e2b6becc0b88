-- One round of an elimination.
use Rattle.pm_vector.proofs.ConeLaws.{in_same, in_zero}
use Rattle.pm_vector.proofs.Ring.{ring}
use Rattle.pm_vector.proofs.RowLaws.{entry-difference, entry-times}
use Rattle.pm_vector.specs.Cones.{InSpan}
use Rattle.pm_vector.specs.Rows.{IsZero, Row, entry}
use Rattle.pm_vector.proofs.Rank.{mul_not_zero}
use Rattle.pm_vector.proofs.Spans.{same_span_appended, same_span_extended, same_span_refl, span_divide}
use Rattle.pm_vector.specs.Bases.{IsEchelonBasis, SameSpan, column}
use Rattle.pm_elim.proofs.PivotLaws.{Proportional, pivot_column_unique, pivot_keeps_zero, pivot_length, pivot_primitive, pivot_proportional, pivot_row_unique}
use Rattle.pm_elim.proofs.ReductionLaws.{reduced_length, reduced_modulo, reduced_unique, reduced_zero}
use Rattle.pm_vector.specs.Evidence.{IsWideOnNext, IsWideRound}
use Rattle.pm_elim.specs.Refusals.{IfWideStep}
use Rattle.pm_vector.specs.Rounds.{AllStay, IsNewRow, IsWideOnSome}
use Rattle.pm_vector.specs.Steps.{IsPivotRow, ReducedBy, ReductionStays, SameDirectionModulo}
use Rattle.pm_elim.specs.declared.refusal.Refusal.{Refusal}
use Rattle.pm_elim.specs.declared.refusal.Refusal.TheVariants.{Memory, Wide}
use Rattle.std.proofs.Common.{arith, inl, inr, refl, ◌∙◌}
use Rattle.std.proofs.lemmas.Int.{ints}
use Rattle.std.specs.Prelude.{List, [], length, ℕ, ◌++◌, ◌+◌, ◌<◌, ◌∷◌, ◌≡◌, ◌≤◌}
use lib.IntN.{pos, ℤ, ◌*ℤ◌}
use lib.Signed.{◌<ℤ◌}

not_zero_of_positive : (z : ℤ) → pos 0 <ℤ z → ¬ (z ≡ pos 0)
not_zero_of_positive z h e = omega (arith, ints)

-- ---- spans
module _ (B : List Row) (r m : Row) (s : SameDirectionModulo B r m) where
  pub inside_of_zero : IsZero m → InSpan B r
  inside_of_zero z = span_divide {R = B} {k = s.p} (not_zero_of_positive s.p s.p_positive) (in_same (record { at = λ i. let e = z i in simp (entry-difference, entry-times, e, ring) (omega (arith, ints)) }) s.inside)

  pub span_with_pivot : (x : Row) → Proportional m x → SameSpan (B ++ x ∷ []) (B ++ r ∷ [])
  span_with_pivot x t =
      same_span_extended B B r x s.p (s.g *ℤ t.k) (same_span_refl B) (not_zero_of_positive s.p s.p_positive) (mul_not_zero (not_zero_of_positive s.g s.g_positive) t.not_zero)
      (in_same (record { at = λ i. let e = simp entry-times at (t.same.at i) in simp (entry-difference, e, ring) }) s.inside)

pub span_with_row : (B T : List Row) (r : Row) → SameSpan B T → SameSpan (B ++ r ∷ []) (T ++ r ∷ [])
span_with_row B T r s =
    same_span_extended B T r r (pos 1) (pos 1) s one_not_zero one_not_zero (in_zero (λ i. simp (entry-difference, ring) (omega (arith, ints))))
  where
    one_not_zero : ¬ (pos 1 ≡ pos 0)
    one_not_zero e = omega (arith, ints)

-- ---- the new row
module _ (n : ℕ) (B : List Row) (P : List ℕ) (e : IsEchelonBasis n B P) (row rest : Row) (cols : length row ≡ n) (h : ReducedBy B P row rest) where
  pub rest_length : length rest ≡ n
  rest_length = reduced_length n B P row rest e.cols cols h

  pub rest_zero : (i : ℕ) → i < length B → entry rest (column P i) ≡ pos 0
  rest_zero i l = reduced_zero B P row rest e.reduced h i l

  pub inside_unless_zero : IsZero rest → InSpan B row
  inside_unless_zero z = inside_of_zero B row rest (reduced_modulo B P row rest h) z

  pub span_unless_zero : IsZero rest → SameSpan B (B ++ row ∷ [])
  span_unless_zero z = same_span_appended B row (inside_unless_zero z)

  module _ (c : ℕ) (x : Row) (p : IsPivotRow rest c x) where
    pub is_new_row : IsNewRow n B P x c
    is_new_row = record {
      cols = pivot_length p ∙ rest_length;
      primitive = pivot_primitive p;
      positive = p.positive;
      before = λ d l. pivot_keeps_zero p d (p.before d l);
      reduced = λ i l. pivot_keeps_zero p (column P i) (rest_zero i l);
    }

    pub span_with_new : SameSpan (B ++ x ∷ []) (B ++ row ∷ [])
    span_with_new = span_with_pivot B row rest (reduced_modulo B P row rest h) x (pivot_proportional p)

-- ---- no step leaves the range
module _ (B : List Row) (P : List ℕ) (row rest : Row) (stays : ReductionStays B P row) (h : ReducedBy B P row rest) where
  not_on_next : (part : Row) (by i : ℕ) → IsWideOnNext B P row part by i → ⊥
  not_on_next part by i w = stays by part w.within w.reduced i w.wide

  pub never_wide_zero : IsZero rest → (part : Row) (by i : ℕ) → IsWideRound B P row part by i → ⊥
  never_wide_zero z part by i (inl w) = not_on_next part by i w
  never_wide_zero z part by i (inr w) = w.pivot.not_zero (let same = reduced_unique B P row w.rest rest w.reduced h in rw same (z w.new_column))

  pub never_wide_new : (c : ℕ) (x : Row) → IsPivotRow rest c x → AllStay B x c → (part : Row) (by i : ℕ) → IsWideRound B P row part by i → ⊥
  never_wide_new c x p all part by i (inl w) = not_on_next part by i w
  never_wide_new c x p all part by i (inr w) =
      let same = reduced_unique B P row w.rest rest w.reduced h in
      let q = rw same at w.pivot in
      let c_same = pivot_column_unique q p in
      let x_same = pivot_row_unique (rw c_same at q) p in
      all w.wide.place w.wide.within i (rw (w.wide.older, c_same, x_same) at w.wide.wide)

-- ---- the refusal of a round
module _ (B : List Row) (P : List ℕ) (row : Row) where
  pub round_of_next : (r : Refusal) → IfWideStep r (λ s. IsWideOnNext B P row s.part s.by s.column) → IfWideStep r (λ s. IsWideRound B P row s.part s.by s.column)
  round_of_next (Wide s) w = inl w
  round_of_next Memory w = tt

  pub round_of_some : (rest : Row) → ReducedBy B P row rest → (c : ℕ) (x : Row) → IsPivotRow rest c x → (r : Refusal) → IfWideStep r (λ s. IsWideOnSome B x c s.part s.by s.column) → IfWideStep r (λ s. IsWideRound B P row s.part s.by s.column)
  round_of_some rest h c x p (Wide s) w = inr (record { rest = rest; new_column = c; new = x; reduced = h; pivot = p; wide = w })
  round_of_some rest h c x p Memory w = tt

-- what is left as it was
pub still : {A : Type 0} (r : Refusal) (x : A) → IfWideStep r (λ s. x ≡ x)
still (Wide s) x = refl
still Memory x = tt

-- ---- the number of rows
pub at_most_one_more : (m n : ℕ) → m ≡ n + 1 → m ≤ n + 1
at_most_one_more m n e = omega arith

pub none_more : (n : ℕ) → n ≤ n + 1
none_more n = omega arith
