-- The examples of duals hold.
use Rattle.pm_vector.specs.Numbers.{Ratio}
use Rattle.pm_vector.specs.Rows.{Row, entry, ratio_at}
use Rattle.pm_vector.specs.Bases.{row_at}
use Rattle.pm_clients_lp.specs.Examples.{DualsAreRead, half, large, large_weight, null}
use Rattle.pm_clients_lp.specs.Programs.{AreMultiples, AreWeighted, weighted}
use Rattle.pm_fraction.proofs.Quotients.{whole_reduced}
use Rattle.pm_fraction.specs.Arithmetic.{product_of}
use Rattle.pm_fraction.specs.Fractions.{IsLowestTermsOf, IsTooWide}
use Rattle.pm_geom.specs.ProgramExamples.{ratio, row, segment, wholes}
use Rattle.pm_simplex.specs.OptimumEvidence.{IsMultipleRow}
use Rattle.pm_types.specs.Forms.{HasPrimitiveRow}
use Rattle.pm_types.specs.Views.{over_one}
use Rattle.std.proofs.Common.{ap, arith, inl, refl, subst, suc, true≢false, zero, ◌∙◌}
use Rattle.std.proofs.lemmas.Int.{ints}
use Rattle.std.proofs.lemmas.List.Elements.{All-nil}
use Rattle.std.proofs.lemmas.List.Sorted.{IsPermutation-refl, length_permutation}
use Rattle.std.specs.Cmp.Lexicographic.{slice_cmp}
use Rattle.std.specs.List.Sorted.{IsSorted}
use Rattle.std.specs.Ordering.{int_cmp}
use Rattle.std.specs.Prelude.{List, [], ℕ, ◌<◌, ◌∷◌, ◌≡◌, ◌^◌}
use lib.IntN.{negsuc, pos}
use lib.Signed.{◌<ℤ◌}

no_one : ¬ (pos 1 ≡ pos 0)
no_one e = absurd (omega (arith, ints))

halved : IsMultipleRow half (row (pos 2) (negsuc 1)) (wholes (row (pos 1) (negsuc 0)))
halved = record { cols = refl; each = each }
  where
    each : (i : ℕ) → i < 2 → IsLowestTermsOf (product_of half (over_one (entry (row (pos 2) (negsuc 1)) i))) (ratio_at (wholes (row (pos 1) (negsuc 0))) i)
    each zero l = record { divisible = λ e. omega (arith, ints); reduced = whole_reduced (pos 1); same = refl }
    each (suc zero) l = record { divisible = λ e. omega (arith, ints); reduced = whole_reduced (negsuc 0); same = refl }
    each (suc (suc i)) l = absurd (omega arith)

too_wide : IsTooWide (product_of large_weight (over_one (pos (2 ^ 64))))
too_wide = record { lowest = ratio (pos (2 ^ 128)) (pos 1); is_lowest = record { divisible = no_one; reduced = whole_reduced (pos (2 ^ 128)); same = refl }; leaves = λ h. absurd (let l = h.0 in omega arith) }

none_kept : (kept : List (Row × Ratio)) → AreWeighted segment (null ∷ null ∷ []) kept → kept ≡ []
none_kept [] w = refl
none_kept (x ∷ kept) w = absurd (let e = length_permutation [] (x ∷ kept) w.permutation in omega arith)

some_kept : (kept : List (Row × Ratio)) → AreWeighted segment (half ∷ null ∷ []) kept → AreMultiples kept [] → ⊥
some_kept [] w m = let e = length_permutation (weighted segment (half ∷ null ∷ [])) [] w.permutation in omega arith
some_kept (x ∷ kept) w m = m

only_weight : (q : Ratio) (i : ℕ) → i < 1 → ratio_at (q ∷ []) i ≡ q
only_weight q zero l = refl
only_weight q (suc i) l = absurd (omega arith)

only_row : (a : Row) (i : ℕ) → i < 1 → row_at (a ∷ []) i ≡ a
only_row a zero l = refl
only_row a (suc i) l = absurd (omega arith)

sorted : IsSorted (slice_cmp int_cmp) segment
sorted zero d low high = refl
sorted (suc k) d low high = absurd (omega arith)

pub duals_are_read : DualsAreRead
duals_are_read = record {
  kept = refl;
  in_order = record { permutation = IsPermutation-refl (weighted segment (half ∷ half ∷ [])); sorted = sorted };
  turned = λ h. true≢false (h.sorted 0 [] (omega arith) (omega arith));
  left_out = λ h. absurd (let e = length_permutation (weighted segment (half ∷ half ∷ [])) [] h.permutation in omega arith);
  multiple = halved;
  not_itself = λ h. let e = (h.each 0 (omega arith)).same in omega (arith, ints);
  too_short = λ h. let e = h.cols in absurd (omega arith);
  multiples = (halved, tt);
  fewer = λ h. h;
  more = λ h. h;
  no_rows = record { kept = []; weighted = record { permutation = IsPermutation-refl []; sorted = λ k d l m. absurd (omega arith) }; multiples = tt; primitive = All-nil HasPrimitiveRow; cols = refl };
  with_cols = λ h. let e = h.cols in absurd (omega arith);
  missing = λ h. some_kept h.kept h.weighted h.multiples;
  wide = record { place = 0; within = omega arith; row = refl; multiplier = refl; positive = omega (arith, ints); wide = inl (0, omega arith, too_wide) };
  other_parts = λ h. let e : pos 1 ≡ (ratio_at (large_weight ∷ []) h.place).num = ap (λ x. entry x 0) h.multiplier in let w = only_weight large_weight h.place h.within in absurd (let n : pos 1 ≡ pos (2 ^ 64) = e ∙ ap (λ q. q.num) w in omega (arith, ints));
  no_weight = λ h. let w = only_weight null h.place h.within in absurd (let p : pos 0 <ℤ pos 0 = subst (λ q. pos 0 <ℤ q.num) w h.positive in omega (arith, ints));
  other_row = λ h. let w = only_row large h.place h.within in absurd (let n : pos 1 ≡ pos (2 ^ 64) = ap (λ x. entry x 0) (h.row ∙ w) in omega (arith, ints));
  other_evidence = λ h. h;
}
