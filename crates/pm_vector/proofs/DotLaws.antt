-- Products with combinations, columns and unit rows.
use Rattle.pm_vector.proofs.ConeLaws.{combination_none, dot_combination_lines}
use Rattle.pm_vector.proofs.Lists.{Among, all_at, all_from}
use Rattle.pm_vector.proofs.Ring.{ring}
use Rattle.pm_vector.proofs.RowLaws.{dot-nil, dot-same, dot-times, dot_comm, entry-plus, entry-times}
use Rattle.pm_vector.proofs.Signs.{mul_cancel}
use Rattle.pm_vector.specs.Cones.{InSpan, combination}
use Rattle.pm_vector.specs.Rows.{Row, dot, entry, times}
use Rattle.pm_vector.specs.Bases.{SameSpan, row_at}
use Rattle.pm_vector.proofs.Spans.{span_at, span_to, place_of}
use Rattle.pm_vector.specs.Evidence.{column_of, unit}
use Rattle.pm_vector.specs.NullSpaces.{IsNull}
use Rattle.std.proofs.Common.{arith, refl, replicate, subst, sym, ◌∙◌}
use Rattle.std.proofs.lemmas.Int.{ints}
use Rattle.std.specs.Prelude.{List, [], length, suc, zero, ℕ, ◌<◌, ◌∷◌, ◌≡◌}
use lib.IntN.{pos, ℤ, ◌*ℤ◌}

-- an entry of a combination is a product with a column
pub entry-combination : (d : List ℤ) (X : List Row) (c : ℕ) → entry (combination d X) c ≡ dot d (column_of X c)
entry-combination [] X c = refl
entry-combination (k ∷ d) [] c = refl
entry-combination (k ∷ d) (x ∷ X) c = let h = entry-combination d X c in simp (entry-plus, entry-times, h)

pub entry-column : (X : List Row) (c i : ℕ) → entry (column_of X c) i ≡ entry (row_at X i) c
entry-column [] c i = refl
entry-column (x ∷ X) c zero = refl
entry-column (x ∷ X) c (suc i) = entry-column X c i

-- only the entries within the first row matter
pub dot_same_within : (a x y : Row) → ((i : ℕ) → i < length a → entry x i ≡ entry y i) → dot a x ≡ dot a y
dot_same_within [] x y e = refl
dot_same_within (k ∷ a) [] [] e = refl
dot_same_within (k ∷ a) [] (z ∷ y) e =
    let h = dot_same_within a [] y (λ i l. e (suc i) (omega arith)) in
    let e0 : z ≡ pos 0 = sym (e zero (omega arith)) in
    let h0 : dot a y ≡ pos 0 = sym h ∙ dot-nil a in
    simp (e0, h0, ring)
dot_same_within (k ∷ a) (z ∷ x) [] e =
    let h = dot_same_within a x [] (λ i l. e (suc i) (omega arith)) in
    let e0 : z ≡ pos 0 = e zero (omega arith) in
    let h0 : dot a x ≡ pos 0 = h ∙ dot-nil a in
    simp (e0, h0, ring)
dot_same_within (k ∷ a) (z ∷ x) (w ∷ y) e =
    let h = dot_same_within a x y (λ i l. e (suc i) (omega arith)) in
    let e0 : z ≡ w = e zero (omega arith) in
    cc

-- ---- unit rows
dot_zeros : (x : Row) (n : ℕ) → dot x (replicate n (pos 0)) ≡ pos 0
dot_zeros [] n = refl
dot_zeros (a ∷ x) zero = refl
dot_zeros (a ∷ x) (suc n) = let h = dot_zeros x n in simp (h, ring)

pub dot-unit : (x : Row) (n i : ℕ) → i < n → dot x (unit n i) ≡ entry x i
dot-unit x zero i l = absurd (omega arith)
dot-unit [] (suc n) i l = refl
dot-unit (a ∷ x) (suc n) zero l = let h = dot_zeros x n in simp (h, ring) (omega (arith, ints))
dot-unit (a ∷ x) (suc n) (suc i) l = let h = dot-unit x n i (omega arith) in simp (h, ring) (omega (arith, ints))

-- ---- a span on which a product vanishes
pub span_product : (a : Row) (X : List Row) (x : Row) (h : InSpan X x) → h.m *ℤ dot a x ≡ dot a (combination h.d X)
span_product a X x h =
    let e = dot-same a (times h.m x) (combination h.d X) (λ c. let q = simp (entry-plus, combination_none) at (h.same.at c) in omega (arith, ints)) in
    sym (dot-times a h.m x) ∙ e

pub dot_span_zero : (a : Row) (X : List Row) (x : Row) → ((g : Row) → Among g X → dot a g ≡ pos 0) → InSpan X x → dot a x ≡ pos 0
dot_span_zero a X x f h = mul_cancel h.positive (span_product a X x h ∙ dot_combination_lines a h.d X f ∙ (simp ring))

-- one span, one null space
pub null_of_span : (R R' : List Row) (x : Row) → SameSpan R' R → IsNull R x → IsNull R' x
null_of_span R R' x s h =
    all_from (λ (a : Row). dot a x ≡ pos 0) R' (λ r i.
    let p = place_of i in
    let inside : InSpan R r = span_to s (subst (λ (z : Row). InSpan R' z) p.2 (span_at p.0 p.1)) in
    dot_comm r x ∙ dot_span_zero x R r (λ g j. dot_comm x g ∙ all_at (λ (a : Row). dot a x ≡ pos 0) j h) inside)
