-- Whole rows that stand for the same rows of fractions have the same directions, and products with them vanish together.
use Rattle.pm_vector.proofs.Ring.{ring}
use Rattle.pm_vector.proofs.RowLaws.{dot-same, dot-times, dot_comm, entry-times}
use Rattle.pm_vector.proofs.Signs.{mul_cancel, mul_pos, times_both}
use Rattle.pm_vector.specs.Numbers.{Ratio}
use Rattle.pm_vector.specs.Rows.{Row, SameDirection, Stands, dot, entry, ratio_at, times}
use Rattle.pm_geom.specs.Faces.{ray}
use Rattle.pm_types.specs.Right.{InOrder, StandFor}
use Rattle.pm_types.specs.Things.{AreObjectives}
use Rattle.pm_types.specs.Views.{ratios}
use Rattle.std.proofs.Common.{arith, ap, refl, sym, ◌∙◌}
use Rattle.std.proofs.lemmas.Int.{ints}
use Rattle.std.specs.List.{slice_index_or}
use Rattle.std.specs.Prelude.{List, [], length, map, suc, zero, ℕ, ◌∷◌, ◌≡◌, ◌<◌, ◌≤◌}
use lib.IntN.{pos, ℤ, ◌*ℤ◌}
use lib.Signed.{◌<ℤ◌}
use native.Mathlib.Decide.{dec_lt}
use Rattle.pm_types.proofs.WholeRows.{length_ratios, ratio_at_ratios}

entry_past : (x : Row) (i : ℕ) → length x ≤ i → entry x i ≡ pos 0
entry_past [] i l = refl
entry_past (a ∷ x) zero l = absurd (omega arith)
entry_past (a ∷ x) (suc i) l = entry_past x i (omega arith)

-- p x d = q n and r y d = s n with d > 0
common : (x y d p q r s n : ℤ) → pos 0 <ℤ d → p *ℤ (x *ℤ d) ≡ q *ℤ n → r *ℤ (y *ℤ d) ≡ s *ℤ n → (s *ℤ p) *ℤ x ≡ (q *ℤ r) *ℤ y
common x y d p q r s n h e f =
    let a = simp ring at (times_both s e) in
    let b = simp ring at (times_both q f) in
    mul_cancel h (simp ring (omega (arith, ints)))

-- whole rows that stand for one row of fractions have the same direction
pub same_direction : {r : List Ratio} {x y : Row} → Stands r x → Stands r y → SameDirection x y
same_direction {r} {x} {y} s t = record {
  p = t.q *ℤ s.p;
  q = s.q *ℤ t.p;
  p_positive = mul_pos t.q_positive s.p_positive;
  q_positive = mul_pos s.q_positive t.p_positive;
  same = record { at = λ i. entry-times (t.q *ℤ s.p) x i ∙ alike i ∙ sym (entry-times (s.q *ℤ t.p) y i) };
}
  where
    alike : (i : ℕ) → (t.q *ℤ s.p) *ℤ entry x i ≡ (s.q *ℤ t.p) *ℤ entry y i
    alike i = elim (dec_lt i (length r)) [
      | yes l ↦ common (entry x i) (entry y i) (ratio_at r i).den s.p s.q t.p t.q (ratio_at r i).num (s.denominators i l) (s.same i l) (t.same i l)
      | no nl ↦
          let x0 : entry x i ≡ pos 0 = entry_past x i (let c = s.cols in omega arith) in
          let y0 : entry y i ≡ pos 0 = entry_past y i (let c = t.cols in omega arith) in
          simp (x0, y0, ring)
    ]

zero_of : (p q z w : ℤ) → pos 0 <ℤ q → p *ℤ z ≡ q *ℤ w → z ≡ pos 0 → w ≡ pos 0
zero_of p q z w h e z0 = mul_cancel h (sym e ∙ (simp (z0, ring)))

-- a product vanishes with one of them where it does with the other
pub zero_with_stands : (a : Row) {r : List Ratio} {x y : Row} → Stands r x → Stands r y → dot a x ≡ pos 0 → dot a y ≡ pos 0
zero_with_stands a {r} {x} {y} s t h =
    let d = same_direction s t in
    let e : d.p *ℤ dot a x ≡ d.q *ℤ dot a y = simp dot-times at (dot-same a (times d.p x) (times d.q y) d.same.at) in
    zero_of d.p d.q (dot a x) (dot a y) d.q_positive e h

pub zero_of_stands : {r : List Ratio} {x y : Row} (a : Row) → Stands r x → Stands r y → dot x a ≡ pos 0 → dot y a ≡ pos 0
zero_of_stands {r} {x} {y} a s t h = dot_comm y a ∙ zero_with_stands a s t (dot_comm a x ∙ h)

-- ---- lists, place by place
abbrev pub ratios_at : List (List Ratio) → ℕ → List Ratio
ratios_at rows j = slice_index_or rows j []

pub stand_length : (rows : List (List Ratio)) (xs : List Row) → StandFor rows xs → length xs ≡ length rows
stand_length [] [] h = refl
stand_length [] (x ∷ xs) h = absurd h
stand_length (r ∷ rows) [] h = absurd h
stand_length (r ∷ rows) (x ∷ xs) h = ap suc (stand_length rows xs h.1)

pub stand_at : (rows : List (List Ratio)) (xs : List Row) → StandFor rows xs → (j : ℕ) → j < length xs → Stands (ratios_at rows j) (ray xs j)
stand_at [] [] h j l = absurd (omega arith)
stand_at [] (x ∷ xs) h j l = absurd h
stand_at (r ∷ rows) [] h j l = absurd h
stand_at (r ∷ rows) (x ∷ xs) h zero l = h.0
stand_at (r ∷ rows) (x ∷ xs) h (suc j) l = stand_at rows xs h.1 j (omega arith)

pub in_order_length : (R : Row → Row → Type 0) (vs xs : List Row) → InOrder R vs xs → length xs ≡ length vs
in_order_length R [] [] h = refl
in_order_length R [] (x ∷ xs) h = absurd h
in_order_length R (v ∷ vs) [] h = absurd h
in_order_length R (v ∷ vs) (x ∷ xs) h = ap suc (in_order_length R vs xs h.1)

pub in_order_at : (R : Row → Row → Type 0) (vs xs : List Row) → InOrder R vs xs → (j : ℕ) → j < length vs → R (ray vs j) (ray xs j)
in_order_at R [] [] h j l = absurd (omega arith)
in_order_at R [] (x ∷ xs) h j l = absurd h
in_order_at R (v ∷ vs) [] h j l = absurd h
in_order_at R (v ∷ vs) (x ∷ xs) h zero l = h.0
in_order_at R (v ∷ vs) (x ∷ xs) h (suc j) l = in_order_at R vs xs h.1 j (omega arith)

-- ---- whole numbers over 1
pub stands_ratios : (x : Row) → Stands (ratios x) x
stands_ratios x = record {
  p = pos 1;
  q = pos 1;
  p_positive = omega (arith, ints);
  q_positive = omega (arith, ints);
  cols = length_ratios x;
  denominators = λ i h. rw (ratio_at_ratios x i) (omega (arith, ints));
  same = λ i h. rw (ratio_at_ratios x i) (omega (arith, ints));
}

pub stand_for_ratios : (X : List Row) → StandFor (map ratios X) X
stand_for_ratios [] = tt
stand_for_ratios (x ∷ X) = (stands_ratios x, stand_for_ratios X)

-- ---- fractions over 1
-- whole numbers over 1 have positive denominators
pub whole_denominators : (x : Row) (i : ℕ) → pos 0 <ℤ (ratio_at (ratios x) i).den
whole_denominators x i = rw (ratio_at_ratios x i) (omega (arith, ints))

-- a row of whole numbers over 1 is an objective for each program
pub whole_objective : (n : ℕ) (x : Row) → length (ratios x) ≡ n → AreObjectives n (λ s. ratios x)
whole_objective n x e = record { cols = λ s. e; denominators = λ s i h. whole_denominators x i }
