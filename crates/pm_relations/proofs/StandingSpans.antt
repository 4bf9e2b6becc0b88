-- Spans of rows that stand for the same rows of fractions, or are alike up to positive scale and lineality.
use Rattle.pm_vector.proofs.ConeLaws.{in_line, in_plus, in_same}
use Rattle.pm_vector.proofs.Lists.{Among, among_append, among_append_left, among_append_right, here, there}
use Rattle.pm_vector.proofs.Ring.{ring}
use Rattle.pm_vector.proofs.RowLaws.{entry-difference, entry-plus, entry-times, same_sym}
use Rattle.pm_vector.specs.Cones.{InSpan}
use Rattle.pm_vector.specs.Numbers.{Ratio}
use Rattle.pm_vector.specs.Rows.{Row, Stands}
use Rattle.pm_vector.proofs.Spans.{same_span, span_difference, span_divide, span_of, span_times}
use Rattle.pm_vector.specs.Bases.{SameSpan}
use Rattle.pm_geom.specs.Cones.{InLineality, SameModulo}
use Rattle.pm_relations.proofs.Standing.{same_direction}
use Rattle.pm_types.specs.Right.{InOrder, StandFor}
use Rattle.std.proofs.Common.{arith, inl, inr}
use Rattle.std.proofs.lemmas.Int.{ints}
use Rattle.std.specs.Prelude.{List, [], length, ℕ, ◌++◌, ◌∷◌, ◌≡◌}
use lib.IntN.{pos, ℤ}
use lib.Signed.{◌<ℤ◌}

pub not_zero : {k : ℤ} → pos 0 <ℤ k → ¬ (k ≡ pos 0)
not_zero h e = omega (arith, ints)

-- ---- rows that stand for the same fractions
pub stands_span : (T : List Row) {r : List Ratio} {x y : Row} → Stands r x → Stands r y → InSpan T x → InSpan T y
stands_span T s t h =
    let d = same_direction s t in
    span_divide (not_zero d.q_positive) (in_same d.same (span_times d.p h))

pub stand_for_span : (T : List Row) (rows : List (List Ratio)) (xs ys : List Row) → StandFor rows xs → StandFor rows ys → ((x : Row) → Among x xs → InSpan T x) → (y : Row) → Among y ys → InSpan T y
stand_for_span T [] [] [] s t f y i = elim i [ ]
stand_for_span T [] (x ∷ xs) ys s t f y i = absurd s
stand_for_span T [] xs (z ∷ ys) s t f y i = absurd t
stand_for_span T (r ∷ rows) [] ys s t f y i = absurd s
stand_for_span T (r ∷ rows) xs [] s t f y i = absurd t
stand_for_span T (r ∷ rows) (x ∷ xs) (z ∷ ys) s t f y here = stands_span T s.0 t.0 (f x here)
stand_for_span T (r ∷ rows) (x ∷ xs) (z ∷ ys) s t f y (there i) = stand_for_span T rows xs ys s.1 t.1 (λ w j. f w (there j)) y i

-- ---- rows of two lists, one after the other
pub both_in : (T X Y : List Row) → ((x : Row) → Among x X → InSpan T x) → ((y : Row) → Among y Y → InSpan T y) → (r : Row) → Among r (X ++ Y) → InSpan T r
both_in T X Y f g r i = elim (among_append X Y i) [ inl j ↦ f r j | inr j ↦ g r j ]

pub first_in : (X Y : List Row) (x : Row) → Among x X → InSpan (X ++ Y) x
first_in X Y x i = in_line (among_append_left Y i)

pub second_in : (X Y : List Row) (y : Row) → Among y Y → InSpan (X ++ Y) y
second_in X Y y i = in_line (among_append_right X i)

pub stand_for_same : (rows lines : List (List Ratio)) (xs ys ls ks : List Row) → StandFor rows xs → StandFor rows ys → StandFor lines ls → StandFor lines ks → SameSpan (xs ++ ls) (ys ++ ks)
stand_for_same rows lines xs ys ls ks sx sy sl sk = same_span (xs ++ ls) (ys ++ ks)
    (both_in (ys ++ ks) xs ls (stand_for_span (ys ++ ks) rows ys xs sy sx (first_in ys ks)) (stand_for_span (ys ++ ks) lines ks ls sk sl (second_in ys ks)))
    (both_in (xs ++ ls) ys ks (stand_for_span (xs ++ ls) rows xs ys sx sy (first_in xs ls)) (stand_for_span (xs ++ ls) lines ls ks sl sk (second_in xs ls)))

-- ---- rows that are alike up to positive scale and lineality
module _ (n : ℕ) (S : Row → Type 0) (T : List Row) (lines : (w : Row) → length w ≡ n → InLineality S w → InSpan T w) where
  alike_to : (v x : Row) → SameModulo n S v x → InSpan T v → InSpan T x
  alike_to v x s h = span_divide (not_zero s.p_positive) (in_same (same_sym s.same) (in_plus (span_times s.k h) (lines s.w s.cols s.line)))

  alike_from : (v x : Row) → SameModulo n S v x → InSpan T x → InSpan T v
  alike_from v x s h =
      span_divide (not_zero s.k_positive)
      (in_same (record { at = λ i. let q = simp (entry-times, entry-plus) at (s.same.at i) in simp (entry-times, entry-difference, ring) (omega (arith, ints)) }) (span_difference s.p (pos 1) h (lines s.w s.cols s.line)))

  pub order_to : (vs xs : List Row) → InOrder (SameModulo n S) vs xs → ((v : Row) → Among v vs → InSpan T v) → (x : Row) → Among x xs → InSpan T x
  order_to [] [] o f x i = elim i [ ]
  order_to [] (y ∷ xs) o f x i = absurd o
  order_to (v ∷ vs) [] o f x i = absurd o
  order_to (v ∷ vs) (y ∷ xs) o f x here = alike_to v y o.0 (f v here)
  order_to (v ∷ vs) (y ∷ xs) o f x (there i) = order_to vs xs o.1 (λ w j. f w (there j)) x i

  pub order_from : (vs xs : List Row) → InOrder (SameModulo n S) vs xs → ((x : Row) → Among x xs → InSpan T x) → (v : Row) → Among v vs → InSpan T v
  order_from [] [] o f v i = elim i [ ]
  order_from [] (x ∷ xs) o f v i = absurd o
  order_from (u ∷ vs) [] o f v i = absurd o
  order_from (u ∷ vs) (x ∷ xs) o f v here = alike_from u x o.0 (f x here)
  order_from (u ∷ vs) (x ∷ xs) o f v (there i) = order_from vs xs o.1 (λ w j. f w (there j)) v i

-- with the same rows K after them, of which some span the lineality
pub order_same : (n : ℕ) (S : Row → Type 0) (K : List Row) → ((w : Row) → length w ≡ n → InLineality S w → InSpan K w) → (vs xs : List Row) → InOrder (SameModulo n S) vs xs → SameSpan (xs ++ K) (vs ++ K)
order_same n S K lines vs xs o = same_span (xs ++ K) (vs ++ K)
    (both_in (vs ++ K) xs K (order_to n S (vs ++ K) (λ w l h. after vs (lines w l h)) vs xs o (first_in vs K)) (second_in vs K))
    (both_in (xs ++ K) vs K (order_from n S (xs ++ K) (λ w l h. after xs (lines w l h)) vs xs o (first_in xs K)) (second_in xs K))
  where
    after : (X : List Row) {w : Row} → InSpan K w → InSpan (X ++ K) w
    after X h = span_of (X ++ K) K (λ r i. second_in X K r i) h
