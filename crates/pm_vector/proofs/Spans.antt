-- The span of rows: what it is closed under, and which changes of the rows keep it.
use Rattle.pm_vector.proofs.ConeLaws.{in_divide, in_line, in_plus, in_same, in_through, in_times, in_zero, lines_opposite}
use Rattle.pm_vector.proofs.Lists.{Among, among_append, among_append_left, among_append_right, here, there}
use Rattle.pm_vector.proofs.Ring.{ring}
use Rattle.pm_vector.proofs.RowLaws.{entry-difference, entry-opposite, entry-plus, entry-times, same_sym}
use Rattle.pm_vector.specs.Cones.{InSpan}
use Rattle.pm_vector.specs.Rows.{Row, Same, difference, times}
use Rattle.pm_vector.specs.Bases.{SameSpan, row_at}
use Rattle.pm_vector.specs.Laws.{SpanIsKept}
use Rattle.std.proofs.Common.{arith, inl, inr, refl, subst, sym}
use Rattle.std.proofs.lemmas.Int.{by_lt_z, ints}
use Rattle.std.proofs.lemmas.List.{get_or-set_other, get_or-set_same, length-set}
use Rattle.std.specs.Prelude.{List, [], length, slice_set, suc, zero, ℕ, ◌++◌, ◌<◌, ◌∷◌, ◌≡◌}
use lib.IntN.{neg_ℤ, pos, ℤ}
use lib.Signed.{◌<ℤ◌, ◌≤ℤ◌}
use native.Mathlib.Decide.{ℕ_discrete}

-- ---- what a span is closed under
pub span_times : {R : List Row} (k : ℤ) {x : Row} → InSpan R x → InSpan R (times k x)
span_times {R} k {x} h =
    by_lt_z k (pos 0)
    (λ s. let n : pos 0 ≤ℤ neg_ℤ k = omega (arith, ints) in in_same (record { at = λ i. simp (entry-times, entry-opposite, ring) (omega (arith, ints)) }) (in_times n (lines_opposite R x h)))
    (λ s. in_times s h)

pub span_divide : {R : List Row} {k : ℤ} {x : Row} → ¬ (k ≡ pos 0) → InSpan R (times k x) → InSpan R x
span_divide {R} {k} {x} nz h =
    by_lt_z k (pos 0)
    (λ s. let n : pos 0 <ℤ neg_ℤ k = omega (arith, ints) in in_divide n (in_same (record { at = λ i. simp (entry-times, entry-opposite, ring) (omega (arith, ints)) }) (lines_opposite R (times k x) h)))
    (λ s. by_lt_z (pos 0) k (λ t. in_divide t h) (λ t. absurd (nz (omega (arith, ints)))))

pub span_difference : {R : List Row} (p : ℤ) {x : Row} (q : ℤ) {v : Row} → InSpan R x → InSpan R v → InSpan R (difference p x q v)
span_difference p q h k = in_same (record { at = λ i. simp (entry-difference, entry-times, entry-plus, ring) (omega (arith, ints)) }) (in_plus (span_times p h) (span_times (neg_ℤ q) k))

-- ---- rows by their places
pub at_place : (R : List Row) (k : ℕ) → k < length R → Among (row_at R k) R
at_place [] k l = absurd (omega arith)
at_place (r ∷ R) zero l = here
at_place (r ∷ R) (suc k) l = there (at_place R k (omega arith))

pub span_at : {R : List Row} (k : ℕ) → k < length R → InSpan R (row_at R k)
span_at {R} k l = in_line (at_place R k l)

pub span_of : (R R' : List Row) → ((r : Row) → Among r R' → InSpan R r) → {x : Row} → InSpan R' x → InSpan R x
span_of R R' f h = in_through [] R [] R' (λ g i. elim i [ ]) (λ l i. (f l i, lines_opposite R l (f l i))) h

-- ---- one span
pub span_to : {R R' : List Row} {x : Row} → SameSpan R R' → InSpan R x → InSpan R' x
span_to {x} s h = (s.same x).0 h

pub span_from : {R R' : List Row} {x : Row} → SameSpan R R' → InSpan R' x → InSpan R x
span_from {x} s h = (s.same x).1 h

pub same_span : (R R' : List Row) → ((r : Row) → Among r R → InSpan R' r) → ((r : Row) → Among r R' → InSpan R r) → SameSpan R R'
same_span R R' f g = record { same = λ x. (λ h. span_of R' R f h, λ h. span_of R R' g h) }

pub same_span_refl : (R : List Row) → SameSpan R R
same_span_refl R = record { same = λ x. (λ h. h, λ h. h) }

pub same_span_sym : {R R' : List Row} → SameSpan R R' → SameSpan R' R
same_span_sym s = record { same = λ x. (λ h. (s.same x).1 h, λ h. (s.same x).0 h) }

pub same_span_trans : {R S T : List Row} → SameSpan R S → SameSpan S T → SameSpan R T
same_span_trans s t = record { same = λ x. (λ h. (t.same x).0 ((s.same x).0 h), λ h. (s.same x).1 ((t.same x).1 h)) }

-- ---- a row is replaced
pub place_of : {x : Row} {R : List Row} → Among x R → (k : ℕ) × (k < length R) × (row_at R k ≡ x)
place_of (here {xs}) = (0, omega arith, refl)
place_of (there {xs = xs} i) = let r = place_of i in (suc r.0, (let l = r.1 in omega arith), r.2)

module _ (R : List Row) (i : ℕ) (y : Row) (li : i < length R) where
  set_there : (k : ℕ) → ¬ (k ≡ i) → row_at (slice_set R i y) k ≡ row_at R k
  set_there k ne = get_or-set_other R i k y [] ne

  set_first : InSpan (slice_set R i y) y
  set_first = subst (λ z. InSpan (slice_set R i y) z) (get_or-set_same R i y [] li) (span_at i (rw length-set li))

  set_other : (k : ℕ) → k < length R → ¬ (k ≡ i) → InSpan (slice_set R i y) (row_at R k)
  set_other k lk ne = subst (λ z. InSpan (slice_set R i y) z) (set_there k ne) (span_at k (rw length-set lk))

  same_span_set : InSpan R y → InSpan (slice_set R i y) (row_at R i) → SameSpan R (slice_set R i y)
  same_span_set hy hr = same_span R (slice_set R i y) (λ r j. let w = place_of j in subst (λ z. InSpan (slice_set R i y) z) w.2 (to w.0 w.1)) (λ r j. let w = place_of j in subst (λ z. InSpan R z) w.2 (from w.0 (rw length-set at w.1)))
    where
      to : (k : ℕ) → k < length R → InSpan (slice_set R i y) (row_at R k)
      to k lk = elim (ℕ_discrete k i) [ yes e ↦ subst (λ m. InSpan (slice_set R i y) (row_at R m)) (sym e) hr | no ne ↦ set_other k lk ne ]

      from : (k : ℕ) → k < length R → InSpan R (row_at (slice_set R i y) k)
      from k lk = elim (ℕ_discrete k i) [
        | yes e ↦ subst (λ m. InSpan R (row_at (slice_set R i y) m)) (sym e) (subst (λ z. InSpan R z) (sym (get_or-set_same R i y [] li)) hy)
        | no ne ↦ subst (λ z. InSpan R z) (sym (set_there k ne)) (span_at k lk)
      ]

  -- g y = p r - s, where r stands at i and s is in the span with y and in the span with r
  pub same_span_replaced : (p g : ℤ) (s : Row) → ¬ (p ≡ pos 0) → ¬ (g ≡ pos 0) → InSpan R s → InSpan (slice_set R i y) s → Same (times g y) (difference p (row_at R i) (pos 1) s) → SameSpan R (slice_set R i y)
  same_span_replaced p g s np ng hs hs' e = same_span_set
      (span_divide ng (in_same (same_sym e) (span_difference p (pos 1) (span_at i li) hs)))
      (span_divide np (in_same (record { at = λ c. let w = simp (entry-times, entry-difference, ring) at (e.at c) in simp (entry-times, entry-plus) (omega (arith, ints)) }) (in_plus (span_times g set_first) hs')))

  -- one elimination step: g y = p r - q b, where r stands at i and b at j
  pub same_span_step : (j : ℕ) (p q g : ℤ) → j < length R → ¬ (i ≡ j) → ¬ (p ≡ pos 0) → ¬ (g ≡ pos 0) → Same (times g y) (difference p (row_at R i) q (row_at R j)) → SameSpan R (slice_set R i y)
  same_span_step j p q g lj ne np ng e =
      same_span_replaced p g (times q (row_at R j)) np ng (span_times q (span_at j lj)) (span_times q (set_other j lj (λ t. ne (sym t))))
      (record { at = λ c. let w = simp (entry-times, entry-difference) at (e.at c) in simp (entry-times, entry-difference, ring) (omega (arith, ints)) })

  -- g y = p r
  pub same_span_proportional : (p g : ℤ) → ¬ (p ≡ pos 0) → ¬ (g ≡ pos 0) → Same (times g y) (times p (row_at R i)) → SameSpan R (slice_set R i y)
  same_span_proportional p g np ng e =
      same_span_replaced p g [] np ng (in_zero (λ c. refl)) (in_zero (λ c. refl))
      (record { at = λ c. let w = simp entry-times at (e.at c) in simp (entry-times, entry-difference) (omega (arith, ints)) })

-- ---- a row is appended
pub same_span_appended : (R : List Row) (x : Row) → InSpan R x → SameSpan R (R ++ x ∷ [])
same_span_appended R x h = same_span R (R ++ x ∷ []) (λ r i. in_line (among_append_left (x ∷ []) i)) (λ r i. elim (among_append R (x ∷ []) i) [ inl j ↦ in_line j | inr j ↦ last j ])
  where
    last : {r : Row} → Among r (x ∷ []) → InSpan R r
    last here = h
    last (there j) = elim j [ ]

-- x is appended here and y there, where p x - q y is in the span of the rows before
pub same_span_extended : (R T : List Row) (x y : Row) (p q : ℤ) → SameSpan R T → ¬ (p ≡ pos 0) → ¬ (q ≡ pos 0) → InSpan R (difference p x q y) → SameSpan (R ++ y ∷ []) (T ++ x ∷ [])
same_span_extended R T x y p q s np nq h = same_span (R ++ y ∷ []) (T ++ x ∷ []) (λ r i. elim (among_append R (y ∷ []) i) [ inl j ↦ old_row j | inr j ↦ new_row j ]) (λ r i. elim (among_append T (x ∷ []) i) [ inl j ↦ old_back j | inr j ↦ new_back j ])
  where
    more : (X : List Row) (r : Row) {z : Row} → InSpan X z → InSpan (X ++ r ∷ []) z
    more X r k = span_of (X ++ r ∷ []) X (λ g i. in_line (among_append_left (r ∷ []) i)) k

    at_end : (X : List Row) (r : Row) → InSpan (X ++ r ∷ []) r
    at_end X r = in_line (among_append_right X here)

    old_row : {r : Row} → Among r R → InSpan (T ++ x ∷ []) r
    old_row j = more T x (span_to s (in_line j))

    old_back : {r : Row} → Among r T → InSpan (R ++ y ∷ []) r
    old_back j = more R y (span_from s (in_line j))

    new_row : {r : Row} → Among r (y ∷ []) → InSpan (T ++ x ∷ []) r
    new_row here = span_divide nq (in_same (record { at = λ c. simp (entry-difference, entry-times, ring) (omega (arith, ints)) }) (span_difference p (pos 1) (at_end T x) (more T x (span_to s h))))
    new_row (there j) = elim j [ ]

    new_back : {r : Row} → Among r (x ∷ []) → InSpan (R ++ y ∷ []) r
    new_back here = span_divide np (in_same (record { at = λ c. simp (entry-difference, entry-plus, entry-times) (omega (arith, ints)) }) (in_plus (span_times q (at_end R y)) (more R y h)))
    new_back (there j) = elim j [ ]

one_not_zero : ¬ (pos 1 ≡ pos 0)
one_not_zero e = omega (arith, ints)

pub span_is_kept : (R : List Row) → SpanIsKept R
span_is_kept R = record {
  appended = same_span_appended R;
  lowered = λ i j p q li lj ne np. same_span_step R i (difference p (row_at R i) q (row_at R j)) li j p q (pos 1) lj ne np one_not_zero (record { at = λ c. simp (entry-times, ring) });
  multiplied = λ i k li nk. same_span_proportional R i (times k (row_at R i)) li k (pos 1) nk one_not_zero (record { at = λ c. simp (entry-times, ring) });
  divided = λ i k y li nk e. same_span_proportional R i y li (pos 1) k one_not_zero nk (record { at = λ c. let w = simp entry-times at (e.at c) in simp (entry-times, ring) (omega (arith, ints)) });
}
