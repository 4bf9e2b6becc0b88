-- Objectives of whole numbers: their values, and bounds of them by a row that is not negative on the generators.
use Rattle.pm_vector.proofs.ConeLaws.{dot_in}
use Rattle.pm_vector.proofs.Lists.{among_Contains, Contains_among, Among, here, there}
use Rattle.pm_vector.proofs.Ring.{left_comm, mul_assoc, mul_one, neg-mul, one_mul, ring}
use Rattle.pm_vector.proofs.RowLaws.{length-times, plus-dot, row_equal, times-dot, entry-times}
use Rattle.pm_vector.proofs.Signs.{le_cancel, mul_cancel, mul_le, mul_pos, pos_cancel, weaken}
use Rattle.pm_vector.specs.Cones.{InCone}
use Rattle.pm_vector.specs.Numbers.{Ratio}
use Rattle.pm_vector.specs.Divisors.{IsPrimitive}
use Rattle.pm_vector.specs.Rows.{Row, Stands, dot, entry, plus, times}
use Rattle.pm_geom.proofs.Apart.{not_below, not_below_at, products}
use Rattle.pm_geom.specs.Programs.{IsAttained, IsNotExceeded, IsTimes, IsWithoutBound}
use Rattle.pm_types.proofs.WholeRows.{length_ratios, ratio_at_ratios}
use Rattle.pm_types.specs.Programs.{HasValueAt}
use Rattle.pm_types.specs.Views.{ratios}
use Rattle.std.proofs.Common.{T, ap, arith, inl, inr, refl, subst, sym, ◌∙◌}
use Rattle.std.proofs.lemmas.Bool.{cases_lt}
use Rattle.std.proofs.lemmas.Int.{ints}
use Rattle.std.specs.List.{Contains}
use Rattle.std.specs.Prelude.{List, [], length, suc, zero, ℕ, ◌<◌, ◌∷◌, ◌≡◌, ◌≤◌, ◌⊎◌, ◌↔◌}
use lib.IntN.{neg_ℤ, pos, ℤ, ◌*ℤ◌, ◌+ℤ◌}
use lib.Signed.{◌<ℤ◌, ◌≤ℤ◌}

past_end : (x : Row) (i : ℕ) → length x ≤ i → entry x i ≡ pos 0
past_end [] i l = refl
past_end (a ∷ x) zero l = absurd (omega arith)
past_end (a ∷ x) (suc i) l = past_end x i (omega arith)

-- ---- multiples
pub whole_times : (c : Row) → IsTimes (pos 1) (ratios c) c
whole_times c = record {
  positive = omega (arith, ints);
  cols = length_ratios c;
  denominators = λ i l. rw (ratio_at_ratios c i) (omega (arith, ints));
  same = λ i l. rw (ratio_at_ratios c i) (simp ring);
}

pub times_is : (k : ℤ) (c o : Row) → IsTimes k (ratios c) o → o ≡ times k c
times_is k c o t = row_equal o (times k c) (t.cols ∙ sym (length_ratios c) ∙ sym (length-times k c)) (record { at = λ i. at i (cases_lt i (length c)) })
  where
    at : (i : ℕ) → (i < length c) ⊎ (length c ≤ i) → entry o i ≡ entry (times k c) i
    at i (inl l) =
        let within : i < length (ratios c) = (let e = length_ratios c in omega arith) in
        let e : entry o i *ℤ pos 1 ≡ k *ℤ entry c i = rw (ratio_at_ratios c i) at (t.same i within) in
        simp ring at e ∙ sym (entry-times k c i)
    at i (inr n) = past_end o i (let e = t.cols in let f = length_ratios c in omega arith) ∙ sym (past_end (times k c) i (let e = length-times k c in omega arith))

-- ---- the value at a row
pub value_there : (c : Row) (v : Ratio) (x : Row) → dot c x *ℤ v.den ≡ entry x 0 *ℤ v.num → HasValueAt (ratios c) v x
value_there c v x e = record { k = pos 1; objective = c; times = whole_times c; value = e ∙ ap (λ z. z *ℤ v.num) (sym (one_mul (entry x 0))) }

pub value_is : (c : Row) (v : Ratio) (x : Row) → HasValueAt (ratios c) v x → dot c x *ℤ v.den ≡ entry x 0 *ℤ v.num
value_is c v x h =
    let e : dot (times h.k c) x *ℤ v.den ≡ (h.k *ℤ entry x 0) *ℤ v.num = subst (λ r. dot r x *ℤ v.den ≡ (h.k *ℤ entry x 0) *ℤ v.num) (times_is h.k c h.objective h.times) h.value in
    mul_cancel h.times.positive (sym (mul_assoc h.k (dot c x) v.den) ∙ ap (λ z. z *ℤ v.den) (sym (times-dot h.k c x)) ∙ e ∙ mul_assoc h.k (entry x 0) v.num)

-- ---- bounds
-- at no row of S is c greater than v
abbrev pub IsBound : (Row → Type 0) → Row → Ratio → Type 0
IsBound S c v = (x : Row) → S x → (dot c x *ℤ v.den) ≤ℤ (entry x 0 *ℤ v.num)

-- v - c
abbrev pub gap : Row → Ratio → Row
gap c v = plus (v.num ∷ []) (times (neg_ℤ v.den) c)

first_product : (n : ℤ) (x : Row) → dot (n ∷ []) x ≡ n *ℤ entry x 0
first_product n [] = simp ring
first_product n (a ∷ x) = omega (arith, ints)

-- no generator is negative on v - c, and each line vanishes on it
pub bound_on : (G L : List Row) (c : Row) (v : Ratio) → T (products not_below (gap c v) G) → ((l : Row) → Among l L → dot (gap c v) l ≡ pos 0) → IsBound (InCone G L) c v
bound_on G L c v rows lines x h =
    let p = dot_in (gap c v) G L (λ g i. not_below_at (gap c v) i rows) lines h in
    let q : dot (gap c v) x ≡ v.num *ℤ entry x 0 +ℤ neg_ℤ (v.den *ℤ dot c x) =
    plus-dot (v.num ∷ []) (times (neg_ℤ v.den) c) x ∙ ap (λ z. z +ℤ dot (times (neg_ℤ v.den) c) x) (first_product v.num x) ∙ ap (λ z. v.num *ℤ entry x 0 +ℤ z) (times-dot (neg_ℤ v.den) c x ∙ neg-mul v.den (dot c x)) in
    omega (arith, ints)

pub bound : (G : List Row) (c : Row) (v : Ratio) → T (products not_below (gap c v) G) → IsBound (InCone G []) c v
bound G c v rows = bound_on G [] c v rows (λ l i. elim i [ ])

pub not_exceeded : (S : Row → Type 0) (c : Row) (v : Ratio) → IsBound S c v → IsNotExceeded S (ratios c) v
not_exceeded S c v f = record {
  holds = λ k o x t i first.
      subst (λ r. (dot r x *ℤ v.den) ≤ℤ ((k *ℤ entry x 0) *ℤ v.num)) (sym (times_is k c o t))
      (rw (times-dot k c x, mul_assoc k (dot c x) v.den, mul_assoc k (entry x 0) v.num) (mul_le (weaken t.positive) (f x i)));
}

pub attained : (S : Row → Type 0) (c : Row) (v : Ratio) (x : Row) → length x ≡ length c → S x → pos 0 <ℤ entry x 0 → pos 0 <ℤ v.den → dot c x *ℤ v.den ≡ entry x 0 *ℤ v.num → IsAttained S (ratios c) v
attained S c v x l i first positive e = record {
  k = pos 1;
  objective = c;
  whole = x;
  times = whole_times c;
  cols = l ∙ length_ratios c;
  inside = i;
  first = first;
  positive = positive;
  value = e ∙ ap (λ z. z *ℤ v.num) (sym (one_mul (entry x 0)));
}

-- ---- a bound that is attained is the only value
pub at_most : (S : Row → Type 0) (c : Row) (v w : Ratio) → IsAttained S (ratios c) v → IsBound S c w → (v.num *ℤ w.den) ≤ℤ (w.num *ℤ v.den)
at_most S c v w a f =
    let x = a.whole in
    let d = dot c x in
    let e : d *ℤ v.den ≡ entry x 0 *ℤ v.num = value_is c v x (record { k = a.k; objective = a.objective; times = a.times; value = a.value }) in
    let g : (v.den *ℤ (d *ℤ w.den)) ≤ℤ (v.den *ℤ (entry x 0 *ℤ w.num)) = mul_le (weaken a.positive) (f x a.inside) in
    let p : v.den *ℤ (d *ℤ w.den) ≡ entry x 0 *ℤ (v.num *ℤ w.den) = left_comm v.den d w.den ∙ sym (mul_assoc d v.den w.den) ∙ ap (λ z. z *ℤ w.den) e ∙ mul_assoc (entry x 0) v.num w.den in
    let q : v.den *ℤ (entry x 0 *ℤ w.num) ≡ entry x 0 *ℤ (w.num *ℤ v.den) = left_comm v.den (entry x 0) w.num ∙ ap (λ z. entry x 0 *ℤ z) (omega (arith, ints)) in
    le_cancel a.first (subst (λ z. z ≤ℤ (entry x 0 *ℤ (w.num *ℤ v.den))) p (subst (λ z. (v.den *ℤ (d *ℤ w.den)) ≤ℤ z) q g))

pub at_least : (S : Row → Type 0) (c : Row) (v : Ratio) (x : Row) → IsNotExceeded S (ratios c) v → S x → pos 0 <ℤ entry x 0 → (dot c x *ℤ v.den) ≤ℤ (entry x 0 *ℤ v.num)
at_least S c v x h i first = subst (λ z. (dot c x *ℤ v.den) ≤ℤ (z *ℤ v.num)) (one_mul (entry x 0)) (h.holds (pos 1) c x (whole_times c) i first)

pub not_without_bound : (S : Row → Type 0) (c : Row) (v : Ratio) → pos 0 <ℤ v.den → IsBound S c v → ¬ (IsWithoutBound S (ratios c))
not_without_bound S c v positive f w =
    let d = w.direction in
    let up : pos 0 <ℤ (w.k *ℤ dot c d) = subst (λ z. pos 0 <ℤ z) (times-dot w.k c d) (subst (λ r. pos 0 <ℤ dot r d) (times_is w.k c w.objective w.times) w.improves) in
    let more = pos_cancel w.times.positive up in
    let less : (dot c d *ℤ v.den) ≤ℤ (pos 0 *ℤ v.num) = subst (λ z. (dot c d *ℤ v.den) ≤ℤ (z *ℤ v.num)) w.level (f d w.direction_inside) in
    clash (dot c d) v.den v.num more positive less
  where
    clash : (t d n : ℤ) → pos 0 <ℤ t → pos 0 <ℤ d → (t *ℤ d) ≤ℤ (pos 0 *ℤ n) → ⊥
    clash t d n h k l = let m = mul_pos h k in let z : pos 0 *ℤ n ≡ pos 0 = (simp ring) in omega (arith, ints)

-- ---- places
pub first_of : (a : ℕ) (as' : List ℕ) → Contains (a ∷ as') a
first_of a as' = Contains_among (here {xs = as'})

pub only_place : (a : ℕ) (P : ℕ → Type 0) → P a → ((j : ℕ) → P j → j ≡ a) → (j : ℕ) → Contains (a ∷ []) j ↔ P j
only_place a P h f j = (λ c. to (among_Contains (a ∷ []) c), λ p. subst (λ z. Contains (a ∷ []) z) (sym (f j p)) (first_of a []))
  where
    to : {j : ℕ} → Among j (a ∷ []) → P j
    to here = h
    to (there i) = elim i [ ]

-- ---- primitive rows
-- the primitive row that stands for a row with an entry 1 is that row
pub primitive_is : (r x : Row) (i : ℕ) → entry r i ≡ pos 1 → i < length r → IsPrimitive x → Stands (ratios r) x → x ≡ r
primitive_is r x i one within whole s = row_equal x r cols (record { at = λ j. scaled j ∙ ap (λ z. z *ℤ entry r j) single ∙ one_mul (entry r j) })
  where
    cols : length x ≡ length r
    cols = s.cols ∙ sym (length_ratios r)

    part : (j : ℕ) → j < length r → s.p *ℤ entry x j ≡ s.q *ℤ entry r j
    part j l =
        let e : s.p *ℤ (entry x j *ℤ pos 1) ≡ s.q *ℤ entry r j = rw (ratio_at_ratios r j) at (s.same j (let f = length_ratios r in omega arith)) in
        ap (λ z. s.p *ℤ z) (sym (mul_one (entry x j))) ∙ e

    scale : s.p *ℤ entry x i ≡ s.q
    scale = part i within ∙ ap (λ z. s.q *ℤ z) one ∙ mul_one s.q

    at : (j : ℕ) → (j < length r) ⊎ (length r ≤ j) → entry x j ≡ entry x i *ℤ entry r j
    at j (inl l) = mul_cancel s.p_positive (part j l ∙ ap (λ z. z *ℤ entry r j) (sym scale) ∙ mul_assoc s.p (entry x i) (entry r j))
    at j (inr n) = past_end x j (let e = cols in omega arith) ∙ sym (ap (λ z. entry x i *ℤ z) (past_end r j n) ∙ (simp ring))

    scaled : (j : ℕ) → entry x j ≡ entry x i *ℤ entry r j
    scaled j = at j (cases_lt j (length r))

    single : entry x i ≡ pos 1
    single = whole.whole (entry x i) r (sym cols) (pos_cancel s.p_positive (subst (λ z. pos 0 <ℤ z) (sym scale) s.q_positive)) (record { at = λ j. scaled j ∙ sym (entry-times (entry x i) r j) })
