-- Placing one more row.
use Rattle.pm_vector.proofs.ConeLaws.{NonNeg, combination-times, dot_combination, dot_in, in_combination_lines, in_line, in_line_opposite, in_plus, in_same, in_times, lines_opposite}
use Rattle.pm_vector.proofs.Lists.{All_among, Among, Any_among, Contains_among, among_All, among_append_left, among_Contains, here, there}
use Rattle.pm_vector.proofs.Ring.{add-mul, neg_one_mul, one_mul, ring}
use Rattle.pm_vector.proofs.RowLaws.{dot-nil, dot-plus, dot-times, entry-plus, entry-times, length-plus, length-times}
use Rattle.pm_vector.proofs.Signs.{mul_cancel, mul_nonneg, mul_pos, times_both, weaken}
use Rattle.pm_vector.specs.Cones.{InCone, InSpan, combination}
use Rattle.pm_vector.specs.Rows.{HasCols, Row, dot, entry, plus, times}
use Rattle.pm_laws_placing.specs.LeastSums.{at, has, Within, IsLexNegative, over, IsLeast, IsLeastCell, Walls, IsPlaced, IsLeastList, PlacingStep}
use Rattle.pm_laws_placing.proofs.LeastSums.{neg_one, entry-over, nonneg_from, nonneg_at, exchanged}
use Rattle.pm_geom.proofs.Facets.{dot-opposite}
use Rattle.pm_geom.proofs.Polar.{cut_from}
use Rattle.pm_geom.specs.Faces.{ray}
use Rattle.std.specs.Prelude.{ℕ, zero, suc, ◌≡◌, ◌<◌, ◌≤◌, ◌⊎◌, Bool, true, false, List, [], ◌∷◌, ◌++◌, length}
use Rattle.std.specs.List.{AllByRecursion, Any, Contains}
use Rattle.std.proofs.Common.{arith, refl, sym, ap, ◌∙◌, subst, inl, inr}
use Rattle.std.proofs.lemmas.Int.{ints, by_lt_z}
use native.Mathlib.Decide.{dec_lt}
use lib.IntN.{ℤ, pos, negsuc, ◌+ℤ◌, ◌-ℤ◌, ◌*ℤ◌, neg_ℤ, zero-*ℤ, +ℤ_idl}
use lib.Signed.{◌<ℤ◌, ◌≤ℤ◌, lt_z_yes}
use Rattle.std.proofs.lemmas.Bool.{cases_Bool}

tail_zero : (k c0 e0 v e c : ℤ) → e0 ≡ k *ℤ c0 → (e0 *ℤ v +ℤ e) -ℤ k *ℤ (c0 *ℤ v +ℤ c) ≡ e -ℤ k *ℤ c
tail_zero k c0 e0 v e c z = simp (z, ring) (omega (arith, ints))

bound_at : (k e0 av ae : ℤ) → av <ℤ pos 0 → pos 0 ≤ℤ ae → (e0 *ℤ av +ℤ ae) -ℤ k *ℤ (pos 1 *ℤ av +ℤ pos 0) ≡ pos 0 → (k *ℤ pos 1) ≤ℤ e0
bound_at k e0 av ae h ha e =
    by_lt_z e0 k
    (λ l.
    let a : pos 0 <ℤ (k -ℤ e0) = omega (arith, ints) in
    let b : pos 0 <ℤ neg_ℤ av = omega (arith, ints) in
    let c = simp ring at (mul_pos a b) in
    let d = simp ring at e in
    absurd (omega (arith, ints)))
    (λ l. simp ring l)

module _ (W L : List Row) (v : Row) where
  -- the head taken off, where the heads agree
  tail_same : (k c0 e0 : ℤ) (c e : List ℤ) → e0 ≡ k *ℤ c0 → (i : ℕ) → entry (over (combination (e0 ∷ e) (v ∷ W)) k (combination (c0 ∷ c) (v ∷ W))) i ≡ entry (over (combination e W) k (combination c W)) i
  tail_same k c0 e0 c e z i =
      let a = entry-over (plus (times e0 v) (combination e W)) k (plus (times c0 v) (combination c W)) i in
      let b = entry-over (combination e W) k (combination c W) i in
      let p = entry-plus (times e0 v) (combination e W) i ∙ ap (λ t. t +ℤ entry (combination e W) i) (entry-times e0 v i) in
      let q = times_both k (entry-plus (times c0 v) (combination c W) i ∙ ap (λ t. t +ℤ entry (combination c W) i) (entry-times c0 v i)) in
      let f = tail_zero k c0 e0 (entry v i) (entry (combination e W) i) (entry (combination c W) i) z in
      omega (arith, ints)

  -- a head that no sum can go below makes a least sum of a least sum
  pub least_head : (c0 : ℤ) (c : List ℤ) → pos 0 ≤ℤ c0 → IsLeast W L c → ((k e0 : ℤ) (e : List ℤ) → pos 0 <ℤ k → pos 0 ≤ℤ e0 → AllByRecursion (λ k. pos 0 ≤ℤ k) e → InCone [] L (over (combination (e0 ∷ e) (v ∷ W)) k (combination (c0 ∷ c) (v ∷ W))) → (k *ℤ c0) ≤ℤ e0) → IsLeast (v ∷ W) L (c0 ∷ c)
  least_head c0 c h0 lc low = record { as_many = ap suc lc.as_many; not_negative = (h0, lc.not_negative); least = go }
    where
      go : (k : ℤ) (e : List ℤ) → pos 0 <ℤ k → length e ≡ suc (length W) → AllByRecursion (λ k. pos 0 ≤ℤ k) e → InCone [] L (over (combination e (v ∷ W)) k (combination (c0 ∷ c) (v ∷ W))) → ¬ (IsLexNegative (over e k (c0 ∷ c)))
      go k [] hk le ne flat neg = absurd (omega arith)
      go k (e0 ∷ e) hk le ne flat (inl h) = let l = low k e0 e hk ne.0 ne.1 flat in let g = neg_one k c0 in omega (arith, ints)
      go k (e0 ∷ e) hk le ne flat (inr h) =
          let z0 = h.0 in
          let g = neg_one k c0 in
          let z : e0 ≡ k *ℤ c0 = omega (arith, ints) in
          lc.least k e hk (omega arith) ne.1 (in_same (record { at = tail_same k c0 e0 c e z }) flat) h.1

  pub least_zero : (c : List ℤ) → IsLeast W L c → IsLeast (v ∷ W) L (pos 0 ∷ c)
  least_zero c lc = least_head (pos 0) c (omega (arith, ints)) lc (λ k e0 e hk h0 ne flat. simp ring h0)

  -- the rest of a least sum is least
  pub least_tail : (c0 : ℤ) (c : List ℤ) → IsLeast (v ∷ W) L (c0 ∷ c) → IsLeast W L c
  least_tail c0 c lc = record {
    as_many = (let l = lc.as_many in omega arith);
    not_negative = lc.not_negative.1;
    least = λ k e hk le ne flat neg.
        lc.least k ((k *ℤ c0) ∷ e) hk (ap suc le) (mul_nonneg (weaken hk) lc.not_negative.0, ne) (in_same (record { at = λ i. sym (tail_same k c0 (k *ℤ c0) c e refl i) }) flat) (inr ((let g = neg_one k c0 in omega (arith, ints)), neg));
  }

  -- a wall below which v lies, and on which the sum vanishes
  pub least_wall : (a : Row) → ((w : Row) → Among w W → pos 0 ≤ℤ dot a w) → ((l : Row) → Among l L → dot a l ≡ pos 0) → dot a v <ℤ pos 0 → (c : List ℤ) → dot a (combination c W) ≡ pos 0 → IsLeast W L c → IsLeast (v ∷ W) L (pos 1 ∷ c)
  unfolding NonNeg
  least_wall a above flat_on below c zero_c lc = least_head (pos 1) c (omega (arith, ints)) lc (λ k e0 e hk h0 ne flat. bound k e0 e hk ne flat)
    where
      on_lines : (x : Row) → InCone [] L x → dot a x ≡ pos 0
      on_lines x h =
          let p = dot_in a [] L (λ g j. elim j [ ]) flat_on h in
          let q = rw dot-opposite at (dot_in a [] L (λ g j. elim j [ ]) flat_on (lines_opposite L x h)) in
          omega (arith, ints)

      bound : (k e0 : ℤ) (e : List ℤ) → pos 0 <ℤ k → AllByRecursion (λ k. pos 0 ≤ℤ k) e → InCone [] L (over (combination (e0 ∷ e) (v ∷ W)) k (combination (pos 1 ∷ c) (v ∷ W))) → (k *ℤ pos 1) ≤ℤ e0
      bound k e0 e hk ne flat =
          let z = dot-plus a (combination (e0 ∷ e) (v ∷ W)) (times (negsuc 0 *ℤ k) (combination (pos 1 ∷ c) (v ∷ W))) in
          let y = dot-times a (negsuc 0 *ℤ k) (combination (pos 1 ∷ c) (v ∷ W)) in
          let x = neg_one k (dot a (combination (pos 1 ∷ c) (v ∷ W))) in
          let p = dot-plus a (times e0 v) (combination e W) ∙ ap (λ t. t +ℤ dot a (combination e W)) (dot-times a e0 v) in
          let q = times_both k (dot-plus a (times (pos 1) v) (combination c W) ∙ ap (λ t. t +ℤ dot a (combination c W)) (dot-times a (pos 1) v) ∙ ap (λ t. pos 1 *ℤ dot a v +ℤ t) zero_c) in
          let w = on_lines (over (combination (e0 ∷ e) (v ∷ W)) k (combination (pos 1 ∷ c) (v ∷ W))) flat in
          bound_at k e0 (dot a v) (dot a (combination e W)) below (dot_combination a e W ne above) (omega (arith, ints))

-- ---- a sum on the places of a mask
restrict : List ℤ → List Bool → List ℤ
restrict [] t = []
restrict (a ∷ c) [] = pos 0 ∷ restrict c []
restrict (a ∷ c) (true ∷ t) = a ∷ restrict c t
restrict (a ∷ c) (false ∷ t) = pos 0 ∷ restrict c t

length-restrict : (c : List ℤ) (t : List Bool) → length (restrict c t) ≡ length c
unfolding restrict
length-restrict [] t = refl
length-restrict (a ∷ c) [] = ap suc (length-restrict c [])
length-restrict (a ∷ c) (true ∷ t) = ap suc (length-restrict c t)
length-restrict (a ∷ c) (false ∷ t) = ap suc (length-restrict c t)

restrict_in : (c : List ℤ) (t : List Bool) (j : ℕ) → has t j ≡ true → at (restrict c t) j ≡ at c j
unfolding restrict
restrict_in [] t j h = refl
restrict_in (a ∷ c) [] j h = absurd (no_has j h)
  where
    no_has : (j : ℕ) → has [] j ≡ true → ⊥
    no_has j h = cc
restrict_in (a ∷ c) (true ∷ t) zero h = refl
restrict_in (a ∷ c) (true ∷ t) (suc j) h = restrict_in c t j h
restrict_in (a ∷ c) (false ∷ t) zero h = cc
restrict_in (a ∷ c) (false ∷ t) (suc j) h = restrict_in c t j h

restrict_out : (c : List ℤ) (t : List Bool) (j : ℕ) → has t j ≡ false → at (restrict c t) j ≡ pos 0
unfolding restrict
restrict_out [] t j h = refl
restrict_out (a ∷ c) [] zero h = refl
restrict_out (a ∷ c) [] (suc j) h = restrict_out c [] j refl
restrict_out (a ∷ c) (true ∷ t) zero h = cc
restrict_out (a ∷ c) (true ∷ t) (suc j) h = restrict_out c t j h
restrict_out (a ∷ c) (false ∷ t) zero h = refl
restrict_out (a ∷ c) (false ∷ t) (suc j) h = restrict_out c t j h

pub past : (c : List ℤ) (j : ℕ) → length c ≤ j → at c j ≡ pos 0
past [] j l = refl
past (a ∷ c) zero l = absurd (omega arith)
past (a ∷ c) (suc j) l = past c j (omega arith)

-- ---- a product with a sum of which each part is 0
pub dot_parts_zero : (a : Row) (c : List ℤ) (W : List Row) → ((j : ℕ) → (at c j ≡ pos 0) ⊎ (dot a (ray W j) ≡ pos 0)) → dot a (combination c W) ≡ pos 0
dot_parts_zero a [] W f = dot-nil a
dot_parts_zero a (k ∷ c) [] f = dot-nil a
dot_parts_zero a (k ∷ c) (w ∷ W) f =
    let h = dot_parts_zero a c W (λ j. f (suc j)) in
    elim (f 0) [ inl e ↦ simp (dot-plus, dot-times, h, e, ring) | inr e ↦ simp (dot-plus, dot-times, h, e, ring) ]

pub parts_zero : (a : Row) (c : List ℤ) (W : List Row) → AllByRecursion (λ k. pos 0 ≤ℤ k) c → ((w : Row) → Among w W → pos 0 ≤ℤ dot a w) → dot a (combination c W) ≡ pos 0 → (j : ℕ) → j < length W → (at c j ≡ pos 0) ⊎ (dot a (ray W j) ≡ pos 0)
unfolding NonNeg
parts_zero a [] W h f e j l = inl refl
parts_zero a (k ∷ c) [] h f e j l = absurd (omega arith)
parts_zero a (k ∷ c) (w ∷ W) h f e j l =
    let p = mul_nonneg h.0 (f w here) in
    let q = dot_combination a c W h.1 (λ y i. f y (there i)) in
    let s = simp (dot-plus, dot-times) at e in
    go j l (omega (arith, ints)) (parts_zero a c W h.1 (λ y i. f y (there i)) (omega (arith, ints)))
  where
    go : (j : ℕ) → j < suc (length W) → k *ℤ dot a w ≡ pos 0 → ((j : ℕ) → j < length W → (at c j ≡ pos 0) ⊎ (dot a (ray W j) ≡ pos 0)) → (at (k ∷ c) j ≡ pos 0) ⊎ (dot a (ray (w ∷ W) j) ≡ pos 0)
    go zero l z r = by_lt_z (pos 0) k (λ up. inr (mul_cancel up (simp ring z))) (λ none. let k0 = h.0 in inl (omega (arith, ints)))
    go (suc j) l z r = r j (omega arith)

-- ---- a sum with as many numbers as rows
record Fit (c : List ℤ) (W : List Row) : Type 0 where
  e : List ℤ
  as_many : length e ≡ length W
  not_negative : AllByRecursion (λ k. pos 0 ≤ℤ k) e
  same : (i : ℕ) → entry (combination e W) i ≡ entry (combination c W) i

fit : (c : List ℤ) (W : List Row) → AllByRecursion (λ k. pos 0 ≤ℤ k) c → Fit c W
fit [] [] h = record { e = []; as_many = refl; not_negative = tt; same = λ i. refl }
fit [] (w ∷ W) h = let r = fit [] W tt in record { e = pos 0 ∷ r.e; as_many = ap suc r.as_many; not_negative = (omega (arith, ints), r.not_negative); same = λ i. let s = r.same i in entry-plus (times (pos 0) w) (combination r.e W) i ∙ ap (λ t. t +ℤ entry (combination r.e W) i) (entry-times (pos 0) w i ∙ zero-*ℤ (entry w i)) ∙ +ℤ_idl (entry (combination r.e W) i) ∙ s }
fit (k ∷ c) [] h = record { e = []; as_many = refl; not_negative = tt; same = λ i. refl }
fit (k ∷ c) (w ∷ W) h = let r = fit c W h.1 in record { e = k ∷ r.e; as_many = ap suc r.as_many; not_negative = (h.0, r.not_negative); same = λ i. entry-plus (times k w) (combination r.e W) i ∙ ap (λ t. entry (times k w) i +ℤ t) (r.same i) ∙ sym (entry-plus (times k w) (combination c W) i) }

plus_nil : (x : Row) → plus x [] ≡ x
plus_nil [] = refl
plus_nil (a ∷ x) = refl

combination_length : (n : ℕ) (c : List ℤ) (W : List Row) → HasCols n W → (length (combination c W) ≡ n) ⊎ (combination c W ≡ [])
combination_length n [] W h = inr refl
combination_length n (k ∷ c) [] h = inr refl
combination_length n (k ∷ c) (w ∷ W) h = elim (combination_length n c W h.1) [
  | inl e ↦ inl (length-plus n (times k w) (combination c W) (length-times k w ∙ h.0) e)
  | inr e ↦ inl (ap (λ t. length (plus (times k w) t)) e ∙ ap length (plus_nil (times k w)) ∙ length-times k w ∙ h.0)
]

pub length_above : (n : ℕ) (N : ℤ) (c : List ℤ) (W : List Row) (v : Row) → HasCols n W → length v ≡ n → length (plus (times N (combination c W)) v) ≡ n
length_above n N c W v h lv = elim (combination_length n c W h) [
  | inl e ↦ length-plus n (times N (combination c W)) v (length-times N (combination c W) ∙ e) lv
  | inr e ↦ ap (λ t. length (plus (times N t) v)) e ∙ lv
]

-- ---- a wall at y, or room above y
unfoldable pub Wall : List Row → Row → Row → Type 0
Wall A y v = (a : Row) × Among a A × (dot a v <ℤ pos 0) × (dot a y ≡ pos 0)

pub record Room (A : List Row) (y v : Row) : Type 0 where
  pub n : ℤ
  pub positive : pos 0 <ℤ n
  pub above : (a : Row) → Among a A → pos 0 ≤ℤ (n *ℤ dot a y +ℤ dot a v)

room_at : (n s t : ℤ) → pos 0 <ℤ n → s <ℤ pos 0 → pos 0 <ℤ t → pos 0 ≤ℤ ((n -ℤ s) *ℤ t +ℤ s)
room_at n s t hn hs ht =
    let a : pos 0 ≤ℤ (t -ℤ pos 1) = omega (arith, ints) in
    let b : pos 0 ≤ℤ neg_ℤ s = omega (arith, ints) in
    let p = simp ring at (mul_nonneg b a) in
    let q = mul_nonneg (weaken hn) (weaken ht) in
    simp ring (omega (arith, ints))

room_more : (n k t s : ℤ) → pos 0 ≤ℤ k → pos 0 ≤ℤ t → pos 0 ≤ℤ (n *ℤ t +ℤ s) → pos 0 ≤ℤ ((n +ℤ k) *ℤ t +ℤ s)
room_more n k t s hk ht h = let p = mul_nonneg hk ht in simp add-mul (omega (arith, ints))

room_cons : (a : Row) (A : List Row) (y v : Row) (n : ℤ) → pos 0 <ℤ n → pos 0 ≤ℤ (n *ℤ dot a y +ℤ dot a v) → ((b : Row) → Among b A → pos 0 ≤ℤ (n *ℤ dot b y +ℤ dot b v)) → Room (a ∷ A) y v
room_cons a A y v n hn h f = record { n = n; positive = hn; above = go }
  where
    go : (b : Row) → Among b (a ∷ A) → pos 0 ≤ℤ (n *ℤ dot b y +ℤ dot b v)
    go b here = h
    go b (there i) = f b i

pub wall_or_room : (A : List Row) (y v : Row) → ((a : Row) → Among a A → pos 0 ≤ℤ dot a y) → Wall A y v ⊎ Room A y v
unfolding Wall
wall_or_room [] y v f = inr (record { n = pos 1; positive = lt_z_yes tt; above = λ a i. elim i [ ] })
wall_or_room (a ∷ A) y v f =
    elim (wall_or_room A y v (λ b i. f b (there i))) [
      | inl w ↦ inl (w.0, there w.1, w.2, w.3)
      | inr r ↦ by_lt_z (dot a v) (pos 0)
          (λ neg. by_lt_z (pos 0) (dot a y)
          (λ up. let k : pos 0 ≤ℤ neg_ℤ (dot a v) = omega (arith, ints) in let n0 = r.positive in
          inr (room_cons a A y v (r.n -ℤ dot a v) (omega (arith, ints)) (room_at r.n (dot a v) (dot a y) r.positive neg up) (λ b i. room_more r.n (neg_ℤ (dot a v)) (dot b y) (dot b v) k (f b (there i)) (r.above b i))))
          (λ flat. let h = f a here in inl (a, here, neg, omega (arith, ints))))
          (λ ok. let p = mul_nonneg (weaken r.positive) (f a here) in inr (room_cons a A y v r.n r.positive (omega (arith, ints)) r.above))
    ]

-- where a multiple of the rest, with v, is in the cone of the rest, a sum with a positive head is not least
room_entry : (m N c0 v y e d : ℤ) → m *ℤ (N *ℤ y +ℤ v) ≡ e +ℤ d → ((m *ℤ (N *ℤ c0 -ℤ pos 1)) *ℤ v +ℤ e) -ℤ m *ℤ N *ℤ (c0 *ℤ v +ℤ y) ≡ neg_ℤ d
room_entry m N c0 v y e d h = let g = simp ring at h in simp ring (omega (arith, ints))

module _ (W L : List Row) (v : Row) (c0 : ℤ) (c : List ℤ) (lc : IsLeast (v ∷ W) L (c0 ∷ c)) (up : pos 0 <ℤ c0) (N : ℤ) (hN : pos 0 <ℤ N) where
  below_at : (m N c0 : ℤ) → pos 0 <ℤ m → (m *ℤ (N *ℤ c0 -ℤ pos 1) +ℤ negsuc 0 *ℤ (m *ℤ N) *ℤ c0) <ℤ pos 0
  below_at m N c0 hm = let g = neg_one (m *ℤ N) c0 in let e = expand m N c0 in omega (arith, ints)
    where
      expand : (m N c0 : ℤ) → m *ℤ (N *ℤ c0 -ℤ pos 1) ≡ m *ℤ N *ℤ c0 -ℤ m
      expand m N c0 = simp ring

  flat_entry : (h : InCone W L (plus (times N (combination c W)) v)) → (f : Fit h.c W) → (i : ℕ) → entry (times (pos 1) (over (combination ((h.m *ℤ (N *ℤ c0 -ℤ pos 1)) ∷ f.e) (v ∷ W)) (h.m *ℤ N) (combination (c0 ∷ c) (v ∷ W)))) i ≡ entry (combination (times (negsuc 0) h.d) L) i
  flat_entry h f i =
      let a = entry-over (plus (times (h.m *ℤ (N *ℤ c0 -ℤ pos 1)) v) (combination f.e W)) (h.m *ℤ N) (plus (times c0 v) (combination c W)) i in
      let b = entry-plus (times (h.m *ℤ (N *ℤ c0 -ℤ pos 1)) v) (combination f.e W) i ∙ ap (λ t. t +ℤ entry (combination f.e W) i) (entry-times (h.m *ℤ (N *ℤ c0 -ℤ pos 1)) v i) ∙ ap (λ t. h.m *ℤ (N *ℤ c0 -ℤ pos 1) *ℤ entry v i +ℤ t) (f.same i) in
      let d = entry-plus (times c0 v) (combination c W) i ∙ ap (λ t. t +ℤ entry (combination c W) i) (entry-times c0 v i) in
      let e = ap (λ t. h.m *ℤ t) (sym (entry-plus (times N (combination c W)) v i ∙ ap (λ t. t +ℤ entry v i) (entry-times N (combination c W) i))) ∙ sym (entry-times h.m (plus (times N (combination c W)) v) i) ∙ h.same.at i ∙ entry-plus (combination h.c W) (combination h.d L) i in
      let g = room_entry h.m N c0 (entry v i) (entry (combination c W) i) (entry (combination h.c W) i) (entry (combination h.d L) i) e in
      entry-times (pos 1) (over (plus (times (h.m *ℤ (N *ℤ c0 -ℤ pos 1)) v) (combination f.e W)) (h.m *ℤ N) (plus (times c0 v) (combination c W))) i ∙ one_mul _ ∙ a ∙ ap (λ t. t -ℤ h.m *ℤ N *ℤ entry (plus (times c0 v) (combination c W)) i) b ∙ ap (λ t. h.m *ℤ (N *ℤ c0 -ℤ pos 1) *ℤ entry v i +ℤ entry (combination h.c W) i -ℤ h.m *ℤ N *ℤ t) d ∙ g ∙ sym (combination-times (negsuc 0) h.d L i ∙ neg_one_mul (entry (combination h.d L) i))

  pub no_more : InCone W L (plus (times N (combination c W)) v) → ⊥
  no_more h =
      let f = fit h.c W h.not_negative in
      let nc : pos 0 ≤ℤ (N *ℤ c0 -ℤ pos 1) = (let p = mul_pos hN up in omega (arith, ints)) in
      lc.least (h.m *ℤ N) ((h.m *ℤ (N *ℤ c0 -ℤ pos 1)) ∷ f.e) (mul_pos h.positive hN) (ap suc f.as_many) (mul_nonneg (weaken h.positive) nc, f.not_negative)
      (record {
        m = pos 1;
        c = [];
        d = times (negsuc 0) h.d;
        positive = lt_z_yes tt;
        not_negative = tt;
        same = record { at = λ i. flat_entry h f i };
      })
      (inl (below_at h.m N c0 h.positive))

-- ---- the step
module _ (n : ℕ) (W L A : List Row) (v : Row) (hW : HasCols n W) (hL : HasCols n L) (lv : length v ≡ n) (hv : InSpan (W ++ L) v) (walls : Walls n W L A) where
  above : (a : Row) → Among a A → (w : Row) → Among w W → pos 0 ≤ℤ dot a w
  above a i w j = walls.above a w (Contains_among i) (Contains_among j)

  -- a cell that is kept
  kept_cell : (s : List Bool) → IsLeastCell W L s → IsLeastCell (v ∷ W) L (false ∷ s)
  kept_cell s cell = record { c = pos 0 ∷ cell.c; is_least = least_zero W L v cell.c cell.is_least; positive = go }
    where
      go : (j : ℕ) → has (false ∷ s) j ≡ true → pos 0 <ℤ at (pos 0 ∷ cell.c) j
      go zero h = absurd (clash h)
        where
          clash : false ≡ true → ⊥
          clash h = cc
      go (suc j) h = cell.positive j h

  -- a cell on a wall, with v
  wall_cell : (s t : List Bool) (a : Row) → IsLeastCell W L s → Among a A → dot a v <ℤ pos 0 → ((j : ℕ) → has t j ≡ true → (has s j ≡ true) × (dot a (ray W j) ≡ pos 0)) → IsLeastCell (v ∷ W) L (true ∷ t)
  wall_cell s t a cell i below f = record { c = pos 1 ∷ restrict cell.c t; is_least = least; positive = go }
    where
      small : IsLeast W L (restrict cell.c t)
      small = exchanged W L cell.c cell.is_least (restrict cell.c t) (length-restrict cell.c t ∙ cell.is_least.as_many)
          (nonneg_from (restrict cell.c t) (λ j. elim (cases_Bool (has t j)) [ inl h ↦ (let e = restrict_in cell.c t j h in let p = nonneg_at cell.c cell.is_least.not_negative j in omega (arith, ints)) | inr h ↦ (let e = restrict_out cell.c t j h in omega (arith, ints)) ]))
          (λ j z. elim (cases_Bool (has t j)) [ inl h ↦ restrict_in cell.c t j h ∙ z | inr h ↦ restrict_out cell.c t j h ])

      least : IsLeast (v ∷ W) L (pos 1 ∷ restrict cell.c t)
      least = least_wall W L v a (above a i) (λ l k. walls.flat a l (Contains_among i) (Contains_among k)) below (restrict cell.c t)
          (dot_parts_zero a (restrict cell.c t) W (λ j. elim (cases_Bool (has t j)) [ inl h ↦ inr (f j h).1 | inr h ↦ inl (restrict_out cell.c t j h) ])) small

      go : (j : ℕ) → has (true ∷ t) j ≡ true → pos 0 <ℤ at (pos 1 ∷ restrict cell.c t) j
      go zero h = lt_z_yes tt
      go (suc j) h = let e = restrict_in cell.c t j h in let p = cell.positive j (f j h).0 in omega (arith, ints)

  -- with room above it, a sum with a positive head is not least
  no_room : (c0 : ℤ) (c : List ℤ) → IsLeast (v ∷ W) L (c0 ∷ c) → pos 0 <ℤ c0 → Room A (combination c W) v → ⊥
  no_room c0 c lc up r = no_more W L v c0 c lc up r.n r.positive (walls.enough (plus (times r.n (combination c W)) v) (length_above n r.n c W v hW lv) (in_plus (in_times (weaken r.positive) (in_combination_lines [] (W ++ L) c W (λ g i. (in_line (among_append_left L i), in_line_opposite (among_append_left L i))))) hv) (cut_from A (plus (times r.n (combination c W)) v) (λ a i. let p = r.above a i in simp (dot-plus, dot-times) p)))

  module _ (T U : List (List Bool)) (placed : IsPlaced W A v T U) (least : IsLeastList W L T) where
    cell_of : (s : List Bool) → Contains T s → IsLeastCell W L s
    cell_of s c = among_All (λ s. IsLeastCell W L s) (among_Contains T c) least.cells

    placed_cell : (u : List Bool) → Among u U → IsLeastCell (v ∷ W) L u
    placed_cell u i = elim (placed.each u (Contains_among i)) [
      | inl w ↦ subst (λ t. IsLeastCell (v ∷ W) L t) (sym w.2) (kept_cell w.0 (cell_of w.0 w.1))
      | inr w ↦ subst (λ t. IsLeastCell (v ∷ W) L t) (sym w.6) (wall_cell w.0 w.2 w.1 (cell_of w.0 w.3) (among_Contains A w.4) w.5 w.7)
    ]

    zero_within : (s : List Bool) (c0 : ℤ) (c : List ℤ) → c0 ≡ pos 0 → Within s c → Within (false ∷ s) (c0 ∷ c)
    zero_within s c0 c z w zero h = z
    zero_within s c0 c z w (suc j) h = w j h

    wall_within : (s t : List Bool) (a : Row) (c0 : ℤ) (c : List ℤ) → length c ≡ length W → Within s c → ((j : ℕ) → j < length W → (at c j ≡ pos 0) ⊎ (dot a (ray W j) ≡ pos 0)) → ((j : ℕ) → has s j ≡ true → dot a (ray W j) ≡ pos 0 → has t j ≡ true) → Within (true ∷ t) (c0 ∷ c)
    wall_within s t a c0 c l w parts f zero h = absurd (clash h)
      where
        clash : true ≡ false → ⊥
        clash h = cc
    wall_within s t a c0 c l w parts f (suc j) h =
        elim (cases_Bool (has s j)) [
          | inr no_s ↦ w j no_s
          | inl in_s ↦ elim (dec_lt j (length W)) [
            | no nl ↦ past c j (omega arith)
            | yes lj ↦ elim (parts j lj) [ inl z ↦ z | inr z ↦ absurd (clash (f j in_s z) h) ]
          ]
        ]
      where
        clash : {b : Bool} → b ≡ true → b ≡ false → ⊥
        clash p q = cc

    placed_all : (c : List ℤ) → IsLeast (v ∷ W) L c → Any (λ s. Within s c) U
    unfolding Wall
    placed_all [] lc = absurd (let l = lc.as_many in omega arith)
    placed_all (c0 ∷ c) lc =
        let lt = least_tail W L v c0 c lc in
        let w = least.all c lt in
        let sT : Contains T w.1 = (w.0, w.2, w.3) in
        by_lt_z (pos 0) c0
        (λ up. elim (wall_or_room A (combination c W) v (λ a i. dot_combination a c W (unfold NonNeg in lt.not_negative) (above a i))) [
          | inl g ↦
              let t = placed.joined w.1 g.0 sT (Contains_among g.1) g.2 in
              Any_among (λ s. Within s (c0 ∷ c)) (among_Contains U t.1) (wall_within w.1 t.0 g.0 c0 c lt.as_many w.4 (parts_zero g.0 c W lt.not_negative (above g.0 g.1) g.3) t.2)
          | inr r ↦ absurd (no_room c0 c lc up r)
        ])
        (λ none. let z = lc.not_negative.0 in Any_among (λ s. Within s (c0 ∷ c)) (among_Contains U (placed.kept w.1 sT)) (zero_within w.1 c0 c (omega (arith, ints)) w.4))

pub placing_step : PlacingStep
placing_step n W L A v hW hL lv hv walls T U placed least = record {
  cells = All_among (λ s. IsLeastCell (v ∷ W) L s) U (placed_cell n W L A v hW hL lv hv walls T U placed least);
  all = placed_all n W L A v hW hL lv hv walls T U placed least;
}
