-- Each least sum on a face lies within a least sum whose rows span the face.
use Rattle.pm_vector.proofs.ConeLaws.{NonNeg, dot_combination, in_generator, in_line, in_of, in_plus, in_same, in_times, in_zero}
use Rattle.pm_vector.proofs.Lists.{All_among, Among, all_append, all_from, among_All, among_append_left, among_append_right, among_append, here, there}
use Rattle.pm_vector.proofs.Ring.{one_mul, ring}
use Rattle.pm_vector.proofs.RowLaws.{dot-plus, dot-times, entry-difference, entry-plus, entry-times}
use Rattle.pm_vector.proofs.Signs.{mul_cancel, mul_nonneg, mul_pos}
use Rattle.pm_vector.specs.Cones.{InCone, InSpan, combination}
use Rattle.pm_vector.specs.Rows.{HasCols, Row, difference, dot, entry, plus, times}
use Rattle.pm_vector.proofs.Spans.{span_difference, span_divide, span_of}
use Rattle.pm_laws_placing.proofs.FacetSpans.{Lifted, facet_span, length-raised, lifted, on_lines, raised, raised-dot, valid_dot}
use Rattle.pm_laws_placing.proofs.LeastSums.{entry-over}
use Rattle.pm_laws_placing.proofs.PlacingStep.{Wall, least_head, least_tail, least_wall, least_zero, length_above, no_more, wall_or_room}
use Rattle.pm_laws_placing.specs.LeastSums.{at, IsLeast, over}
use Rattle.pm_geom.proofs.Facets.{facet_rows_cut_out}
use Rattle.pm_geom.proofs.Independent.{decide_zero}
use Rattle.pm_geom.proofs.Polar.{cols_at, cut_from, membership_decided}
use Rattle.pm_geom.proofs.ValidRows.{null_in}
use Rattle.pm_geom.specs.Cones.{IsFacetRow, Vanishes}
use Rattle.pm_geom.specs.Faces.{ray}
use Rattle.std.specs.Prelude.{ℕ, zero, suc, ◌≡◌, ◌<◌, ◌⊎◌, List, [], ◌∷◌, ◌++◌, length}
use Rattle.std.specs.List.{AllByRecursion}
use Rattle.std.proofs.Common.{arith, ap, refl, sym, ◌∙◌, inl, inr}
use Rattle.std.proofs.lemmas.Int.{ints, by_lt_z}
use lib.IntN.{ℤ, pos, ◌+ℤ◌, ◌-ℤ◌, ◌*ℤ◌}
use lib.Signed.{◌<ℤ◌, ◌≤ℤ◌, lt_z_yes}

-- the rows of W on which a is 0
pub record OnRow (a : Row) (W : List Row) : Type 0 where
  pub rows : List Row
  pub some : (g : Row) → Among g rows → Among g W × (dot a g ≡ pos 0)
  pub every : (w : Row) → Among w W → dot a w ≡ pos 0 → Among w rows

pub on_row : (a : Row) (W : List Row) → OnRow a W
on_row a [] = record { rows = []; some = λ g i. elim i [ ]; every = λ w i e. elim i [ ] }
on_row a (w ∷ W) =
    let r = on_row a W in
    elim (decide_zero (dot a w)) [
      | inl z ↦ record { rows = w ∷ r.rows; some = first r z; every = with_first r }
      | inr nz ↦ record { rows = r.rows; some = λ g i. (there (r.some g i).0, (r.some g i).1); every = without r nz }
    ]
  where
    first : (r : OnRow a W) → dot a w ≡ pos 0 → (g : Row) → Among g (w ∷ r.rows) → Among g (w ∷ W) × (dot a g ≡ pos 0)
    first r z g here = (here, z)
    first r z g (there i) = (there (r.some g i).0, (r.some g i).1)

    with_first : (r : OnRow a W) → (x : Row) → Among x (w ∷ W) → dot a x ≡ pos 0 → Among x (w ∷ r.rows)
    with_first r x here e = here
    with_first r x (there i) e = there (r.every x i e)

    without : (r : OnRow a W) → ¬ (dot a w ≡ pos 0) → (x : Row) → Among x (w ∷ W) → dot a x ≡ pos 0 → Among x r.rows
    without r nz x here e = absurd (nz e)
    without r nz x (there i) e = r.every x i e

-- a sum on which a is 0 needs only the rows on which a is 0
pub flat_in : (X K : List Row) (a : Row) (c : List ℤ) (W : List Row) → AllByRecursion (λ k. pos 0 ≤ℤ k) c → ((w : Row) → Among w W → pos 0 ≤ℤ dot a w) → dot a (combination c W) ≡ pos 0 → ((w : Row) → Among w W → dot a w ≡ pos 0 → InCone X K w) → InCone X K (combination c W)
unfolding NonNeg
flat_in X K a [] W h f e g = in_zero (λ i. refl)
flat_in X K a (k ∷ c) [] h f e g = in_zero (λ i. refl)
flat_in X K a (k ∷ c) (w ∷ W) h f e g =
    let p = mul_nonneg h.0 (f w here) in
    let q = dot_combination a c W h.1 (λ y i. f y (there i)) in
    let s = simp (dot-plus, dot-times) at e in
    let z : k *ℤ dot a w ≡ pos 0 = omega (arith, ints) in
    let rest = flat_in X K a c W h.1 (λ y i. f y (there i)) (omega (arith, ints)) (λ y i. g y (there i)) in
    by_lt_z (pos 0) k
    (λ up. in_plus (in_times h.0 (g w here (mul_cancel up (simp ring z)))) rest)
    (λ none. let k0 = h.0 in let zk : k ≡ pos 0 = omega (arith, ints) in in_plus (in_zero (λ i. simp (entry-times, zk, ring))) rest)

-- the span of X and L has the rows of W on which a is 0, for each list X of the rows with a positive number in e
unfoldable pub Spans : ℕ → List Row → List Row → Row → List ℤ → Type 0
Spans n W L a e = (X : List Row) → HasCols n X → ((j : ℕ) → j < length W → pos 0 <ℤ at e j → Among (ray W j) X) → (w : Row) → Among w W → dot a w ≡ pos 0 → InSpan (X ++ L) w

pub record Full (n : ℕ) (W L : List Row) (a : Row) (c : List ℤ) : Type 0 where
  pub e : List ℤ
  pub is_least : IsLeast W L e
  pub flat : dot a (combination e W) ≡ pos 0
  pub more : (j : ℕ) → pos 0 <ℤ at c j → pos 0 <ℤ at e j
  pub spans : Spans n W L a e

-- the parts of a sum with one more row
head_zero : (k t s : ℤ) → pos 0 ≤ℤ k → pos 0 ≤ℤ s → k *ℤ t +ℤ s ≡ pos 0 → pos 0 <ℤ t → k ≡ pos 0
head_zero k t s hk hs e ht =
    by_lt_z (pos 0) k (λ up. let p = mul_pos up ht in absurd (omega (arith, ints))) (λ none. omega (arith, ints))

rest_zero : (k t s : ℤ) → pos 0 ≤ℤ k → pos 0 ≤ℤ t → pos 0 ≤ℤ s → k *ℤ t +ℤ s ≡ pos 0 → s ≡ pos 0
rest_zero k t s hk ht hs e = let p = mul_nonneg hk ht in omega (arith, ints)

joined_zero : (k t s : ℤ) → (k ≡ pos 0) ⊎ (t ≡ pos 0) → s ≡ pos 0 → k *ℤ t +ℤ s ≡ pos 0
joined_zero k t s (inl z) e = simp (z, e, ring)
joined_zero k t s (inr z) e = simp (z, e, ring)

flat_sum : (k t s : ℤ) → t ≡ pos 0 → k *ℤ t +ℤ s ≡ s
flat_sum k t s z = simp (z, ring) (omega (arith, ints))

module _ (n : ℕ) (W L : List Row) (v : Row) (a : Row) (c0 : ℤ) (c : List ℤ) where
  -- the head keeps, or gets, a number
  made : (k : ℤ) (r : Full n W L a c) → IsLeast (v ∷ W) L (k ∷ r.e) → (pos 0 <ℤ c0 → pos 0 <ℤ k) → (k ≡ pos 0) ⊎ (dot a v ≡ pos 0) → ((X : List Row) → HasCols n X → (pos 0 <ℤ k → Among v X) → ((w : Row) → Among w W → dot a w ≡ pos 0 → InSpan (X ++ L) w) → dot a v ≡ pos 0 → InSpan (X ++ L) v) → Full n (v ∷ W) L a (c0 ∷ c)
  unfolding Spans
  made k r least up zero_at head = record {
    e = k ∷ r.e;
    is_least = least;
    flat = simp (dot-plus, dot-times) (joined_zero k (dot a v) (dot a (combination r.e W)) zero_at r.flat);
    more = more;
    spans = spans;
  }
    where
      more : (j : ℕ) → pos 0 <ℤ at (c0 ∷ c) j → pos 0 <ℤ at (k ∷ r.e) j
      more zero h = up h
      more (suc j) h = r.more j h

      spans : (X : List Row) → HasCols n X → ((j : ℕ) → j < length (v ∷ W) → pos 0 <ℤ at (k ∷ r.e) j → Among (ray (v ∷ W) j) X) → (w : Row) → Among w (v ∷ W) → dot a w ≡ pos 0 → InSpan (X ++ L) w
      spans X hX f w (there i) z = r.spans X hX (λ j l p. f (suc j) (omega arith) p) w i z
      spans X hX f w here z = head X hX (λ p. f 0 (omega arith) p) (λ y i e. r.spans X hX (λ j l p. f (suc j) (omega arith) p) y i e) z

-- v is outside of the span of the rows of W on which a is 0
module _ (n : ℕ) (W L : List Row) (v a : Row) (above : (w : Row) → Among w W → pos 0 ≤ℤ dot a w) (flat : (l : Row) → Among l L → dot a l ≡ pos 0) (on : OnRow a W) (out : ¬ (InSpan (on.rows ++ L) v)) (av : dot a v ≡ pos 0) (e : List ℤ) (le : IsLeast W L e) (fe : dot a (combination e W) ≡ pos 0) where
  in_rows : (d : List ℤ) → AllByRecursion (λ k. pos 0 ≤ℤ k) d → dot a (combination d W) ≡ pos 0 → InSpan (on.rows ++ L) (combination d W)
  in_rows d hd fd = flat_in [] (on.rows ++ L) a d W hd above fd (λ w i z. in_line (among_append_left L (on.every w i z)))

  head_entry : (k c0 d0 v d e f : ℤ) → f ≡ (d0 *ℤ v +ℤ d) -ℤ k *ℤ (c0 *ℤ v +ℤ e) → (d0 -ℤ k *ℤ c0) *ℤ v ≡ f -ℤ (pos 1 *ℤ d -ℤ k *ℤ e)
  head_entry k c0 d0 v d e f h = simp (h, ring) (omega (arith, ints))

  outside_head : (c0 : ℤ) → pos 0 ≤ℤ c0 → IsLeast (v ∷ W) L (c0 ∷ e)
  outside_head c0 h0 = least_head W L v c0 e h0 le low
    where
      low : (k d0 : ℤ) (d : List ℤ) → pos 0 <ℤ k → pos 0 ≤ℤ d0 → AllByRecursion (λ k. pos 0 ≤ℤ k) d → InCone [] L (over (combination (d0 ∷ d) (v ∷ W)) k (combination (c0 ∷ e) (v ∷ W))) → (k *ℤ c0) ≤ℤ d0
      low k d0 d hk hd nd span =
          elim (decide_zero (d0 -ℤ k *ℤ c0)) [
            | inl z ↦ omega (arith, ints)
            | inr nz ↦ absurd (out (span_divide nz (in_same (record { at = same }) (span_difference (pos 1) (pos 1) whole (span_difference (pos 1) k (in_rows d nd fd) (in_rows e le.not_negative fe))))))
          ]
        where
          whole : InSpan (on.rows ++ L) (over (combination (d0 ∷ d) (v ∷ W)) k (combination (c0 ∷ e) (v ∷ W)))
          whole = span_of (on.rows ++ L) L (λ l i. in_line (among_append_right on.rows i)) span

          fd : dot a (combination d W) ≡ pos 0
          fd =
              let z = null_in a [] L (λ g i. elim i [ ]) flat span in
              let y = simp (dot-plus, dot-times, av, fe, ring) at z in
              omega (arith, ints)

          same : (i : ℕ) → entry (difference (pos 1) (over (combination (d0 ∷ d) (v ∷ W)) k (combination (c0 ∷ e) (v ∷ W))) (pos 1) (difference (pos 1) (combination d W) k (combination e W))) i ≡ entry (times (d0 -ℤ k *ℤ c0) v) i
          same i =
              let x = entry-over (plus (times d0 v) (combination d W)) k (plus (times c0 v) (combination e W)) i ∙ ap (λ t. t -ℤ k *ℤ entry (plus (times c0 v) (combination e W)) i) (entry-plus (times d0 v) (combination d W) i ∙ ap (λ t. t +ℤ entry (combination d W) i) (entry-times d0 v i)) ∙ ap (λ t. d0 *ℤ entry v i +ℤ entry (combination d W) i -ℤ k *ℤ t) (entry-plus (times c0 v) (combination e W) i ∙ ap (λ t. t +ℤ entry (combination e W) i) (entry-times c0 v i)) in
              let y = head_entry k c0 d0 (entry v i) (entry (combination d W) i) (entry (combination e W) i) _ x in
              entry-difference (pos 1) (over (combination (d0 ∷ d) (v ∷ W)) k (combination (c0 ∷ e) (v ∷ W))) (pos 1) (difference (pos 1) (combination d W) k (combination e W)) i
              ∙ ap (λ t. pos 1 *ℤ entry (over (combination (d0 ∷ d) (v ∷ W)) k (combination (c0 ∷ e) (v ∷ W))) i -ℤ pos 1 *ℤ t) (entry-difference (pos 1) (combination d W) k (combination e W) i)
              ∙ ap (λ t. t -ℤ pos 1 *ℤ (pos 1 *ℤ entry (combination d W) i -ℤ k *ℤ entry (combination e W) i)) (one_mul _) ∙ ap (λ t. entry (over (combination (d0 ∷ d) (v ∷ W)) k (combination (c0 ∷ e) (v ∷ W))) i -ℤ t) (one_mul _) ∙ sym y ∙ sym (entry-times (d0 -ℤ k *ℤ c0) v i)

-- ---- one more row
module _ (n : ℕ) (W L : List Row) (v a : Row) (hW : HasCols n W) (hL : HasCols n L) (lv : length v ≡ n) (la : length a ≡ n) (above : (w : Row) → Among w (v ∷ W) → pos 0 ≤ℤ dot a w) (flat : (l : Row) → Among l L → dot a l ≡ pos 0)
    (more : (b : Row) → length b ≡ n → ((w : Row) → Among w W → pos 0 ≤ℤ dot b w) → ((l : Row) → Among l L → dot b l ≡ pos 0) → (c : List ℤ) → IsLeast W L c → dot b (combination c W) ≡ pos 0 → Full n W L b c)
    (c0 : ℤ) (c : List ℤ) (lc : IsLeast (v ∷ W) L (c0 ∷ c)) (fc : dot a (combination (c0 ∷ c) (v ∷ W)) ≡ pos 0) where
  abbrev on : OnRow a W
  on = on_row a W

  above_rest : (w : Row) → Among w W → pos 0 ≤ℤ dot a w
  above_rest w i = above w (there i)

  tail : IsLeast W L c
  tail = least_tail W L v c0 c lc

  split : c0 *ℤ dot a v +ℤ dot a (combination c W) ≡ pos 0
  split = sym (simp (dot-plus, dot-times)) ∙ fc

  rest_not_negative : pos 0 ≤ℤ dot a (combination c W)
  unfolding NonNeg
  rest_not_negative = dot_combination a c W tail.not_negative above_rest

  rest_flat : dot a (combination c W) ≡ pos 0
  rest_flat = rest_zero c0 (dot a v) (dot a (combination c W)) lc.not_negative.0 (above v here) rest_not_negative split

  below : Full n W L a c
  below = more a la above_rest flat c tail rest_flat

  -- a is positive on v
  off_row : pos 0 <ℤ dot a v → Full n (v ∷ W) L a (c0 ∷ c)
  off_row up =
      let z = head_zero c0 (dot a v) (dot a (combination c W)) lc.not_negative.0 rest_not_negative split up in
      made n W L v a c0 c (pos 0) below (least_zero W L v below.e below.is_least) (λ p. absurd (omega (arith, ints))) (inl refl) (λ X hX f g e. absurd (omega (arith, ints)))

  -- v is outside of the span of the rows on which a is 0
  outside_row : dot a v ≡ pos 0 → ¬ (InSpan (on.rows ++ L) v) → Full n (v ∷ W) L a (c0 ∷ c)
  outside_row av out =
      let h0 = lc.not_negative.0 in
      made n W L v a c0 c (c0 +ℤ pos 1) below (outside_head n W L v a above_rest flat on out av below.e below.is_least below.flat (c0 +ℤ pos 1) (omega (arith, ints)))
      (λ p. omega (arith, ints)) (inr av) (λ X hX f g e. in_line (among_append_left L (f (omega (arith, ints)))))

  module _ (av : dot a v ≡ pos 0) (inside : InSpan (on.rows ++ L) v) where
    -- the sum has no part of v
    no_head : c0 ≡ pos 0 → Full n (v ∷ W) L a (c0 ∷ c)
    no_head z = made n W L v a c0 c (pos 0) below (least_zero W L v below.e below.is_least) (λ p. absurd (omega (arith, ints))) (inl refl)
        (λ X hX f g e. span_of (X ++ L) (on.rows ++ L) (λ r i. elim (among_append on.rows L i) [ inl j ↦ g r (on.some r j).0 (on.some r j).1 | inr j ↦ in_line (among_append_right X j) ]) inside)

    module _ (up : pos 0 <ℤ c0) where
      rows_cols : HasCols n on.rows
      rows_cols = all_from (λ (x : Row). length x ≡ n) on.rows (λ g i. cols_at (on.some g i).0 hW)

      rest_in : InCone on.rows L (combination c W)
      rest_in = flat_in on.rows L a c W tail.not_negative above_rest rest_flat (λ w i z. in_generator (on.every w i z))

      -- v is below the facet row b of the cone of these rows, on which the rest of the sum lies
      module _ (b : Row) (fb : IsFacetRow n on.rows L b) (bv : dot b v <ℤ pos 0) (br : dot b (combination c W) ≡ pos 0) where
        lift : Lifted a b W
        lift = lifted a b W above_rest (λ w i z. fb.inside.holds w (cols_at i hW) (in_generator (on.every w i z)))

        wall : Row
        wall = raised lift.n a b

        wall-dot : (x : Row) → dot wall x ≡ lift.n *ℤ dot a x +ℤ dot b x
        unfolding wall
        wall-dot x = raised-dot lift.n a b x

        wall_on : (x : Row) → dot a x ≡ pos 0 → dot wall x ≡ dot b x
        wall_on x z = wall-dot x ∙ flat_sum lift.n (dot a x) (dot b x) z

        wall_above : (w : Row) → Among w W → pos 0 ≤ℤ dot wall w
        wall_above w i = rw wall-dot (lift.above w i)

        wall_flat : (l : Row) → Among l L → dot wall l ≡ pos 0
        wall_flat l i = wall_on l (flat l i) ∙ on_lines n on.rows L hL b fb.inside l i

        wall_below : dot wall v <ℤ pos 0
        wall_below = rw (wall_on v av) bv

        length-wall : length wall ≡ n
        unfolding wall
        length-wall = length-raised n lift.n a b la fb.cols

        both : Row
        both = raised (pos 1) a wall

        both-dot : (x : Row) → dot both x ≡ dot a x +ℤ dot wall x
        unfolding both
        both-dot x = raised-dot (pos 1) a wall x ∙ ap (λ t. t +ℤ dot wall x) (one_mul (dot a x))

        length-both : length both ≡ n
        unfolding both
        length-both = length-raised n (pos 1) a wall la length-wall

        both_full : Full n W L both c
        both_full = more both length-both (λ w i. let p = above_rest w i in let q = wall_above w i in rw both-dot (omega (arith, ints))) (λ l i. let p = flat l i in let q = wall_flat l i in rw both-dot (omega (arith, ints))) c tail (both-dot (combination c W) ∙ (let p = wall_on (combination c W) rest_flat in let q = rest_flat in let r = br in omega (arith, ints)))

        -- both are 0 on the sum
        zero_rest : (dot a (combination both_full.e W) ≡ pos 0) × (dot wall (combination both_full.e W) ≡ pos 0)
        unfolding NonNeg
        zero_rest =
            let p = dot_combination a both_full.e W both_full.is_least.not_negative above_rest in
            let q = dot_combination wall both_full.e W both_full.is_least.not_negative wall_above in
            let s = sym (both-dot (combination both_full.e W)) ∙ both_full.flat in
            (omega (arith, ints), omega (arith, ints))

        on_wall : (X : List Row) → HasCols n X → ((j : ℕ) → j < length W → pos 0 <ℤ at both_full.e j → Among (ray W j) X) → Among v X → (w : Row) → Among w W → dot a w ≡ pos 0 → InSpan (X ++ L) w
        unfolding Spans
        on_wall X hX f iv w i z =
            facet_span n on.rows L rows_cols hL b v lv fb inside (λ e. let q = bv in omega (arith, ints)) (X ++ L) (all_append (λ (x : Row). length x ≡ n) X L hX hL)
            (λ g j e. let (jg, zg) = on.some g j in both_full.spans X hX f g jg (both-dot g ∙ (let p = wall_on g zg in omega (arith, ints))))
            (λ l j. in_line (among_append_right X j)) (in_line (among_append_left L iv)) w (cols_at i hW) (in_line (among_append_left L (on.every w i z)))

        with_head : Full n (v ∷ W) L a (c0 ∷ c)
        unfolding Spans
        with_head = record {
          e = pos 1 ∷ both_full.e;
          is_least = least_wall W L v wall wall_above wall_flat wall_below both_full.e zero_rest.1 both_full.is_least;
          flat = simp (dot-plus, dot-times) (joined_zero (pos 1) (dot a v) (dot a (combination both_full.e W)) (inr av) zero_rest.0);
          more = more_at;
          spans = spans;
        }
          where
            more_at : (j : ℕ) → pos 0 <ℤ at (c0 ∷ c) j → pos 0 <ℤ at (pos 1 ∷ both_full.e) j
            more_at zero h = lt_z_yes tt
            more_at (suc j) h = both_full.more j h

            spans : (X : List Row) → HasCols n X → ((j : ℕ) → j < length (v ∷ W) → pos 0 <ℤ at (pos 1 ∷ both_full.e) j → Among (ray (v ∷ W) j) X) → (w : Row) → Among w (v ∷ W) → dot a w ≡ pos 0 → InSpan (X ++ L) w
            spans X hX f w here z = in_line (among_append_left L (f 0 (omega arith) (lt_z_yes tt)))
            spans X hX f w (there i) z = on_wall X hX (λ j l p. f (suc j) (omega arith) p) (f 0 (omega arith) (lt_z_yes tt)) w i z

      null_at : (e : Row) → Vanishes n on.rows L e → (N : ℤ) → dot e (plus (times N (combination c W)) v) ≡ pos 0
      null_at e van N =
          let on_g : (g : Row) → Among g on.rows → dot e g ≡ pos 0 = λ g i. van.holds g (cols_at i rows_cols) (in_generator i) in
          let on_l : (l : Row) → Among l L → dot e l ≡ pos 0 = λ l i. van.holds l (cols_at i hL) (in_line i) in
          let zy = null_in e on.rows L on_g on_l rest_in in
          let zv = null_in e [] (on.rows ++ L) (λ g i. elim i [ ]) (λ l i. elim (among_append on.rows L i) [ inl j ↦ on_g l j | inr j ↦ on_l l j ]) inside in
          simp (dot-plus, dot-times) (joined_zero N (dot e (combination c W)) (dot e v) (inr zy) zv)

      -- there is such a facet row, since the sum is least
      some_wall : Full n (v ∷ W) L a (c0 ∷ c)
      unfolding Wall
      some_wall =
          let (F, E, hE, order, van, gen, cut) = facet_rows_cut_out n on.rows L rows_cols hL in
          let facet : (b : Row) → Among b F → IsFacetRow n on.rows L b = λ b i. among_All (λ b. IsFacetRow n on.rows L b) i order.each in
          elim (wall_or_room F (combination c W) v (λ b i. valid_dot n on.rows L rows_cols hL b (facet b i).inside rest_in)) [
            | inl g ↦ with_head g.0 (facet g.0 g.1) g.2 g.3
            | inr r ↦ absurd (no_more W L v c0 c lc up r.n r.positive
                (in_of W on.rows L (λ g i. (on.some g i).0)
                ((cut (plus (times r.n (combination c W)) v) (length_above n r.n c W v hW lv)).1 (
                  cut_from F (plus (times r.n (combination c W)) v) (λ b i. let p = r.above b i in simp (dot-plus, dot-times) p),
                  All_among (λ e. dot e (plus (times r.n (combination c W)) v) ≡ pos 0) E (λ e i. null_at e ((van e (cols_at i hE)).1 (in_line i)) r.n),
                ))))
          ]

pub full : (n : ℕ) (W L : List Row) → HasCols n W → HasCols n L → (a : Row) → length a ≡ n → ((w : Row) → Among w W → pos 0 ≤ℤ dot a w) → ((l : Row) → Among l L → dot a l ≡ pos 0) → (c : List ℤ) → IsLeast W L c → dot a (combination c W) ≡ pos 0 → Full n W L a c
unfolding Spans
full n [] L hW hL a la above flat c lc fc = record { e = c; is_least = lc; flat = fc; more = λ j h. h; spans = λ X hX f w i z. elim i [ ] }
full n (v ∷ W) L hW hL a la above flat [] lc fc = absurd (let l = lc.as_many in omega arith)
full n (v ∷ W) L hW hL a la above flat (c0 ∷ c) lc fc =
    by_lt_z (pos 0) (dot a v)
    (λ up. off_row n W L v a hW.1 hL hW.0 la above flat (λ b lb f e d ld fd. full n W L hW.1 hL b lb f e d ld fd) c0 c lc fc up)
    (λ none.
    let p = above v here in
    let av : dot a v ≡ pos 0 = omega (arith, ints) in
    elim (membership_decided n [] ((on_row a W).rows ++ L) tt (all_append (λ (x : Row). length x ≡ n) (on_row a W).rows L (all_from (λ (x : Row). length x ≡ n) (on_row a W).rows (λ g i. cols_at ((on_row a W).some g i).0 hW.1)) hL) v hW.0) [
      | inl h ↦ by_lt_z (pos 0) c0
          (λ up. some_wall n W L v a hW.1 hL hW.0 la above flat (λ b lb f e d ld fd. full n W L hW.1 hL b lb f e d ld fd) c0 c lc fc av h up)
          (λ low. let h0 = lc.not_negative.0 in no_head n W L v a hW.1 hL hW.0 la above flat (λ b lb f e d ld fd. full n W L hW.1 hL b lb f e d ld fd) c0 c lc fc av h (omega (arith, ints)))
      | inr out ↦ outside_row n W L v a hW.1 hL hW.0 la above flat (λ b lb f e d ld fd. full n W L hW.1 hL b lb f e d ld fd) c0 c lc fc av out
    ])
