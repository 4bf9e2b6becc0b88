-- The greatest value of an objective at the points of a cone, by the slacks at its rays and lines.
use Rattle.pm_geom.specs.Programs.{HasNoPoint, IsMaximum, IsTimes, IsWithoutBound}
use Rattle.pm_types.specs.Programs.{HasValueAt}
use Rattle.pm_vector.proofs.ConeLaws.{dot_in, in_generator, in_line, in_line_opposite}
use Rattle.pm_vector.proofs.Lists.{Among, all_at, among_All, here, there}
use Rattle.pm_vector.proofs.Ring.{ring}
use Rattle.pm_vector.proofs.RowLaws.{dot-difference, dot-same, dot-times, dot_comm, entry-opposite, entry-times, length-opposite}
use Rattle.pm_vector.proofs.Signs.{le_cancel, mul_cancel, mul_le, weaken}
use Rattle.pm_vector.specs.Bases.{row_at}
use Rattle.pm_vector.specs.Cones.{InCone}
use Rattle.pm_vector.specs.Numbers.{Ratio}
use Rattle.pm_vector.specs.Rows.{HasCols, Row, difference, dot, entry, opposite, ratio_at, times}
use Rattle.pm_wide_programs.specs.Slacks.{IsAhead, IsGreatestAt, Rises, Turns, slack_of}
use Rattle.std.proofs.Common.{ap, arith, refl, subst, sym, ◌∙◌}
use Rattle.std.proofs.lemmas.Int.{by_lt_z, ints}
use Rattle.std.proofs.lemmas.List.{get_or_past}
use Rattle.std.specs.List.{All}
use Rattle.std.specs.Prelude.{List, [], length, suc, zero, ℕ, ◌<◌, ◌∷◌, ◌≡◌}
use lib.IntN.{neg_ℤ, negsuc, pos, ℤ, ◌*ℤ◌, ◌-ℤ◌}
use lib.Signed.{◌<ℤ◌, ◌≤ℤ◌}
use native.Mathlib.Decide.{dec_lt}

-- ---- rows by their places
pub place_among : (X : List Row) (j : ℕ) → j < length X → Among (row_at X j) X
place_among [] j l = absurd (omega arith)
place_among (x ∷ X) zero l = here
place_among (x ∷ X) (suc j) l = there (place_among X j (omega arith))

among_place : {x : Row} {X : List Row} → Among x X → (j : ℕ) × (j < length X) × (row_at X j ≡ x)
among_place here = (0, omega arith, refl)
among_place (there i) = let (j, l, e) = among_place i in (suc j, omega arith, e)

-- ---- the slack as a product
first : (m : ℤ) (x : Row) → dot (m ∷ []) x ≡ m *ℤ entry x 0
first m [] = simp ring
first m (a ∷ x) = omega (arith, ints)

-- m x0 - d w.x
slack_product : (m d : ℤ) (w x : Row) → dot (difference m (pos 1 ∷ []) d w) x ≡ m *ℤ entry x 0 -ℤ d *ℤ dot w x
slack_product m d w x =
    let e : dot x (pos 1 ∷ []) ≡ entry x 0 = dot_comm x (pos 1 ∷ []) ∙ first (pos 1) x ∙ (simp ring) in
    dot_comm (difference m (pos 1 ∷ []) d w) x ∙ dot-difference x m (pos 1 ∷ []) d w ∙ ap (λ z. m *ℤ z -ℤ d *ℤ dot x w) e ∙ ap (λ z. m *ℤ entry x 0 -ℤ d *ℤ z) (dot_comm x w)

-- ---- an objective that w is, k times
module _ (c : List Ratio) (k : ℤ) (w : Row) (tc : IsTimes k c w) where
  -- another whole multiple of it
  entries : (h : ℤ) (X : Row) → IsTimes h c X → (i : ℕ) → entry (times k X) i ≡ entry (times h w) i
  entries h X t i = elim (dec_lt i (length c)) [
    | yes l ↦ entry-times k X i ∙ within (entry X i) (entry w i) (ratio_at c i).den (ratio_at c i).num (tc.denominators i l) (t.same i l) (tc.same i l) ∙ sym (entry-times h w i)
    | no n ↦
        let p = get_or_past X i (pos 0) (let e = t.cols in omega arith) in
        let q = get_or_past w i (pos 0) (let e = tc.cols in omega arith) in
        entry-times k X i ∙ none k (entry X i) p ∙ sym (entry-times h w i ∙ none h (entry w i) q)
  ]
    where
      none : (m z : ℤ) → z ≡ pos 0 → m *ℤ z ≡ pos 0
      none m z e = ap (λ u. m *ℤ u) e ∙ (simp ring)

      within : (u e d n : ℤ) → pos 0 <ℤ d → u *ℤ d ≡ h *ℤ n → e *ℤ d ≡ k *ℤ n → k *ℤ u ≡ h *ℤ e
      within u e d n hd f g = mul_cancel hd (left ∙ ap (λ z. k *ℤ z) f ∙ middle ∙ ap (λ z. h *ℤ z) (sym g) ∙ right)
        where
          left : d *ℤ (k *ℤ u) ≡ k *ℤ (u *ℤ d)
          left = simp ring

          middle : k *ℤ (h *ℤ n) ≡ h *ℤ (k *ℤ n)
          middle = simp ring

          right : h *ℤ (e *ℤ d) ≡ d *ℤ (h *ℤ e)
          right = simp ring

  products : (h : ℤ) (X x : Row) → IsTimes h c X → k *ℤ dot X x ≡ h *ℤ dot w x
  products h X x t =
      ap (λ z. k *ℤ z) (dot_comm X x) ∙ sym (dot-times x k X) ∙ dot-same x (times k X) (times h w) (entries h X t) ∙ dot-times x h w
      ∙ ap (λ z. h *ℤ z) (dot_comm x w)

  -- ---- without slack it has the value, and only so
  pub value_at : (v : Ratio) (x : Row) → slack_of k w v x ≡ pos 0 → HasValueAt c v x
  value_at v x e = record { k = k; objective = w; times = tc; value = stands (dot w x) (entry x 0) v.num v.den e }
    where
      stands : (p y n d : ℤ) → (n *ℤ k) *ℤ y -ℤ d *ℤ p ≡ pos 0 → p *ℤ d ≡ (k *ℤ y) *ℤ n
      stands p y n d e = let a : d *ℤ p ≡ (n *ℤ k) *ℤ y = omega (arith, ints) in let b = simp ring at a in simp ring (omega (arith, ints))

  pub without_slack : (v : Ratio) (x : Row) → HasValueAt c v x → slack_of k w v x ≡ pos 0
  without_slack v x h = vanishing h.k (dot h.objective x) (dot w x) (entry x 0) v.num v.den h.times.positive (products h.k h.objective x h.times) h.value
    where
      same : (h D W y n d : ℤ) → pos 0 <ℤ h → k *ℤ D ≡ h *ℤ W → D *ℤ d ≡ (h *ℤ y) *ℤ n → (n *ℤ k) *ℤ y ≡ d *ℤ W
      same h D W y n d hh e f =
          mul_cancel hh
          (let a = simp ring at (ap (λ z. d *ℤ z) e) in
          let b = simp ring at (ap (λ z. k *ℤ z) f) in
          simp ring (omega (arith, ints)))

      vanishing : (h D W y n d : ℤ) → pos 0 <ℤ h → k *ℤ D ≡ h *ℤ W → D *ℤ d ≡ (h *ℤ y) *ℤ n → (n *ℤ k) *ℤ y -ℤ d *ℤ W ≡ pos 0
      vanishing h D W y n d hh e f = let g = same h D W y n d hh e f in omega (arith, ints)

  module _ (V L : List Row) (rays : HasCols (length w) V) (lines : HasCols (length w) L) (flat : All (λ x. entry x 0 ≡ pos 0) L) where
    cols : (X : List Row) → HasCols (length w) X → (g : Row) → Among g X → length g ≡ length c
    cols X h g i = all_at (λ (x : Row). length x ≡ length w) i h ∙ tc.cols

    line_flat : (l : Row) → Among l L → entry l 0 ≡ pos 0
    line_flat l i = among_All (λ (x : Row). entry x 0 ≡ pos 0) i flat

    -- ---- the greatest value
    module _ (v : Ratio) (found : IsGreatestAt k w V v) (still : (j : ℕ) → j < length L → dot w (row_at L j) ≡ pos 0) where
      line_still : (l : Row) → Among l L → dot w l ≡ pos 0
      line_still l i = let (j, m, e) = among_place i in subst (λ (x : Row). dot w x ≡ pos 0) e (still j m)

      bounded : (y : Row) → InCone V L y → pos 0 ≤ℤ slack_of k w v y
      bounded y h =
          rw (← slack_product (v.num *ℤ k) v.den w y)
          (dot_in (difference (v.num *ℤ k) (pos 1 ∷ []) v.den w) V L (λ g i. rw (slack_product (v.num *ℤ k) v.den w g) (all_at (λ x. pos 0 ≤ℤ slack_of k w v x) i found.greatest))
          (λ l i. slack_product (v.num *ℤ k) v.den w l ∙ none (v.num *ℤ k) v.den (entry l 0) (dot w l) (line_flat l i) (line_still l i)) h)
        where
          none : (m d a b : ℤ) → a ≡ pos 0 → b ≡ pos 0 → m *ℤ a -ℤ d *ℤ b ≡ pos 0
          none m d a b e f = rw (e, f) (simp ring)

      exceeded : (h D W y n d : ℤ) → k *ℤ D ≡ h *ℤ W → pos 0 ≤ℤ ((n *ℤ k) *ℤ y -ℤ d *ℤ W) → pos 0 <ℤ h → (D *ℤ d) ≤ℤ ((h *ℤ y) *ℤ n)
      exceeded h D W y n d e f hh =
          let under : (d *ℤ W) ≤ℤ ((n *ℤ k) *ℤ y) = omega (arith, ints) in
          let a = simp ring at (mul_le (weaken hh) under) in
          let b = simp ring at (ap (λ z. d *ℤ z) e) in
          le_cancel tc.positive (simp ring (omega (arith, ints)))

      pub greatest_found : IsMaximum (InCone V L) c v
      greatest_found =
          let inside = place_among V found.place found.within in
          let at = value_at v (row_at V found.place) found.stands.level in
          record {
            attained = record {
              k = at.k;
              objective = at.objective;
              whole = row_at V found.place;
              times = at.times;
              cols = cols V rays (row_at V found.place) inside;
              inside = in_generator inside;
              first = found.stands.first;
              positive = found.stands.positive;
              value = at.value;
            };
            greatest = record { holds = λ h X y t i p. exceeded h (dot X y) (dot w y) (entry y 0) v.num v.den (products h X y t) (bounded y i) t.positive };
          }

    -- ---- no bound
    module _ (p : ℕ) (point : IsAhead V p) where
      grows_along : (d : Row) → InCone V L d → length d ≡ length c → entry d 0 ≡ pos 0 → pos 0 <ℤ dot w d → IsWithoutBound (InCone V L) c
      grows_along d h ld level more = record {
        k = k;
        objective = w;
        point = row_at V p;
        direction = d;
        times = tc;
        point_cols = cols V rays (row_at V p) (place_among V p point.within);
        direction_cols = ld;
        point_inside = in_generator (place_among V p point.within);
        direction_inside = h;
        first = point.first;
        level = level;
        improves = more;
      }

      pub grows_by_ray : (j : ℕ) → Rises w V j → IsWithoutBound (InCone V L) c
      grows_by_ray j r = let i = place_among V j r.within in grows_along (row_at V j) (in_generator i) (cols V rays (row_at V j) i) r.level r.positive

      pub grows_by_line : (j : ℕ) → Turns w L j → IsWithoutBound (InCone V L) c
      unfolding opposite
      grows_by_line j t =
          by_lt_z (pos 0) (dot w l) (λ up. grows_along l (in_line inside) (cols L lines l inside) (line_flat l inside) up)
          (λ low. grows_along (opposite l) (in_line_opposite inside) (length-opposite l ∙ cols L lines l inside) (entry-opposite l 0 ∙ turned (entry l 0) (line_flat l inside)) (more (dot w l) (dot w (opposite l)) (dot-times w (negsuc 0) l) low t.changes))
        where
          l : Row
          l = row_at L j

          inside : Among l L
          inside = place_among L j t.within

          turned : (z : ℤ) → z ≡ pos 0 → neg_ℤ z ≡ pos 0
          turned z e = omega (arith, ints)

          more : (a b : ℤ) → b ≡ negsuc 0 *ℤ a → a ≤ℤ pos 0 → ¬ (a ≡ pos 0) → pos 0 <ℤ b
          more a b e low some = omega (arith, ints)

-- ---- no point
pub none_ahead : (V L : List Row) → All (λ x. pos 0 ≤ℤ entry x 0) V → All (λ x. entry x 0 ≡ pos 0) L → ((j : ℕ) → ¬ (IsAhead V j)) → HasNoPoint (InCone V L)
none_ahead V L ahead flat none x h up =
    let p = dot_in (negsuc 0 ∷ []) V L (λ g i. let e = first (negsuc 0) g in let f = at_ray g i in omega (arith, ints)) (λ l i. let e = first (negsuc 0) l in let f = among_All (λ (x : Row). entry x 0 ≡ pos 0) i flat in omega (arith, ints)) h in
    let e = first (negsuc 0) x in
    omega (arith, ints)
  where
    at_ray : (g : Row) → Among g V → entry g 0 ≡ pos 0
    at_ray g i =
        let (j, l, e) = among_place i in
        let a = among_All (λ (x : Row). pos 0 ≤ℤ entry x 0) i ahead in
        by_lt_z (pos 0) (entry g 0) (λ up. absurd (none j (record { within = l; first = subst (λ (x : Row). pos 0 <ℤ entry x 0) (sym e) up }))) (λ low. omega (arith, ints))
