-- Functionals that no row is below: rows above one are outside of the lineality, and a row that is met before any other
-- on the way from one functional to another is needed.
use Rattle.pm_vector.proofs.ConeLaws.{dot_in}
use Rattle.pm_vector.proofs.Lists.{Among, here, there}
use Rattle.pm_vector.proofs.Ring.{ring}
use Rattle.pm_vector.proofs.RowLaws.{dot-difference, dot_comm}
use Rattle.pm_vector.proofs.Signs.{mul_le, mul_nonneg}
use Rattle.pm_vector.specs.Bases.{row_at}
use Rattle.pm_vector.specs.Cones.{InCone}
use Rattle.pm_vector.specs.Rows.{Row, difference, dot, opposite}
use Rattle.pm_geom.proofs.Facets.{dot-opposite}
use Rattle.pm_geom.specs.StatedOrder.{rows_marked}
use Rattle.pm_redund.proofs.Marked.{at_marked, marked_below, set_off}
use Rattle.pm_redund.specs.Keeping.{IsAlone, IsMetAfter, IsNeeded, products}
use Rattle.std.proofs.Common.{arith, inl, inr, refl, subst, sym, ◌∙◌}
use Rattle.std.proofs.lemmas.Int.{by_lt_z, ints}
use Rattle.std.proofs.lemmas.List.{get_or-map, length-map, length-set}
use Rattle.std.specs.Prelude.{IsTrue, List, [], false, get_or, length, slice_set, true, ℕ, ◌<◌, ◌∷◌, ◌≡◌, ◌⊎◌}
use lib.IntN.{*ℤ_comm, pos, ℤ, ◌*ℤ◌, ◌+ℤ◌, ◌-ℤ◌}
use lib.Signed.{◌<ℤ◌, ◌≤ℤ◌}

-- ---- a functional that no row is below
module _ (G L : List Row) (c : Row) (above : (g : Row) → Among g G → pos 0 ≤ℤ dot c g) (level : (l : Row) → Among l L → dot c l ≡ pos 0) where
  pub above_outside : (r : Row) → pos 0 <ℤ dot c r → ¬ (InCone G L (opposite r))
  above_outside r high h =
      let low = dot_in c G L above level h in
      let turned = dot-opposite c r in
      omega (arith, ints)

-- ---- a row that is met alone
difference_dot : (p : ℤ) (y : Row) (q : ℤ) (c a : Row) → dot (difference p y q c) a ≡ p *ℤ dot y a -ℤ q *ℤ dot c a
difference_dot p y q c a =
    let e = dot_comm (difference p y q c) a in
    let d = dot-difference a p y q c in
    let f = dot_comm a y in
    let g = dot_comm a c in
    e ∙ d ∙ rw (f, g) refl

-- c is at most m w at each row of K
record AreBounded (w c : Row) (K : List Row) : Type 0 where
  m : ℤ
  m_least : pos 0 ≤ℤ m
  each : (a : Row) → Among a K → dot c a ≤ℤ (m *ℤ dot w a)

-- w is not negative, and c is 0 where w is
abbrev pub IsOver : Row → Row → Row → Type 0
IsOver w c a = ((dot w a ≡ pos 0) × (dot c a ≡ pos 0)) ⊎ (pos 0 <ℤ dot w a)

record IsBoundedBy (x y : ℤ) : Type 0 where
  n : ℤ
  n_least : pos 0 ≤ℤ n
  low : pos 0 ≤ℤ x
  over : y ≤ℤ (n *ℤ x)

bounded_by : (x y : ℤ) → ((x ≡ pos 0) × (y ≡ pos 0)) ⊎ (pos 0 <ℤ x) → IsBoundedBy x y
bounded_by x y (inl e) = record { n = pos 0; n_least = omega (arith, ints); low = (let a = e.0 in omega (arith, ints)); over = rw (e.0, e.1) (omega (arith, ints)) }
bounded_by x y (inr up) = by_lt_z (pos 0) y
    (λ high. record { n = y; n_least = omega (arith, ints); low = omega (arith, ints); over = (let h : (y *ℤ pos 1) ≤ℤ (y *ℤ x) = mul_le {a = y} {b = pos 1} {c = x} (omega (arith, ints)) (omega (arith, ints)) in omega (arith, ints)) })
    (λ none. record { n = pos 0; n_least = omega (arith, ints); low = omega (arith, ints); over = omega (arith, ints) })

more_bounded : (x y n m : ℤ) → pos 0 ≤ℤ x → pos 0 ≤ℤ m → y ≤ℤ (n *ℤ x) → y ≤ℤ ((n +ℤ m) *ℤ x)
more_bounded x y n m low least h = let k = mul_nonneg least low in simp ring (omega (arith, ints))

bounded : (w c : Row) (K : List Row) → ((a : Row) → Among a K → IsOver w c a) → AreBounded w c K
bounded w c [] f = record { m = pos 0; m_least = omega (arith, ints); each = λ a i. elim i [ ] }
bounded w c (b ∷ K) f =
    let h = bounded w c K (λ a i. f a (there i)) in
    let g = bounded_by (dot w b) (dot c b) (f b here) in
    record { m = g.n +ℤ h.m; m_least = (let p = g.n_least in let q = h.m_least in omega (arith, ints)); each = each g h }
  where
    each : (g : IsBoundedBy (dot w b) (dot c b)) (h : AreBounded w c K) (a : Row) → Among a (b ∷ K) → dot c a ≤ℤ ((g.n +ℤ h.m) *ℤ dot w a)
    each g h a here = more_bounded (dot w b) (dot c b) g.n h.m g.low h.m_least g.over
    each g h a (there i) =
        let low = (bounded_by (dot w a) (dot c a) (f a (there i))).low in
        let k = more_bounded (dot w a) (dot c a) h.m g.n low g.n_least (h.each a i) in
        let e : (h.m +ℤ g.n) ≡ (g.n +ℤ h.m) = omega (arith, ints) in
        subst (λ (z : ℤ). dot c a ≤ℤ (z *ℤ dot w a)) e k

-- w is 0 at k and c is not: so k is in no cone of rows at which w is over c
module _ (K L : List Row) (w c k : Row) (over : (a : Row) → Among a K → IsOver w c a) (zero_w : (l : Row) → Among l L → dot w l ≡ pos 0) (zero_c : (l : Row) → Among l L → dot c l ≡ pos 0) where
  pub apart_by : dot w k ≡ pos 0 → pos 0 <ℤ dot c k → ¬ (InCone K L k)
  apart_by flat high h =
      let b = bounded w c K over in
      let low = dot_in (difference b.m w (pos 1) c) K L
      (λ a i. rw (difference_dot b.m w (pos 1) c a) (let p = b.each a i in omega (arith, ints)))
      (λ l i. difference_dot b.m w (pos 1) c l ∙ rw (zero_w l i, zero_c l i) (omega (arith, ints))) h in
      let e = difference_dot b.m w (pos 1) c k in
      let z : b.m *ℤ dot w k ≡ pos 0 = rw flat (omega (arith, ints)) in
      omega (arith, ints)

-- ---- levels and heights
pub product_at : (y : Row) (G : List Row) (i : ℕ) → i < length G → get_or (products y G) i (pos 0) ≡ dot y (row_at G i)
product_at y G i l = get_or-map (λ (x : Row). dot y x) G i [] (pos 0) l

module _ (G L : List Row) (y c : Row) (k : ℕ) (within : k < length G) (alone : IsAlone (products y G) (products c G) k) (zero_y : (l : Row) → Among l L → dot y l ≡ pos 0) (zero_c : (l : Row) → Among l L → dot c l ≡ pos 0) where
  w : Row
  w = difference (dot c (row_at G k)) y (dot y (row_at G k)) c

  over_at : (j : ℕ) → j < length G → ¬ (j ≡ k) → IsOver w c (row_at G j)
  unfolding w
  over_at j l ne =
      let met : IsMetAfter (products y G) (products c G) k j = alone.first j (let e = length-map G (λ (x : Row). dot y x) in omega arith) ne in
      let e = difference_dot (dot c (row_at G k)) y (dot y (row_at G k)) c (row_at G j) in
      let a = product_at y G j l in
      let b = product_at c G j l in
      let p = product_at y G k within in
      let q = product_at c G k within in
      elim met [
        | inl z ↦
            let za : dot y (row_at G j) ≡ pos 0 = sym a ∙ z.0 in
            let zb : dot c (row_at G j) ≡ pos 0 = sym b ∙ z.1 in
            inl (e ∙ rw (za, zb) (omega (arith, ints)), zb)
        | inr m ↦
            let n : (dot y (row_at G k) *ℤ dot c (row_at G j)) <ℤ (dot y (row_at G j) *ℤ dot c (row_at G k)) = rw (a, b, p, q) at m in
            inr (rw e (let s : dot c (row_at G k) *ℤ dot y (row_at G j) ≡ dot y (row_at G j) *ℤ dot c (row_at G k) = *ℤ_comm (dot c (row_at G k)) (dot y (row_at G j)) in omega (arith, ints)))
      ]

  pub alone_needed : IsNeeded G L k
  unfolding w
  alone_needed marks h =
      let high : pos 0 <ℤ dot c (row_at G k) = subst (λ (z : ℤ). pos 0 <ℤ z) (product_at c G k within) alone.high in
      apart_by (rows_marked true (slice_set marks k false) G) L w c (row_at G k) over
      (λ l i. difference_dot (dot c (row_at G k)) y (dot y (row_at G k)) c l ∙ rw (zero_y l i, zero_c l i) (omega (arith, ints)))
      zero_c
      (difference_dot (dot c (row_at G k)) y (dot y (row_at G k)) c (row_at G k) ∙ (let e = *ℤ_comm (dot c (row_at G k)) (dot y (row_at G k)) in omega (arith, ints))) high h
    where
      other : (p : ℕ) → IsTrue (get_or (slice_set marks k false) p false) → ¬ (p ≡ k)
      other p t e =
          let l = marked_below (slice_set marks k false) p t in
          set_off marks k (let n = length-set marks k false in omega arith) (subst (λ (j : ℕ). IsTrue (get_or (slice_set marks k false) j false)) e t)

      over : (a : Row) → Among a (rows_marked true (slice_set marks k false) G) → IsOver w c a
      over a i =
          let p = at_marked (slice_set marks k false) G i in
          subst (λ (x : Row). IsOver w c x) p.is (over_at p.i p.within (other p.i p.marked))
