-- Fractions in lowest terms: a number has one, and what the arithmetic makes is one.
use Rattle.pm_vector.proofs.Ring.{ring}
use Rattle.pm_vector.proofs.Signs.{mul_cancel, mul_le, pos_cancel, weaken}
use Rattle.pm_vector.specs.Numbers.{IsReduced, Ratio, SameRatio}
use Rattle.pm_fraction.proofs.Bezout.{Bezout, add_multiple, cancel, coprime, divide, from_gcd, product, swap}
use Rattle.pm_fraction.specs.Fractions.{ratio_of}
use Rattle.std.proofs.Common.{ap, ap₂, arith, subst, sym, ◌∙◌}
use Rattle.std.proofs.lemmas.Int.{ints}
use Rattle.std.specs.Prelude.{◌≡◌}
use lib.IntN.{pos, ℤ, ◌*ℤ◌, ◌+ℤ◌}
use lib.Signed.{◌<ℤ◌, ◌≤ℤ◌}

pub bezout_of : (r : Ratio) → IsReduced r → Bezout r.num r.den (pos 1)
bezout_of r h = from_gcd r.num r.den 1 h.coprime

pub reduced_from : (n d : ℤ) → pos 0 <ℤ d → Bezout n d (pos 1) → IsReduced (record { num = n; den = d })
reduced_from n d h w = record { positive = h; coprime = coprime n d w }

-- ---- a number has one fraction in lowest terms
-- d divides e, where n / d = m / e
multiple : (n d m e x y : ℤ) → n *ℤ x +ℤ d *ℤ y ≡ pos 1 → n *ℤ e ≡ m *ℤ d → e ≡ d *ℤ (m *ℤ x +ℤ e *ℤ y)
multiple n d m e x y w s =
    let scaled = ap (λ (z : ℤ). e *ℤ z) w in
    let other = ap (λ (z : ℤ). x *ℤ z) s in
    let a = simp ring at scaled in
    let b = simp ring at other in
    simp ring (omega (arith, ints))

at_least : (d e k : ℤ) → pos 0 <ℤ d → pos 0 <ℤ e → e ≡ d *ℤ k → d ≤ℤ e
at_least d e k hd he f =
    let p : pos 0 <ℤ (d *ℤ k) = subst (λ (z : ℤ). pos 0 <ℤ z) f he in
    let one : pos 1 ≤ℤ k = let q = pos_cancel hd p in omega (arith, ints) in
    let more = mul_le {a = d} {b = pos 1} {c = k} (weaken hd) one in
    let m = simp ring at more in
    omega (arith, ints)

same_den : (n d m e : ℤ) → pos 0 <ℤ d → pos 0 <ℤ e → Bezout n d (pos 1) → Bezout m e (pos 1) → n *ℤ e ≡ m *ℤ d → d ≡ e
same_den n d m e hd he v w s =
    let above = at_least d e (m *ℤ v.x +ℤ e *ℤ v.y) hd he (multiple n d m e v.x v.y v.sum s) in
    let below = at_least e d (n *ℤ w.x +ℤ d *ℤ w.y) he hd (multiple m e n d w.x w.y w.sum (sym s)) in
    omega (arith, ints)

same_num : (n d m e : ℤ) → pos 0 <ℤ d → d ≡ e → n *ℤ e ≡ m *ℤ d → n ≡ m
same_num n d m e h f s =
    mul_cancel h (let t : n *ℤ d ≡ m *ℤ d = subst (λ (z : ℤ). n *ℤ z ≡ m *ℤ d) (sym f) s in simp ring (let u = simp ring at t in omega (arith, ints)))

-- two fractions in lowest terms that are one number are one fraction
pub same_reduced : (p q : Ratio) → IsReduced p → IsReduced q → SameRatio p q → p ≡ q
same_reduced p q hp hq s =
    let dens = same_den p.num p.den q.num q.den hp.positive hq.positive (bezout_of p hp) (bezout_of q hq) s in
    let nums = same_num p.num p.den q.num q.den hp.positive dens s in
    ap₂ ratio_of nums dens

-- ---- the product, where g divides n1 and d2, and h divides n2 and d1
pub product_reduced : (n1 d1 n2 d2 g h u1 v1 u2 v2 : ℤ) → pos 0 <ℤ g → pos 0 <ℤ h
    → n1 ≡ g *ℤ u1 → d2 ≡ g *ℤ v2 → n2 ≡ h *ℤ u2 → d1 ≡ h *ℤ v1
    → Bezout n1 d1 (pos 1) → Bezout n2 d2 (pos 1) → Bezout n1 d2 g → Bezout n2 d1 h
    → Bezout (u1 *ℤ u2) (v1 *ℤ v2) (pos 1)
product_reduced n1 d1 n2 d2 g h u1 v1 u2 v2 hg hh e1 f2 e2 f1 w1 w2 wg wh =
    let a = divide g h u1 v1 n1 d1 e1 f1 w1 in
    let b = cancel g u1 v2 n1 d2 hg e1 f2 wg in
    let c = cancel h u2 v1 n2 d1 hh e2 f1 wh in
    let d = divide h g u2 v2 n2 d2 e2 f2 w2 in
    swap (product (swap (product a b)) (swap (product c d)))

pub product_same : (n1 d1 n2 d2 g h u1 v1 u2 v2 : ℤ) → n1 ≡ g *ℤ u1 → d2 ≡ g *ℤ v2 → n2 ≡ h *ℤ u2 → d1 ≡ h *ℤ v1
    → (u1 *ℤ u2) *ℤ (d1 *ℤ d2) ≡ (n1 *ℤ n2) *ℤ (v1 *ℤ v2)
product_same n1 d1 n2 d2 g h u1 v1 u2 v2 e1 f2 e2 f1 = rw (e1, f2, e2, f1) (simp ring)

-- ---- the sum t / (g a b), where g divides the denominators, t = n1 b + n2 a, and h divides t and g
pub sum_reduced : (n1 d1 n2 d2 g a b t h s k : ℤ) → pos 0 <ℤ g → pos 0 <ℤ h
    → d1 ≡ g *ℤ a → d2 ≡ g *ℤ b → t ≡ n1 *ℤ b +ℤ n2 *ℤ a → t ≡ h *ℤ s → g ≡ h *ℤ k
    → Bezout n1 d1 (pos 1) → Bezout n2 d2 (pos 1) → Bezout d1 d2 g → Bezout t g h
    → Bezout s (a *ℤ (b *ℤ k)) (pos 1)
sum_reduced n1 d1 n2 d2 g a b t h s k hg hh e1 e2 et es eg w1 w2 wg wh =
    let dens = cancel g a b d1 d2 hg e1 e2 wg in
    let first = divide (pos 1) g n1 a n1 d1 (simp ring) e1 w1 in
    let second = divide (pos 1) g n2 b n2 d2 (simp ring) e2 w2 in
    let with_a : Bezout t a (pos 1) = subst (λ (z : ℤ). Bezout z a (pos 1)) (sym et) (add_multiple (n1 *ℤ b) a n2 (swap (product (swap first) dens))) in
    let et' : n2 *ℤ a +ℤ n1 *ℤ b ≡ t = omega (arith, ints) in
    let with_b : Bezout t b (pos 1) = subst (λ (z : ℤ). Bezout z b (pos 1)) et' (add_multiple (n2 *ℤ a) b n1 (swap (product (swap second) (swap dens)))) in
    let one_a = divide h (pos 1) s a t a es (simp ring) with_a in
    let one_b = divide h (pos 1) s b t b es (simp ring) with_b in
    let one_k = cancel h s k t g hh es eg wh in
    product one_a (product one_b one_k)

pub sum_same : (n1 d1 n2 d2 g a b t h s k : ℤ) → d1 ≡ g *ℤ a → d2 ≡ g *ℤ b → t ≡ n1 *ℤ b +ℤ n2 *ℤ a → t ≡ h *ℤ s → g ≡ h *ℤ k
    → s *ℤ (d1 *ℤ d2) ≡ (n1 *ℤ d2 +ℤ n2 *ℤ d1) *ℤ (a *ℤ (b *ℤ k))
sum_same n1 d1 n2 d2 g a b t h s k e1 e2 et es eg =
    let both : (h *ℤ s) *ℤ (a *ℤ b *ℤ k *ℤ g) ≡ (n1 *ℤ b +ℤ n2 *ℤ a) *ℤ (a *ℤ b *ℤ k *ℤ g) = ap (λ (z : ℤ). z *ℤ (a *ℤ b *ℤ k *ℤ g)) (sym es ∙ et) in
    let flat = simp ring at (rw eg at both) in
    rw (e1, e2, eg) (simp ring (let flatter = simp ring at (rw eg at both) in omega (arith, ints)))
