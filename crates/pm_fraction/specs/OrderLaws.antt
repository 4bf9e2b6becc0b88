-- The laws of the order of fractions, which `Ord` asks for: it is total, and two pairs tie only where they are one
-- pair.
use Rattle.pm_vector.proofs.Ring.{ring}
use Rattle.pm_vector.proofs.Signs.{mul_pos, pos_cancel}
use Rattle.pm_vector.specs.Numbers.{Ratio}
use Rattle.pm_fraction.specs.Order.{cross_cmp, fraction_cmp, parts_cmp, positive_den}
use Rattle.std.proofs.Common.{ap, ap₂, arith, refl, subst, sym, ◌∙◌}
use Rattle.std.proofs.lemmas.Cmp.{int_cmp_total, int_ranked, on_total, tied_itself, then_total}
use Rattle.std.proofs.lemmas.Int.{ints}
use Rattle.std.specs.Cmp.{Equal-is, IsTotalOrder, both_ways}
use Rattle.std.specs.Ordering.{MatchOrdering, eq_by_cmp, int_cmp, int_eq, is_eq, ordering_then}
use Rattle.std.specs.Prelude.{Bool, false, true, ◌&&◌, ◌≡◌}
use Rattle.std.specs.declared.cmp.Ordering.TheVariants.{Equal, Greater, Less}
use Rattle.std.specs.declared.cmp.Ordering.{Ordering}
use lib.IntN.{pos, ℤ, ◌*ℤ◌, ◌-ℤ◌}
use lib.Signed.{◌<ℤ◌}

-- ---- what an answer of `int_cmp` says, and what says it
pub when_less : (a b : ℤ) → int_cmp a b ≡ Less → a <ℤ b
when_less a b e = subst (λ (o : Ordering). MatchOrdering o (a <ℤ b) (a ≡ b) (b <ℤ a)) e
    (int_ranked a b (int_cmp a b) refl)

pub when_equal : (a b : ℤ) → int_cmp a b ≡ Equal → a ≡ b
when_equal a b e = subst (λ (o : Ordering). MatchOrdering o (a <ℤ b) (a ≡ b) (b <ℤ a)) e
    (int_ranked a b (int_cmp a b) refl)

pub when_greater : (a b : ℤ) → int_cmp a b ≡ Greater → b <ℤ a
when_greater a b e = subst (λ (o : Ordering). MatchOrdering o (a <ℤ b) (a ≡ b) (b <ℤ a)) e
    (int_ranked a b (int_cmp a b) refl)

answer : (a b : ℤ) (P Q : Ordering → Type 0) (o : Ordering) → int_cmp a b ≡ o → Q o → P o → P o
answer a b P Q o e q p = p

pub says_less : (a b : ℤ) → a <ℤ b → int_cmp a b ≡ Less
says_less a b h = by_answer (int_cmp a b) refl
  where
    by_answer : (o : Ordering) → int_cmp a b ≡ o → int_cmp a b ≡ Less
    by_answer Less e = e
    by_answer Equal e = absurd (let f = when_equal a b e in omega (arith, ints))
    by_answer Greater e = absurd (let f = when_greater a b e in omega (arith, ints))

pub says_greater : (a b : ℤ) → b <ℤ a → int_cmp a b ≡ Greater
says_greater a b h = by_answer (int_cmp a b) refl
  where
    by_answer : (o : Ordering) → int_cmp a b ≡ o → int_cmp a b ≡ Greater
    by_answer Less e = absurd (let f = when_less a b e in omega (arith, ints))
    by_answer Equal e = absurd (let f = when_equal a b e in omega (arith, ints))
    by_answer Greater e = e

pub says_equal : (a b : ℤ) → a ≡ b → int_cmp a b ≡ Equal
says_equal a b e = subst (λ (z : ℤ). int_cmp a z ≡ Equal) e (tied_itself int_cmp_total a)

-- a positive factor of both changes nothing
lt_cancel : (k a b : ℤ) → pos 0 <ℤ k → (k *ℤ a) <ℤ (k *ℤ b) → a <ℤ b
lt_cancel k a b h l =
    let d : pos 0 <ℤ (k *ℤ (b -ℤ a)) = simp ring (omega (arith, ints)) in
    let p = pos_cancel h d in
    omega (arith, ints)

lt_times : (k a b : ℤ) → pos 0 <ℤ k → a <ℤ b → (k *ℤ a) <ℤ (k *ℤ b)
lt_times k a b h l =
    let d : pos 0 <ℤ (b -ℤ a) = omega (arith, ints) in
    let p = simp ring at (mul_pos h d) in
    omega (arith, ints)

pub int_cmp-times : (k a b : ℤ) → pos 0 <ℤ k → int_cmp (k *ℤ a) (k *ℤ b) ≡ int_cmp a b
int_cmp-times k a b h = by_answer (int_cmp a b) refl
  where
    by_answer : (o : Ordering) → int_cmp a b ≡ o → int_cmp (k *ℤ a) (k *ℤ b) ≡ int_cmp a b
    by_answer Less e = says_less (k *ℤ a) (k *ℤ b) (lt_times k a b h (when_less a b e)) ∙ sym e
    by_answer Equal e = says_equal (k *ℤ a) (k *ℤ b) (ap (λ (z : ℤ). k *ℤ z) (when_equal a b e)) ∙ sym e
    by_answer Greater e = says_greater (k *ℤ a) (k *ℤ b) (lt_times k b a h (when_greater a b e)) ∙ sym e

-- ---- cross products order all pairs
den_positive : (r : Ratio) → pos 0 <ℤ positive_den r
den_positive r = omega (arith, ints)

-- a / q = b / r, so they compare alike with c / s
alike : (a b c q r s : ℤ) → pos 0 <ℤ q → pos 0 <ℤ r → a *ℤ r ≡ b *ℤ q
    → int_cmp (a *ℤ s) (c *ℤ q) ≡ int_cmp (b *ℤ s) (c *ℤ r)
alike a b c q r s hq hr e =
    let left : r *ℤ (a *ℤ s) ≡ q *ℤ (b *ℤ s) =
    (let f = simp ring at (ap (λ (z : ℤ). s *ℤ z) e) in simp ring (omega (arith, ints))) in
    let right : r *ℤ (c *ℤ q) ≡ q *ℤ (c *ℤ r) = simp ring in
    sym (int_cmp-times r (a *ℤ s) (c *ℤ q) hr) ∙ ap₂ int_cmp left right ∙ int_cmp-times q (b *ℤ s)
    (c *ℤ r) hq

below_below : (a b c q r s : ℤ) → pos 0 <ℤ q → pos 0 <ℤ r → pos 0 <ℤ s → (a *ℤ r) <ℤ (b *ℤ q)
    → (b *ℤ s) <ℤ (c *ℤ r) → (a *ℤ s) <ℤ (c *ℤ q)
below_below a b c q r s hq hr hs h k =
    let f = simp ring at (lt_times s (a *ℤ r) (b *ℤ q) hs h) in
    let g = simp ring at (lt_times q (b *ℤ s) (c *ℤ r) hq k) in
    lt_cancel r (a *ℤ s) (c *ℤ q) hr (simp ring (omega (arith, ints)))

pub cross_cmp_total : IsTotalOrder cross_cmp
cross_cmp_total = record {
  antisymm = λ x y. int_cmp_total.antisymm (x.num *ℤ positive_den y) (y.num *ℤ positive_den x);
  trans = λ x y z e f.
      says_less (x.num *ℤ positive_den z) (z.num *ℤ positive_den x)
      (below_below x.num y.num z.num (positive_den x) (positive_den y) (positive_den z) (den_positive x)
      (den_positive y) (den_positive z) (when_less _ _ e) (when_less _ _ f));
  congr = λ x y z e. alike x.num y.num z.num (positive_den x) (positive_den y) (positive_den z)
      (den_positive x) (den_positive y) (when_equal _ _ e);
}

pub parts_cmp_total : IsTotalOrder parts_cmp
parts_cmp_total = then_total (on_total (λ r. r.den) int_cmp_total) (on_total (λ r. r.num) int_cmp_total)

pub fraction_cmp_total : IsTotalOrder fraction_cmp
fraction_cmp_total = then_total cross_cmp_total parts_cmp_total

-- ---- two pairs tie only where they are one pair
tie_first : (a b : Ordering) → ordering_then a b ≡ Equal → a ≡ Equal
tie_first Less b e = e
tie_first Equal b e = refl
tie_first Greater b e = e

tie_second : (a b : Ordering) → ordering_then a b ≡ Equal → b ≡ Equal
tie_second Less b e = cc
tie_second Equal b e = e
tie_second Greater b e = cc

both : (a b : Bool) → (a && b) ≡ true → (a ≡ true) × (b ≡ true)
both true b e = (refl, e)
both false b e = cc

pub same_numbers : (a b : ℤ) → int_eq a b ≡ true → a ≡ b
same_numbers a b e = when_equal a b ((Equal-is (int_cmp a b)).0 e)

tied_parts : (x y : Ratio) → x.num ≡ y.num → x.den ≡ y.den → fraction_cmp x y ≡ Equal
tied_parts x y e f = ap (fraction_cmp x) (ap₂ pair (sym e) (sym f)) ∙ tied_itself fraction_cmp_total x
  where
    pair : ℤ → ℤ → Ratio
    pair n d = record { num = n; den = d }

pub fraction_cmp_ties : (x y : Ratio) → (int_eq x.num y.num && int_eq x.den y.den)
    ≡ eq_by_cmp fraction_cmp x y
fraction_cmp_ties x y =
    both_ways (int_eq x.num y.num && int_eq x.den y.den) (eq_by_cmp fraction_cmp x y)
    (λ e. let p = both (int_eq x.num y.num) (int_eq x.den y.den) e in ap is_eq
    (tied_parts x y (same_numbers x.num y.num p.0) (same_numbers x.den y.den p.1)))
    (λ e. let all = (Equal-is (fraction_cmp x y)).0 e in
    let parts = tie_second (cross_cmp x y) (parts_cmp x y) all in
    let dens = tie_first (int_cmp x.den y.den) (int_cmp x.num y.num) parts in
    let nums = tie_second (int_cmp x.den y.den) (int_cmp x.num y.num) parts in
    rw (nums, dens) refl)
